use Rattle.constraint_list.proofs.ListLaws.{adds-append}
use Rattle.relate.proofs.relate_regions.Goals as goal

pub returns-in-Co : goal.returns-in-Co
returns-in-Co c = rw c.in-Co.is c.require_outlives.ensures

pub returns-in-Contra : goal.returns-in-Contra
returns-in-Contra c = rw c.in-Contra.is c.require_outlives-in-Contra.ensures

pub returns-in-In : goal.returns-in-In
returns-in-In c = rw c.in-In.is (adds-append c.require_outlives-in-In.ensures c.require_outlives-in-In-2.ensures)
