use Rattle.relate.proofs.RelateLaws as laws
use Rattle.relate.proofs.require_outlives.Goals as goal

pub returns-in_default : goal.returns-in_default
returns-in_default c = laws.sup_bound _ c.args.sub c.in_default.is

pub returns-in_default-sub : goal.returns-in_default-sub
returns-in_default-sub c = laws.sub_bound _ c.in-Free.is c.in_default-sub.is

pub returns : goal.returns
returns c = laws.both_free _ c.in-Free.is c.in-Free-sub.is c.add.ensures.0
