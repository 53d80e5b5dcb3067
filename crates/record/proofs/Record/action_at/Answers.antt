-- `record::Record::action_at` meets its contract. Assumes nothing.
use Rattle.record.proofs.AccessLaws.{acts_end, acts_there}
use Rattle.record.proofs.Record.action_at.Goals as goal

pub returns-in-Some : goal.returns-in-Some
returns-in-Some c = λ j w l. acts_there w l c.point_at.ensures c.in-Some.is c.action.ensures

pub returns-in-None : goal.returns-in-None
returns-in-None c = λ j w l. acts_end w l c.point_at.ensures _ c.in-None.is
