-- `record::Record::kind_at` meets its contract. Assumes nothing.
use Rattle.record.proofs.AccessLaws.{kind_end, kind_there, kind_refused}
use Rattle.std.proofs.Common.{rules}
use mathlib.Core.Path.{◌∙◌}
use Rattle.record.proofs.Record.kind_at.Goals as goal

pub returns-in_default : goal.returns-in_default
returns-in_default c = λ j w l. kind_end w l c.point_at.ensures (search rules)

pub returns-in-Ok : goal.returns-in-Ok
returns-in-Ok c = λ j w l. c.kind.ensures ∙ kind_there w l c.point_at.ensures c.in-Some.is c.byte.ensures c.in-Ok.is

pub returns-in-Err : goal.returns-in-Err
returns-in-Err c = λ j w l. kind_refused w l c.point_at.ensures c.in-Some.is c.byte.ensures c.in-Err.is
