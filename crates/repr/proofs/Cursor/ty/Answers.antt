-- `repr::Cursor::ty` meets its contract. Assumes nothing.
use Rattle.repr.proofs.ReadLaws.{told, passed_on}
use Rattle.repr.proofs.TypeLaws.{end-left}
use Rattle.repr.specs.Types.{nodes_says}
use Rattle.repr.specs.Reading.{ended}
use native.Mathlib.Omega.{arith}
use mathlib.Core.Path.{sym, ap, ◌∙◌}
use Rattle.repr.proofs.Cursor.ty.Goals as goal

pub returns-in_err-nodes : goal.returns-in_err-nodes
returns-in_err-nodes c = rw (passed_on c.from_residual.ensures) (sym (end-left _ ∙ ap ended (told (nodes_says _) (c.nodes.ensures.same 33 (omega arith)) c.in_err-nodes.was)))

pub returns : goal.returns
returns c = sym (end-left _ ∙ ap ended (told (nodes_says _) (c.nodes.ensures.same 33 (omega arith)) c.in_ok-nodes.was))
