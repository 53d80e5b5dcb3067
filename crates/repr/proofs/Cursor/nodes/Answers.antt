-- `repr::Cursor::nodes` meets its contract. Assumes nothing.
use Rattle.repr.proofs.ReadLaws.{passed_on}
use Rattle.repr.proofs.TypeLaws.{type-refused, type_arguments}
use Rattle.repr.proofs.Cursor.nodes.Goals as goal

pub returns-in_err-first : goal.returns-in_err-first
returns-in_err-first c = rw (passed_on c.from_residual.ensures) (type-refused c.opened.ensures c.in_err-first.was)

pub returns : goal.returns
returns c = type_arguments c.opened.ensures c.in_ok-first.was c.arguments.ensures
