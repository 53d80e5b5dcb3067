-- `nll::bytes::by_scope`. Assumes nothing.
use Rattle.nll.proofs.ByteLaws.{judges}
use Rattle.nll.proofs.bytes.by_scope.Goals as goal

pub returns : goal.returns
returns c = judges _ _ c.shape_of-shape.ensures.0 c.loans.ensures c.requires c.loans_in_scope.ensures c.borrow_check.ensures
