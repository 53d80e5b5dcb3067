-- `refusals::names::ty_named` meets its contract. Assumes nothing.
use Rattle.repr.proofs.ReadLaws.{passed_on}
use Rattle.refusals.proofs.WalkLaws as walks
use Rattle.refusals.proofs.names.ty_named.Goals as goal

pub returns-in_err-type_named : goal.returns-in_err-type_named
returns-in_err-type_named c = rw (passed_on c.from_residual.ensures) (λ j z. walks.whole-fails (c.type_named.ensures.walks j z) c.in_err-type_named.was)

pub returns : goal.returns
returns c = λ j z. walks.whole-passes (c.type_named.ensures.walks j z) c.in_ok-type_named.was
