-- `loans_in_scope::overwritten_at`. Assumes nothing.
use Rattle.repr.proofs.ReadLaws.{ok_some}
use Rattle.loans_in_scope.proofs.LoanLaws.{acts_over}
use Rattle.loans_in_scope.proofs.overwritten_at.Goals as goal

pub returns : goal.returns
returns c = λ j h n. acts_over (c.action_at.ensures j h n) (ok_some c.ok.ensures.value c.in_ok-a.was) c.overwrites.ensures
