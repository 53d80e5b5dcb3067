-- `loans::loans` meets its contract. Assumes nothing.
use Rattle.loans.proofs.LendLaws.{Lending}
use Rattle.loans.proofs.loans.Given as goal

abbrev pub invariant-loop-p : goal.invariant-loop-p
invariant-loop-p l = Lending l.graph l.p l.lent
