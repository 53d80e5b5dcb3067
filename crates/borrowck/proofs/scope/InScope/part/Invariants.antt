-- `borrowck::scope::InScope::part` meets its contract. Assumes nothing.
use Rattle.borrowck.proofs.ScopeLaws.{Gathering}
use Rattle.borrowck.proofs.scope.InScope.part.Given as goal

abbrev pub invariant-loop-i : goal.invariant-loop-i
invariant-loop-i l = Gathering l.self.loans.now.loans l.self.loans.now.count l.self.scope.now l.self.p l.from l.i l.n l.held
