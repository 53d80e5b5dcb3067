-- `borrowck::search::search`. The invariant of the outer loop: no loan below i conflicts; of the inner one: no prefix below k does.
use Rattle.borrowck.proofs.SearchLaws.{Searched, Looked}
use Rattle.borrowck.proofs.search.search.Given as goal

abbrev pub invariant-loop-i : goal.invariant-loop-i
invariant-loop-i l = Searched l.s l.access l.loans l.i

abbrev pub invariant-loop-k : goal.invariant-loop-k
invariant-loop-k l = Looked l.s l.loan l.access l.k
