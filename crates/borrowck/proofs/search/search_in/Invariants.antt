-- `borrowck::search::search_in`. The loop's invariant: no access below k conflicts.
use Rattle.borrowck.proofs.SearchLaws.{Tried}
use Rattle.borrowck.proofs.search.search_in.Given as goal

abbrev pub invariant-loop-k : goal.invariant-loop-k
invariant-loop-k l = Tried l.s l.accesses l.loans l.k
