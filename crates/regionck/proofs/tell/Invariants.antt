-- `regionck::tell`. The loop's invariant: the marks of the first r regions are told. Assumes nothing.
use Rattle.regionck.specs.Rounds.{Tells}
use Rattle.regionck.proofs.tell.Given as goal

abbrev pub invariant-loop-r : goal.invariant-loop-r
invariant-loop-r l = Tells l.grew l.grown l.r
