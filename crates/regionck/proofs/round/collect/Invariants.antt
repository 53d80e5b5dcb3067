-- `regionck::round::collect` meets its contract. The loop's invariant: the list has the constraints of the points up to p. Assumes nothing.
use Rattle.rerun.specs.Rerun.{Holding}
use Rattle.regionck.proofs.round.collect.Given as goal

abbrev pub invariant-loop-p : goal.invariant-loop-p
invariant-loop-p l = Holding l.setup l.list 0 l.p
