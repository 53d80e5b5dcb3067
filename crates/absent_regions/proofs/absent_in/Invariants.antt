-- `absent_regions::absent_in`. The loop's invariant: the set has the regions that are inner regions of none of the first i constraints. Assumes nothing.
use Rattle.absent_regions.specs.Absent.{AbsentBelow}
use Rattle.absent_regions.proofs.absent_in.Given as goal

abbrev pub invariant-loop-i : goal.invariant-loop-i
invariant-loop-i l = AbsentBelow l.list l.i l.set
