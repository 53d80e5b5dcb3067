-- `regionck::round::collect` meets its contract. The loop's invariant: the list has the constraints of the points up to p. Assumes nothing.
use native.Mathlib.Omega.{arith}
use Rattle.rerun.proofs.PointLaws.{held_none, held_more}
use Rattle.regionck.proofs.round.collect.Goals as goal

pub loop-p-init : goal.loop-p-init
loop-p-init c = held_none c.clear.ensures.1 (omega arith)

pub loop-p-preserved : goal.loop-p-preserved
loop-p-preserved c = held_more c.point.ensures c.loop-p.invariant (omega arith) (omega arith)
