-- `regionck::round::rest`. The loop's invariant: the constraints of the points from `from` on, up to p, are run. Assumes nothing.
use native.Mathlib.Omega.{arith}
use Rattle.regionck.proofs.RoundLaws.{below_code}
use Rattle.regionck.proofs.round.rest.Goals as goal

pub returns : goal.returns
returns c = (λ ws x. below_code c.loop-p.p (omega arith) (c.loop-p.invariant.0 ws x), c.loop-p.invariant.1, c.loop-p.invariant.2)
