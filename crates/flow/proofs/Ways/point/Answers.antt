-- `flow::Ways::point`. Assumes nothing.
use native.Mathlib.Omega.{arith}
use Rattle.flow.proofs.Ways.point.Goals as goal

pub returns-in-Backward : goal.returns-in-Backward
returns-in-Backward c = (rw c.in-Backward.is, omega arith)
