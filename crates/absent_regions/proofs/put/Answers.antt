-- `absent_regions::put` meets its contract. Assumes nothing.
use native.Mathlib.Omega.{arith}
use Rattle.absent_regions.proofs.AbsentLaws.{puts}
use Rattle.absent_regions.proofs.put.Goals as goal

pub returns : goal.returns
returns c = rw c.union_from.ensures.0 (puts _ _ _ c.absent_in-set.ensures (omega arith))
