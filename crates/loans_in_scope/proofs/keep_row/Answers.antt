-- `loans_in_scope::keep_row`. Assumes nothing.
use Prim.Native.Nat.{◌+◌}
use Rattle.loans_in_scope.proofs.GainsLaws.{gains_joined}
use native.Mathlib.Omega.{arith}
use Rattle.loans_in_scope.proofs.keep_row.Goals as goal

pub returns : goal.returns
returns c = let a = c.args in rw c.insert_bits_from_slice.ensures.0 (gains_joined a.pass.now a.region.now (a.p + 1) a.p a.p (omega (arith, c.requires.2)) (omega (arith, c.requires.1)) (omega arith) (omega arith))
