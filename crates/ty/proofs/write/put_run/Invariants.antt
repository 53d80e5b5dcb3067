-- `ty::write::put_run` meets its contract. The loop's invariant: the first i bytes are put. Assumes nothing.
use Prim.Native.Nat.{◌+◌}
use mathlib.Core.Path.{◌≡◌}
use mathlib.Core.List.{◌++◌}
use lib.ListN.{length, take}
use Rattle.ty.proofs.write.put_run.Given as goal

abbrev pub invariant-loop-i : goal.invariant-loop-i
invariant-loop-i l = (length l.out ≡ length l.initial.out) × (take (l.at + l.i) l.out ≡ take l.at l.initial.out ++ take l.i l.bytes)
