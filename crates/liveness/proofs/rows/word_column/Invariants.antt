-- `liveness::rows::word_column`. The loop's invariant: `rest` has the bits from variable v on, and the rows below v are done. Assumes nothing.
use Prim.Native.Nat.{◌-◌, ◌/◌, ◌^◌}
use mathlib.Core.Path.{◌≡◌}
use Rattle.liveness.specs.Rows.{in_word, Column}
use Rattle.liveness.proofs.rows.word_column.Given as goal

abbrev pub invariant-loop-v : goal.invariant-loop-v
invariant-loop-v l = (l.rest ≡ l.w / 2 ^ (l.v - l.first)) × Column l.width l.v (in_word l.w l.first) l.p l.initial.rows l.rows
