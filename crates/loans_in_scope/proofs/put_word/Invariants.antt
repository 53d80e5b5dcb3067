-- `loans_in_scope::put_word`. The loop's invariant: `rest` has the bits from point p on, and the points before it have been put. Assumes nothing.
use mathlib.Core.Path.{◌≡◌}
use Prim.Native.Nat.{◌-◌, ◌/◌, ◌^◌}
use Rattle.loans_in_scope.specs.Gains.{Gains, WordTo}
use Rattle.loans_in_scope.proofs.put_word.Given as goal

abbrev pub invariant-loop-p : goal.invariant-loop-p
invariant-loop-p l = (l.rest ≡ l.w / 2 ^ (l.p - l.from)) × Gains (WordTo l.w l.from l.p l.i) l.initial.sets l.sets
