-- `loans_in_scope::mask`. The loop's invariant: the first w words are cut down. Assumes nothing.
use mathlib.Core.List.{◌++◌}
use mathlib.Core.Path.{◌≡◌}
use lib.ListN.{length, drop}
use Rattle.loans_in_scope.specs.Gains.{Masked}
use Rattle.loans_in_scope.proofs.mask.Given as goal

abbrev pub invariant-loop-w : goal.invariant-loop-w
invariant-loop-w l = (length l.set-items ≡ l.n) × Masked l.by l.fn.sets l.w (l.set-items ++ drop l.n l.fn.sets)
