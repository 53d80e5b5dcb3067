-- `infer::Setup::put_ends`. The loop's invariant: the ends below i that the rule passes on are put. Assumes nothing.
use Prim.Native.Nat.{◌-◌, ◌≤◌}
use mathlib.Core.Path.{◌≡◌}
use Rattle.infer.specs.Search.{passes, with_run}
use Rattle.infer.proofs.Setup.put_ends.Given as goal

abbrev pub invariant-loop-i : goal.invariant-loop-i
invariant-loop-i l = (l.self.shape.code ≤ l.i) × (l.i ≤ l.self.shape.points) × (l.points ≡ with_run (passes l.self l.words l.from) l.initial.points l.self.shape.code (l.i - l.self.shape.code))

abbrev pub decreases-loop-i : goal.decreases-loop-i
decreases-loop-i l = l.self.shape.points - l.i
