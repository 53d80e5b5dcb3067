-- `replay::room::read`. The loop's invariant: what was there stands first. Assumes nothing.
use Prim.Native.Nat.{◌≤◌}
use mathlib.Core.Path.{◌≡◌}
use lib.ListN.{length, take}
use Rattle.replay.proofs.room.read.Given as goal

abbrev pub invariant-loop : goal.invariant-loop
invariant-loop g l = (length l.initial.file ≤ length l.file) × (take (length l.initial.file) l.file ≡ l.initial.file)
