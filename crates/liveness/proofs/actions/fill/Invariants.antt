-- `liveness::actions::fill`. The loop's invariant: the actions of the points below p are done. Assumes nothing.
use mathlib.Core.Path.{◌≡◌}
use lib.ListN.{length}
use Rattle.liveness.proofs.FillLaws.{Acting}
use Rattle.liveness.proofs.actions.fill.Given as goal

abbrev pub invariant-loop-p : goal.invariant-loop-p
invariant-loop-p l = (length l.sets ≡ length l.initial.sets) × (length l.pass ≡ length l.initial.pass) × Acting l.input l.p l.sets l.pass
