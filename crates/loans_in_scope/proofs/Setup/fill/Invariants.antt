-- `loans_in_scope::Setup::fill`. The loop's invariant: the loans that may pass the first p points are in their sets. Assumes nothing.
use mathlib.Core.Path.{◌≡◌}
use lib.ListN.{length}
use Rattle.loans_in_scope.proofs.FillLaws.{KeptTo}
use Rattle.loans_in_scope.proofs.Setup.fill.Given as goal

abbrev pub invariant-loop-p : goal.invariant-loop-p
invariant-loop-p l = (length l.pass ≡ length l.initial.pass) × KeptTo l.self l.region l.p l.initial.pass l.pass
