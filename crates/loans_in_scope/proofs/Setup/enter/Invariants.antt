-- `loans_in_scope::Setup::enter`. The loop's invariant: the first i loans are in both tables. Assumes nothing.
use mathlib.Core.Path.{◌≡◌}
use lib.ListN.{length}
use Rattle.loans_in_scope.specs.Gains.{Gains}
use Rattle.loans_in_scope.specs.Filling.{Begun, RegionsTo}
use Rattle.loans_in_scope.proofs.Setup.enter.Given as goal

abbrev pub invariant-loop-i : goal.invariant-loop-i
invariant-loop-i l = (length l.start ≡ length l.initial.start) × Begun l.self l.i l.initial.start l.start × Gains (RegionsTo l.self l.i) l.initial.region l.region
