use mathlib.Core.Path.{◌≡◌}
use lib.ListN.{length}
use Prim.Native.Nat.{◌+◌, ◌≤◌}
use Rattle.env.specs.Steps.{kinds_of, names_of}
use Rattle.env.proofs.PathLaws as laws
use Rattle.env.proofs.paths.steps_on.Given as goal

abbrev pub invariant-loop-ahead : goal.invariant-loop-ahead
invariant-loop-ahead l = record {
  size : length l.taken ≡ 8;
  few : l.ahead.i + length l.ahead.steps.now ≤ 255;
  onward : laws.Onward l.input l.initial.out 0 (kinds_of l.initial.taken) (names_of l.initial.taken) l.initial.ahead.i l.initial.ahead.steps.now l.out 0 (kinds_of l.taken) (names_of l.taken) l.ahead.i l.ahead.steps.now;
}

abbrev pub decreases-loop-ahead : goal.decreases-loop-ahead
decreases-loop-ahead l = length l.ahead.steps.now
