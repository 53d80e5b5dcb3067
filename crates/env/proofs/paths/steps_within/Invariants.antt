use mathlib.Core.Path.{◌≡◌}
use lib.ListN.{length, drop}
use Prim.Native.Nat.{◌+◌}
use Rattle.env.specs.Steps.{kinds_of, names_of}
use Rattle.env.proofs.PathLaws as laws
use Rattle.env.proofs.paths.steps_within.Given as goal

abbrev pub invariant-loop-k : goal.invariant-loop-k
invariant-loop-k l = record {
  size : length l.taken ≡ 8;
  onward : laws.Onward l.input l.from l.initial.c.at (kinds_of l.initial.taken) (names_of l.initial.taken) l.ahead.i l.ahead.steps.now l.from l.c.at (kinds_of l.taken) (names_of l.taken) (l.ahead.i + l.k) (drop l.k l.ahead.steps.now);
}
