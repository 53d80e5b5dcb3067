use mathlib.Core.Path.{◌≡◌}
use mathlib.Core.Bool.{true}
use Rattle.bit_set.specs.Bits.{read_first}
use Rattle.bit_set.proofs.RunLaws.{Joining}
use Rattle.bit_set.proofs.union.Given as goal

abbrev pub invariant-loop-i : goal.invariant-loop-i
invariant-loop-i l = (read_first l.dst l.src l.n ≡ true) × Joining l.initial.words l.dst l.initial.words l.src l.n l.words l.changed l.i
