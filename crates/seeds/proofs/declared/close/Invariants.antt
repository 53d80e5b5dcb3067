-- `seeds::declared::close` meets its contract. Assumes nothing.
use mathlib.Core.Path.{◌≡◌}
use Rattle.seeds.specs.Closure.{closed}
use Rattle.seeds.proofs.declared.close.Given as goal

abbrev pub invariant-loop-k : goal.invariant-loop-k
invariant-loop-k l = l.rows ≡ closed l.n l.k l.initial.rows
