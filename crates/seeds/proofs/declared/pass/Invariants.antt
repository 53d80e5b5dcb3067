-- `seeds::declared::pass` meets its contract. Assumes nothing.
use mathlib.Core.Path.{◌≡◌}
use Rattle.seeds.specs.Closure.{passed}
use Rattle.seeds.proofs.declared.pass.Given as goal

abbrev pub invariant-loop-r : goal.invariant-loop-r
invariant-loop-r l = l.rows ≡ passed l.r l.k l.initial.rows
