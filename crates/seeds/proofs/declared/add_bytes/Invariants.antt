-- `seeds::declared::add_bytes` meets its contract. Assumes nothing.
use mathlib.Core.Path.{◌≡◌}
use lib.ListN.{take}
use Rattle.seeds.specs.Chosen.{add_all}
use Rattle.seeds.proofs.declared.add_bytes.Given as goal

abbrev pub invariant-loop-x : goal.invariant-loop-x
invariant-loop-x l = l.rows ≡ add_all l.initial.rows l.r (take l.x-index l.x-items)
