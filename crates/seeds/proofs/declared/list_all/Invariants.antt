-- `seeds::declared::list_all` meets its contract. Assumes nothing.
use Rattle.seeds.specs.Closure.{Listing}
use Rattle.seeds.proofs.declared.list_all.Given as goal

abbrev pub invariant-loop-r : goal.invariant-loop-r
invariant-loop-r l = Listing l.input l.r l.rows
