-- `relate::Relation::relate_types`, `relate::Relation::relate_first` and `relate::Relation::relate_arguments` meet their contracts. Assumes nothing.
use Prim.Native.Nat.{ℕ, ◌+◌, ◌-◌, ◌*◌, ◌≤◌}
use mathlib.Core.List.{List}
use mathlib.Core.Path.{◌≡◌}
use Rattle.std.specs.Prelude.{Option}
use Rattle.beside.specs.declared.Both.{Both}
use Rattle.repr.specs.Reading.{variance_of}
use Rattle.relate.specs.Relates.{ArgumentsRelate}
use Rattle.relate.proofs.Relation.+relate_arguments_relate_first_relate_types.Given as goal

abbrev pub decreases-relate_arguments : goal.decreases-relate_arguments
decreases-relate_arguments l = 3 * l.two.left + 2

abbrev pub decreases-relate_first : goal.decreases-relate_first
decreases-relate_first l = 3 * l.two.left + 1

abbrev pub decreases-relate_types : goal.decreases-relate_types
decreases-relate_types l = 3 * l.two.left

-- What is added for the arguments that are left is added for the whole rows.
abbrev pub invariant-relate_arguments-loop : goal.invariant-relate_arguments-loop
invariant-relate_arguments-loop l = record {
  count : l.rest.a.count ≡ l.fn.two.a.count - l.counter;
  fewer : l.rest.left ≤ l.fn.two.left;
  onward : (ls : List ℕ) (r : Option Both) → ArgumentsRelate l.self l.rest.params l.rest.a l.rest.b l.rest.left (variance_of l.v) l.list ls r
      → ArgumentsRelate l.self l.fn.two.params l.fn.two.a l.fn.two.b l.fn.two.left (variance_of l.v) l.fn.list ls r;
}
