use Prim.Native.Nat.{◌+◌, ◌-◌, ◌*◌, ◌≤◌}
use Rattle.std.specs.Prelude.{Option}
use Rattle.ty.specs.Shape.{ArgumentsSay}
use Rattle.beside.specs.declared.Both.{Both}
use Rattle.ty.proofs.shape.+same_arguments_same_first_same_types.Given as goal

abbrev pub decreases-same_arguments : goal.decreases-same_arguments
decreases-same_arguments l = 3 * l.left + 2

abbrev pub decreases-same_first : goal.decreases-same_first
decreases-same_first l = 3 * l.left + 1

abbrev pub decreases-same_types : goal.decreases-same_types
decreases-same_types l = 3 * l.left

-- What the arguments that are left say, the whole rows say.
abbrev pub invariant-same_arguments-loop : goal.invariant-same_arguments-loop
invariant-same_arguments-loop l = record {
  fewer : l.same.left ≤ l.left;
  onward : (r : Option Both) → ArgumentsSay l.a (record { from = l.same.a; count = l.fn.g.count - l.counter }) l.b l.row l.same.left r → ArgumentsSay l.a l.fn.g l.b l.fn.h l.left r;
}
