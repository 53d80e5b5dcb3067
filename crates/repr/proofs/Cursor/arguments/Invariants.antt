-- `repr::Cursor::arguments` meets its contract. The loop's invariant: from the rest on, n arguments are to be read yet. Assumes nothing.
use Prim.Native.Nat.{◌+◌, ◌*◌}
use Rattle.repr.proofs.TypeLaws.{Along}
use Rattle.repr.proofs.Cursor.arguments.Given as goal

abbrev pub invariant-loop-n : goal.invariant-loop-n
invariant-loop-n l = Along l.s l.initial.rest.next.at l.count l.left l.rest.next.at l.n l.rest.left

abbrev pub decreases-loop-n : goal.decreases-loop-n
decreases-loop-n l = l.n + 256 * l.rest.left
