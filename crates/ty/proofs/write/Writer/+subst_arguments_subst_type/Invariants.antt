use Rattle.std.proofs.Common.{◌+◌, ◌*◌, ◌≤◌, ◌-◌}
use Rattle.std.specs.Prelude.{Option}
use Rattle.repr.specs.declared.Cursor.{Cursor}
use Rattle.ty.specs.declared.write.Writer.{Writer}
use Rattle.ty.specs.Writing.{ArgumentsSay}
use Rattle.ty.proofs.write.Writer.+subst_arguments_subst_type.Given as goal

abbrev pub decreases-subst_arguments : goal.decreases-subst_arguments
decreases-subst_arguments l = 2 * l.self.now.left + 1

abbrev pub decreases-subst_type : goal.decreases-subst_type
decreases-subst_type l = 2 * l.self.now.left

-- What the arguments that are left say, the whole row says. They have room.
abbrev pub invariant-subst_arguments-loop : goal.invariant-subst_arguments-loop
invariant-subst_arguments-loop l = record {
  fewer : l.self.left ≤ l.fn.self.left;
  room : l.self.at + 15 * l.self.left + 3 * (l.count - l.counter) ≤ 512;
  onward : (new : Writer) (r : Option Cursor) → ArgumentsSay l.f l.next.at (l.count - l.counter) l.given l.self new r → ArgumentsSay l.f l.fn.c.at l.count l.given l.fn.self new r;
}
