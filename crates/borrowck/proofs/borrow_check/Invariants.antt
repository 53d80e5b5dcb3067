-- `borrowck::borrow_check` meets its contract. Assumes nothing.
use lib.ListN.{length}
use Prim.Native.Nat.{◌*◌, ◌≤◌}
use Rattle.borrowck.proofs.WriteLaws.{Writing}
use Rattle.borrowck.proofs.borrow_check.Given as goal

abbrev pub invariant-loop-p : goal.invariant-loop-p
invariant-loop-p l = (2 * l.points ≤ length l.initial.bytes) × Writing l.input l.loans l.scope l.initial.bytes l.p l.bytes
