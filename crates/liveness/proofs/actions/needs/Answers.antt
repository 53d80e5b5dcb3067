-- `liveness::actions::needs`: each arm is what the action uses and drops. Assumes nothing.
use Rattle.liveness.proofs.NeedLaws.{needs_init, needs_borrow, needs_assign, needs_use, needs_drop, needs_quiet}
use Rattle.liveness.proofs.actions.needs.Goals as goal

pub returns-in-Init : goal.returns-in-Init
returns-in-Init c = let a = c.args in rw c.in-Init.is (needs_init a.s.now a.next a.p a.sets.now _ _ c.sources.ensures c.write_use.ensures)

pub returns-in-Borrow : goal.returns-in-Borrow
returns-in-Borrow c = let a = c.args in rw c.in-Borrow.is (needs_borrow a.s.now a.next a.p a.sets.now _ _ _ _ c.add.ensures)

pub returns-in-Assign : goal.returns-in-Assign
returns-in-Assign c = let a = c.args in rw c.in-Assign.is (needs_assign a.s.now a.next a.p a.sets.now _ _ c.add-in-Assign.ensures c.write_use-in-Assign.ensures)

pub returns-in-Use : goal.returns-in-Use
returns-in-Use c = let a = c.args in rw c.in-Use.is (needs_use a.s.now a.next a.p a.sets.now _ c.add-in-Use.ensures)

pub returns-in-Drop : goal.returns-in-Drop
returns-in-Drop c = let a = c.args in rw c.in-Drop.is (needs_drop a.s.now a.next a.p a.sets.now _ c.add-in-Drop.ensures)

pub returns-in-Noop : goal.returns-in-Noop
returns-in-Noop c = let a = c.args in needs_quiet a.s.now a.next a.p a.sets.now c.in-Noop.is
