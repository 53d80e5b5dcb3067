-- `borrowck::accesses::Accesses::of_action` meets its contract. Assumes nothing.
use Rattle.borrowck.proofs.AccessLaws.{action_init, action-borrow, action_assign, action_use, action-drop, action_dead, action_idle}
use Rattle.borrowck.proofs.accesses.Accesses.of_action.Goals as goal

pub returns-in-Init : goal.returns-in-Init
returns-in-Init c = action_init c.in-Init.is c.with_sources.ensures

pub returns-in-Borrow : goal.returns-in-Borrow
returns-in-Borrow c = action-borrow c.two.ensures c.shallow_write.ensures c.in-Borrow.is c.source_of.ensures

pub returns-in-Assign : goal.returns-in-Assign
returns-in-Assign c = action_assign c.two-in-Assign.ensures c.shallow_write-in-Assign.ensures c.in-Assign.is c.read.ensures

pub returns-in-Use : goal.returns-in-Use
returns-in-Use c = action_use c.one.ensures c.in-Use.is c.read-in-Use.ensures

pub returns-in-Drop : goal.returns-in-Drop
returns-in-Drop c = action-drop c.one-in-Drop.ensures c.in-Drop.is c.move_out.ensures

pub returns-in-StorageDead : goal.returns-in-StorageDead
returns-in-StorageDead c = action_dead c.one-in-StorageDead.ensures c.in-StorageDead.is c.storage_dead.ensures

pub returns-in-Noop : goal.returns-in-Noop
returns-in-Noop c = action_idle c.in-Noop.is c.none.ensures
