-- `liveness::actions::defines`: each arm is what the action defines. Assumes nothing.
use Rattle.liveness.proofs.NeedLaws.{defines_written, defines_borrow, defines_quiet}
use Rattle.liveness.proofs.actions.defines.Goals as goal

pub returns-in-Init : goal.returns-in-Init
returns-in-Init c = let a = c.args in defines_written a.s.now a.next a.p a.pass.now _ c.in-Init.is c.write_def.ensures

pub returns-in-Borrow : goal.returns-in-Borrow
returns-in-Borrow c = let a = c.args in rw c.in-Borrow.is (defines_borrow a.s.now a.next a.p a.pass.now _ _ _ _ c.kill.ensures)

pub returns-in-Noop : goal.returns-in-Noop
returns-in-Noop c = let a = c.args in defines_quiet a.s.now a.next a.p a.pass.now c.in-Noop.is
