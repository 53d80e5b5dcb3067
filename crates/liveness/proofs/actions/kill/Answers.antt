-- `liveness::actions::kill`. Assumes nothing.
use Rattle.liveness.proofs.HalfLaws.{kill_large, kill_small}
use native.Mathlib.Omega.{arith}
use Rattle.liveness.proofs.actions.kill.Goals as goal

pub returns-then-k-lt64 : goal.returns-then-k-lt64
returns-then-k-lt64 c = let a = c.args in kill_small a.p a.pass.now _ a.v.0 c.from-k.ensures c.if-k-lt64.true c.kill.ensures.0 c.kill-then-k-lt64.ensures.0

pub returns-else-k-lt64 : goal.returns-else-k-lt64
returns-else-k-lt64 c = let a = c.args in kill_large a.p a.pass.now _ a.v.0 c.from-k.ensures (omega (arith, c.if-k-lt64.false))
