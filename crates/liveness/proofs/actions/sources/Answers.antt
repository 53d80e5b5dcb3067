-- `liveness::actions::sources`. The loop's invariant: what is left to read is what is left to put in. Assumes nothing.
use native.Mathlib.Omega.{arith}
use Rattle.liveness.proofs.NeedLaws.{sourcing_none, sourcing_stop, sourcing_more, sourcing_all}
use Rattle.liveness.proofs.actions.sources.Goals as goal

pub loop-init : goal.loop-init
loop-init c = let a = c.args in sourcing_none a.s.now a.from a.count a.p

pub returns-in_default : goal.returns-in_default
returns-in_default c = sourcing_stop c.loop.invariant (omega arith) c.path.ensures c.in_default.is

pub loop-preserved : goal.loop-preserved
loop-preserved c = sourcing_more c.loop.invariant (omega arith) c.path.ensures c.in-Ok.is (omega arith) c.add.ensures

pub returns : goal.returns
returns c = sourcing_all c.loop.invariant (omega arith)
