-- `flow::Ways::run`. The loop's invariant: the sets came about by edges. The measure is the number of 0 bits. Assumes nothing.
use mathlib.Core.Path.{◌∙◌}
use native.Mathlib.Omega.{arith}
use Rattle.flow.proofs.FlowLaws.{rounds_none, rounds_more, rounds_less, rounds_all}
use Rattle.flow.proofs.Ways.run.Goals as goal

pub loop-init : goal.loop-init
loop-init c = let a = c.args.self.now in rounds_none a.direction a.code a.graph.now.first a.graph.now.succ a.pass.now c.args.sets.now

pub round-requires : goal.round-requires
round-requires c = omega (arith, c.loop.invariant.as_long, c.requires)

pub returns : goal.returns
returns c = let a = c.args.self.now in
    let s = c.loop.invariant in
    (c.round.ensures.since.as_long ∙ s.as_long, rounds_all a.direction a.code a.graph.now.first a.graph.now.succ a.pass.now c.args.sets.now s c.round.ensures c.loop-test.false)

pub loop-smaller : goal.loop-smaller
loop-smaller c = let a = c.args.self.now in rounds_less a.direction a.code a.graph.now.first a.graph.now.succ a.pass.now c.args.sets.now c.loop.invariant c.round.ensures c.loop-test.true

pub loop-preserved : goal.loop-preserved
loop-preserved c = let a = c.args.self.now in rounds_more a.direction a.code a.graph.now.first a.graph.now.succ a.pass.now c.args.sets.now c.loop.invariant c.round.ensures
