-- `flow::Ways::row`. The loop's invariant: the edges to the points so far are run. Assumes nothing.
use native.Mathlib.Omega.{arith}
use mathlib.Core.Path.{◌∙◌}
use Rattle.flow.proofs.RunningLaws.{leaving_none, leaving_more, leaving_all}
use borrow.Author.Rules.{rules}
use Rattle.flow.proofs.Ways.row.Goals as goal

pub loop-s-init : goal.loop-s-init
loop-s-init c = let a = c.args in (search rules, leaving_none a.self.now.direction a.self.now.code a.self.now.graph.now.first a.self.now.graph.now.succ a.self.now.pass.now a.sets.now a.p)

pub loop-s-preserved : goal.loop-s-preserved
loop-s-preserved c = let a = c.args in
    let l = c.loop-s in (
      c.turned-changed.ensures.since.as_long ∙ l.invariant.0,
      leaving_more a.self.now.direction a.self.now.code a.self.now.graph.now.first a.self.now.graph.now.succ a.self.now.pass.now a.sets.now a.p l.s-index c.successors-s-items.ensures.points c.loop-s-test.true l.invariant.1 c.turned-changed.ensures,
    )

pub returns : goal.returns
returns c = let a = c.args in
    leaving_all a.self.now.direction a.self.now.code a.self.now.graph.now.first a.self.now.graph.now.succ a.self.now.pass.now a.sets.now a.p c.loop-s.s-index (omega (arith, c.successors-s-items.ensures.count)) c.loop-s.invariant.1
