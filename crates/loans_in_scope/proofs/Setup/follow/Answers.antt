-- `loans_in_scope::Setup::follow`. The loop's invariant: the points so far have what leaves p. Assumes nothing.
use mathlib.Core.Path.{◌∙◌}
use native.Mathlib.Omega.{arith}
use Rattle.loans_in_scope.proofs.GainsLaws.{leaving_more, leaving_all}
use Rattle.loans_in_scope.proofs.Setup.follow.Goals as goal

pub loop-s-preserved : goal.loop-s-preserved
loop-s-preserved c = let a = c.args in
    let l = c.loop-s in (
      c.onto.ensures.as_long ∙ l.invariant.0,
      leaving_more a.from.now a.self.now.code a.self.now.graph.now.first a.self.now.graph.now.succ a.scope.now a.p l.s-index c.successors-s-items.ensures.points c.loop-s-test.true l.invariant.1 c.onto.ensures,
    )

pub returns : goal.returns
returns c = let a = c.args in
    leaving_all a.from.now a.self.now.code a.self.now.graph.now.first a.self.now.graph.now.succ a.scope.now a.p c.loop-s.s-index (omega (arith, c.successors-s-items.ensures.count)) c.loop-s.invariant.1
