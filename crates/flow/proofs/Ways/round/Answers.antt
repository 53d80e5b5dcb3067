-- `flow::Ways::round`. The loop's invariant: the edges of the first i points are run. Assumes nothing.
use mathlib.Core.Path.{◌∙◌}
use native.Mathlib.Omega.{arith}
use Rattle.flow.proofs.RunningLaws.{rows_none, rows_more, rows_all}
use borrow.Author.Rules.{rules}
use Rattle.flow.proofs.Ways.round.Goals as goal

pub loop-i-init : goal.loop-i-init
loop-i-init c = let a = c.args in (search rules, rows_none a.self.now.direction a.self.now.code a.self.now.graph.now.first a.self.now.graph.now.succ a.self.now.pass.now a.sets.now)

pub loop-i-preserved : goal.loop-i-preserved
loop-i-preserved c = let a = c.args in
    let l = c.loop-i in (
      c.row-changed.ensures.since.as_long ∙ l.invariant.0,
      rows_more a.self.now.direction a.self.now.code a.self.now.graph.now.first a.self.now.graph.now.succ a.self.now.pass.now a.sets.now l.i _ _ _ c.point-p.ensures.0 l.invariant.1 c.row-changed.ensures,
    )

pub returns : goal.returns
returns c = let a = c.args in
    let l = c.loop-i in
    rows_all a.self.now.direction a.self.now.code a.self.now.graph.now.first a.self.now.graph.now.succ a.self.now.pass.now a.sets.now l.i (omega arith) (omega arith) l.invariant.1
