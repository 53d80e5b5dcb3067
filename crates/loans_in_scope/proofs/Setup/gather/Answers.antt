-- `loans_in_scope::Setup::gather`. The loop's invariant: what leaves the first p points has gone on. Assumes nothing.
use mathlib.Core.Path.{◌∙◌}
use Rattle.loans_in_scope.proofs.GainsLaws.{rows_more}
use Rattle.loans_in_scope.proofs.Setup.gather.Goals as goal

pub loop-p-preserved : goal.loop-p-preserved
loop-p-preserved c = let a = c.args in
    let l = c.loop-p in
    (c.follow.ensures.as_long ∙ l.invariant.0, rows_more a.from.now a.self.now.code a.self.now.graph.now.first a.self.now.graph.now.succ a.scope.now l.p l.invariant.1 c.follow.ensures)
