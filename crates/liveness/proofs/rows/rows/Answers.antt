-- `liveness::rows::rows`. The loop's invariant: the points below p are done. Assumes nothing.
use mathlib.Core.Path.{refl, ap, ◌∙◌}
use lib.ListN.{length}
use Rattle.liveness.specs.Needs.{start_of}
use Rattle.liveness.proofs.ColumnLaws.{columns_none, columns_held, columns_out}
use Rattle.liveness.proofs.rows.rows.Goals as goal
use Rattle.liveness.proofs.rows.rows.Goals.{then-test, else-test}

pub loop-p-init : goal.loop-p-init
loop-p-init c = let a = c.args in (refl, columns_none a.width a.graph.now.input.head.variables (start_of a.half) c.requires.2 a.graph.now.walked a.sets.now a.rows.now c.requires.3 (rw (← c.from-many.ensures) c.clear.ensures))

pub loop-p-preserved : goal.loop-p-preserved
loop-p-preserved c = let a = c.args in
    let l = c.loop-p in
    let t = c.test in
    elim c.if-test.branch [
      | then-test w ↦ (ap length w.rows-is ∙ w.column.ensures.size ∙ l.invariant.0, rw w.rows-is (columns_held a.width a.graph.now.input.head.variables (start_of a.half) c.requires.2 a.graph.now.walked a.sets.now l.invariant.1 t.ensures w.if-test.true (rw (← c.from-many.ensures) w.column.ensures)))
      | else-test w ↦ (ap length w.rows-is ∙ l.invariant.0, columns_out a.width a.graph.now.input.head.variables (start_of a.half) c.requires.2 a.graph.now.walked a.sets.now l.invariant.1 t.ensures w.if-test.false w.rows-is)
    ]
