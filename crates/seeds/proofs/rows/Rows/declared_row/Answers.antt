-- `seeds::rows::Rows::declared_row` meets its contract. Assumes nothing.
use native.Mathlib.Omega.{arith}
use mathlib.Core.Path.{refl, sym, ◌∙◌}
use Rattle.std.proofs.Common.{rules}
use Rattle.seeds.proofs.RowLaws.{ending_more, declared-row}
use Rattle.seeds.proofs.rows.Rows.declared_row.Goals as goal
use Rattle.seeds.proofs.rows.Rows.declared_row.Goals.{then-test, else-test}

pub loop-e-preserved : goal.loop-e-preserved
loop-e-preserved c =
    let (k, x) = c.loop-e.invariant in
    elim c.if-test.branch [
      | then-test w ↦ (let y = ending_more x (sym w.if-test.true ∙ c.test.ensures) w.add.ensures.0 in rw w.self-is (record { width = k.width; same = k.same; size = y.size }, y))
      | else-test w ↦ (let y = ending_more x (sym w.if-test.false ∙ c.test.ensures) refl in rw w.self-is (record { width = k.width; same = k.same; size = y.size }, y))
    ]

pub returns-clause-adds : goal.returns-clause-adds
returns-clause-adds c = λ l room. rw (← c.from-row.ensures) (declared-row _ c.args.graph.now.walked _ c.loop-e.invariant.1 c.union_from.ensures.0 refl (omega arith) c.from-code.ensures (omega arith) (search rules) room)
