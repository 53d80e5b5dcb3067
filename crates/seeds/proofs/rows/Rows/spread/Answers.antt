-- `seeds::rows::Rows::spread` meets its contract. Assumes nothing.
use native.Mathlib.Omega.{arith}
use mathlib.Core.Path.{ap, refl, sym, ◌∙◌}
use Prim.Native.Nat.{ℕ, ◌*◌}
use Rattle.seeds.proofs.RowLaws.{spreading_more, spreading_end}
use Rattle.seeds.proofs.rows.Rows.spread.Goals as goal
use Rattle.seeds.proofs.rows.Rows.spread.Goals.{then-test, else-test}

pub loop-r-preserved : goal.loop-r-preserved
loop-r-preserved c =
    let (k, x) = c.loop-r.invariant in
    elim c.if-test.branch [
      | then-test w ↦ (let y = spreading_more x (omega arith) (omega arith) (sym w.if-test.true ∙ rw c.from-row.ensures at c.test.ensures) (rw (k.width, c.from-row.ensures) at w.union_from.ensures.0) in rw w.self-is (record { width = k.width; same = k.same; size = y.size }, y))
      | else-test w ↦ (let y = spreading_more x (omega arith) (omega arith) (sym w.if-test.false ∙ rw c.from-row.ensures at c.test.ensures) refl in rw w.self-is (record { width = k.width; same = k.same; size = y.size }, y))
    ]

pub returns-clause-adds : goal.returns-clause-adds
returns-clause-adds c = spreading_end c.loop-r.invariant.1 c.args.v (omega arith) (ap (λ (x : ℕ). x * c.args.self.now.width) c.from.ensures)
