-- `seeds::rows::Rows::fill_declared` meets its contract. Assumes nothing.
use native.Mathlib.Omega.{arith}
use Rattle.seeds.proofs.KeptLaws.{kept_then}
use Rattle.seeds.proofs.RowLaws.{filling_more}
use Rattle.seeds.proofs.rows.Rows.fill_declared.Goals as goal

pub loop-r-preserved : goal.loop-r-preserved
loop-r-preserved c =
    let (k, x) = c.loop-r.invariant in
    let p = c.declared_row.ensures in
    (kept_then k p.kept, filling_more x (omega arith) p.kept.size (rw k.width at p.adds))
