-- `seeds::rows::Rows::fill_live` meets its contract. Assumes nothing.
use native.Mathlib.Omega.{arith}
use Rattle.seeds.proofs.KeptLaws.{kept_then}
use Rattle.seeds.proofs.LiveLaws.{giving_more, giving_end}
use Rattle.seeds.proofs.rows.Rows.fill_live.Goals as goal

pub loop-v-preserved : goal.loop-v-preserved
loop-v-preserved c =
    let (k, x) = c.loop-v.invariant in
    let m = kept_then k c.live.ensures.kept in
    (kept_then m c.live-in-loop-v.ensures.kept, giving_more x (omega arith) c.live.ensures.kept.size c.live-in-loop-v.ensures.kept.size (rw k.width at c.live.ensures.adds) (rw m.width at c.live-in-loop-v.ensures.adds))

pub returns-clause-adds : goal.returns-clause-adds
returns-clause-adds c = giving_end c.loop-v.invariant.1 (omega arith)
