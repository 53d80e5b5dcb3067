-- `seeds::seeds` meets its contract. Assumes nothing.
use Rattle.std.proofs.Common.{rules}
use Rattle.seeds.proofs.SeedLaws.{seeded}
use Rattle.seeds.proofs.KeptLaws.{kept_then}
use Rattle.seeds.proofs.seeds.Goals as goal

pub returns : goal.returns
returns c =
    let d = c.fill_declared.ensures in
    let l = c.fill_live.ensures in
    let s = (kept_then d.kept l.kept).same in
    let k = seeded c.args.graph.now.walked _ _ _ _ _ _ _ _ _ c.from.ensures c.clear.ensures c.ends.ensures d.adds (rw d.kept.width at l.adds) in
    search rules
