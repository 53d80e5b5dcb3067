-- `regionck::round::visit`: the point is passed by, or its constraints are derived and run. Assumes nothing.
use mathlib.Core.Path.{refl}
use native.Mathlib.Omega.{arith}
use Rattle.rerun.proofs.PointLaws.{held_none, held_more}
use Rattle.rerun.proofs.RerunLaws.{own_same, own-drawn}
use Rattle.regionck.proofs.RoundLaws.{below_more, below-passed, sound_more}
use Rattle.regionck.proofs.round.visit.Goals as goal

pub returns-then-all_in : goal.returns-then-all_in
returns-then-all_in c = (λ ws x. below-passed x c.requires.0 c.requires.1 c.marked-marks.ensures c.all_in.ensures c.if-all_in.true, own_same, c.requires.1)

pub returns : goal.returns
returns c =
    let added = c.point.ensures in
    let run = c.run.ensures in
    let held = held_more added (held_none {from = c.args.p} refl (omega (arith, c.requires.0))) (omega arith) c.requires.0 in
    (λ ws x. below_more x held run.0, own-drawn held run.1, sound_more c.requires.1 refl (omega arith) added c.requires.0 c.put.ensures)
