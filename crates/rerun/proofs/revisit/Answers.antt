-- `rerun::revisit`: nothing is run, or the constraints of the point. Assumes nothing.
use mathlib.Core.Path.{refl}
use native.Mathlib.Omega.{arith}
use Rattle.rerun.proofs.PointLaws.{held_none, held_more}
use Rattle.rerun.proofs.RerunLaws.{more-held}
use Rattle.rerun.proofs.revisit.Goals as goal

pub returns : goal.returns
returns c =
    let held = held_more c.point.ensures (held_none {from = c.args.p} refl (omega (arith, c.requires))) (omega arith) c.requires in
    more-held held c.rerun-next.ensures
