-- `infer::Setup::spread`: what is reached, with the ends, is what the outer set gets. Assumes nothing.
use mathlib.Core.Path.{◌≡◌, ◌∙◌}
use mathlib.Core.Bool.{cond}
use native.Mathlib.Omega.{arith}
use Rattle.infer.specs.Search.{Gets, with_ends}
use Rattle.infer.proofs.EndLaws.{Holds, ends_hold, gets_below}
use Rattle.infer.proofs.PutLaws.{spread_holds}
use Rattle.infer.proofs.Setup.spread.Goals as goal
use Rattle.infer.proofs.Setup.spread.Goals.{then-reached, else-reached}

pub returns : goal.returns
returns c = let a = c.args in
    let g = a.self.now in
    let ws = a.words.now in
    let end = g.shape.points in
    let got = c.reach-reached in
    let points = c.if-reached.points in
    λ chained.
    let e : points ≡ cond got.result.exit (with_ends g ws a.from got.result.points) got.result.points =
    elim c.if-reached.branch [ then-reached w ↦ rw w.if-reached.true (w.points-is ∙ w.put_ends.ensures) | else-reached w ↦ rw w.if-reached.false w.points-is ] in
    let m : Holds (Gets g ws a.from a.p) points = rw e (ends_hold g ws a.from a.p got.result.points got.result.exit c.requires.0 c.requires.1 (got.ensures (omega (arith, c.requires.0, c.requires.1)) chained)) in
    spread_holds (Gets g ws a.from a.p) ws c.put.new.words points a.to end c.put.result m (gets_below g ws a.from a.p c.requires.0) c.put.ensures
