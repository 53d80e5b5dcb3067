-- `replay::run::cases`. Assumes nothing.
use mathlib.Core.Path.{ap}
use native.Mathlib.Omega.{arith}
use lib.ListN.{length}
use Rattle.buffer.proofs.AppendLaws.{appends_then, appends_first}
use Rattle.replay.proofs.RunLaws.{length_most, length_too_many, length_third}
use Rattle.replay.proofs.run.cases.Goals as goal

pub too_many_actions-requires : goal.too_many_actions-requires
too_many_actions-requires c =
    let p = c.put.ensures.fits (omega (arith, ap length c.clear.ensures)) in omega (arith, ap length c.clear.ensures, p.longer, length_most)

pub third_declared-requires : goal.third_declared-requires
third_declared-requires c =
    let p = c.put.ensures.fits (omega (arith, ap length c.clear.ensures)) in omega (arith, ap length c.clear.ensures, p.longer, length_most, length_too_many)

pub too_long-requires : goal.too_long-requires
too_long-requires c =
    let p = c.put.ensures.fits (omega (arith, ap length c.clear.ensures)) in
    omega (arith, ap length c.clear.ensures, p.longer, length_most, length_too_many, length_third)

pub returns : goal.returns
returns c =
    let p = c.put.ensures.fits (omega (arith, ap length c.clear.ensures)) in
    appends_first c.clear.ensures (appends_then (appends_then (appends_then (appends_then p c.most_actions.ensures) c.too_many_actions.ensures) c.third_declared.ensures) c.too_long.ensures)
