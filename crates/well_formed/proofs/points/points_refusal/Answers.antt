-- `well_formed::points::points_refusal` meets its contract. Assumes nothing.
use mathlib.Core.Path.{◌≡◌, sym, ◌∙◌}
use Rattle.std.specs.Prelude.{Err}
use Rattle.repr.specs.declared.refusal.Refusal.TheVariants.{Path}
use Rattle.std.proofs.Common.{rules}
use Rattle.well_formed.proofs.PointLaws as laws
use Rattle.well_formed.proofs.points.points_refusal.Goals as goal

pub returns-then-eq : goal.returns-then-eq
returns-then-eq c = λ j w n.
    let e : c.action_refusal-found.result ≡ Err Path = search (rules, c.if-eq.ensures) in
    laws.judged_stop (laws.points-counted w c.from-p-end.ensures) (c.loop-p.invariant j w) c.loop-p-test.true (c.action_refusal-found.ensures j _ w (c.action_at.ensures j w (laws.point-inside w c.from-p-end.ensures c.loop-p-test.true))) e n

pub loop-p-preserved : goal.loop-p-preserved
loop-p-preserved c = λ j w. rw c.is_ok-fits.ensures.value (laws.judged-more (laws.points-counted w c.from-p-end.ensures) (c.loop-p.invariant j w) c.loop-p-test.true (c.action_refusal-found.ensures j _ w (c.action_at.ensures j w (laws.point-inside w c.from-p-end.ensures c.loop-p-test.true))) (search (rules, c.if-eq.ensures)))

pub returns-then-fits : goal.returns-then-fits
returns-then-fits c = λ j w n. sym (laws.judged-all (laws.points-counted w c.from-p-end.ensures) (c.loop-p.invariant j w) c.loop-p-test.false n ∙ rw c.if-fits.true)

pub returns-else-fits : goal.returns-else-fits
returns-else-fits c = λ j w n. sym (laws.judged-all (laws.points-counted w c.from-p-end.ensures) (c.loop-p.invariant j w) c.loop-p-test.false n ∙ rw c.if-fits.false)
