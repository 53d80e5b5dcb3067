use Rattle.env.proofs.PathLaws as laws
use Prim.Native.Nat.{◌+◌}
use mathlib.Core.Path.{◌≡◌, refl, ap, ◌∙◌}
use native.Mathlib.Omega.{arith}
use borrow.Author.Rules.{rules}
use lib.ListN.{length-drop}
use Rattle.std.specs.Prelude.{Some}
use Rattle.std.proofs.lemmas.List.{drop_more, drop_all, take_all}
use Rattle.env.proofs.paths.steps_within.Goals as goal

pub returns-in_err-take_step : goal.returns-in_err-take_step
returns-in_err-take_step c = rw c.from_residual.ensures (laws.along-refused c.loop-k.invariant.onward (laws.long _ c.loop-k.invariant.size) (drop_more c.args.ahead.steps.now c.loop-k.k 0 c.loop-k-test.true) c.take_step.ensures c.in_err-take_step.was)

pub returns-in-Written : goal.returns-in-Written
returns-in-Written c =
    let n = length-drop (c.loop-k.k + 1) c.args.ahead.steps.now in
    laws.along_written c.loop-k.invariant.onward (laws.long _ c.loop-k.invariant.size) (drop_more c.args.ahead.steps.now c.loop-k.k 0 c.loop-k-test.true) c.take_step.ensures (c.in_ok-take_step.was ∙ ap Some c.in-Written.is) (take_all _ _ (omega (arith, n))) refl (omega (arith, n, c.loop-k-test.true)) (omega (arith, n, c.loop-k-test.true))

pub loop-k-preserved : goal.loop-k-preserved
loop-k-preserved c =
    let n : c.args.ahead.i + (c.loop-k.k + 1) ≡ c.args.ahead.i + c.loop-k.k + 1 = omega arith in
    record { size = search rules; onward = rw n (laws.onward-more c.loop-k.invariant.onward (laws.long _ c.loop-k.invariant.size) (drop_more c.args.ahead.steps.now c.loop-k.k 0 c.loop-k-test.true) c.take_step.ensures (c.in_ok-take_step.was ∙ ap Some c.in-Inside.is)) }

pub returns : goal.returns
returns c = laws.along-end c.loop-k.invariant.onward (laws.long _ c.loop-k.invariant.size) _ refl (drop_all c.loop-k.k c.args.ahead.steps.now c.loop-k-test.false)
