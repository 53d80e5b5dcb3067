-- `infer::Setup::put_ends`. The loop's invariant: the ends below i that the rule passes on are put. Assumes nothing.
use mathlib.Core.Path.{◌≡◌, sym, ap, ◌∙◌}
use native.Mathlib.Omega.{arith}
use Rattle.nll_spec.specs.Regions.{passes_end}
use Rattle.infer.specs.Search.{rule_of, passes}
use Rattle.infer.proofs.EndLaws.{run_none, run_yes, run_no}
use Rattle.infer.proofs.Setup.put_ends.Goals as goal
use Rattle.infer.proofs.Setup.put_ends.Goals.{then-passes_end, else-passes_end}

pub loop-i-init : goal.loop-i-init
loop-i-init c = (omega arith, omega arith, run_none _ _ _)

pub loop-i-preserved : goal.loop-i-preserved
loop-i-preserved c = let a = c.args in
    let l = c.loop-i in
    let f = passes a.self.now a.words.now a.from in
    let code = a.self.now.shape.code in
    let e : c.passes_end.result ≡ f l.i = c.passes_end.ensures ∙ ap (passes_end (rule_of a.self.now.rule)) c.test-held.ensures in
    elim c.if-passes_end.branch [
      | then-passes_end w ↦ (omega arith, omega arith, run_yes f a.points.now code c.if-passes_end.points l.points l.i l.invariant.0 (w.points-is ∙ w.add.ensures.0) l.invariant.2 (sym e ∙ w.if-passes_end.true))
      | else-passes_end w ↦ (omega arith, omega arith, run_no f a.points.now code c.if-passes_end.points l.points l.i l.invariant.0 w.points-is l.invariant.2 (sym e ∙ w.if-passes_end.false))
    ]
