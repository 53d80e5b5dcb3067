-- `loans_in_scope::Setup::keep_each`. The loop's invariant: of the first i loans, those that may pass are in the set. Assumes nothing.
use mathlib.Core.Path.{◌≡◌, ◌∙◌}
use native.Mathlib.Omega.{arith}
use Rattle.loans.proofs.ListLaws.{lent_at}
use Rattle.loans_in_scope.specs.Scope.{paths_of}
use Rattle.loans_in_scope.proofs.FillLaws.{keep_not, keep_yes, each_more}
use Rattle.loans_in_scope.proofs.Setup.keep_each.Goals.{then-test, else-test}
use Rattle.loans_in_scope.proofs.Setup.keep_each.Goals as goal

pub loop-i-preserved : goal.loop-i-preserved
loop-i-preserved c = let a = c.args in
    let l = c.loop-i in
    let ds = paths_of a.self.now.graph.now.input.bytes.now a.d in (
      c.put.ensures.as_long ∙ l.invariant.0,
      each_more a.self.now a.region.now ds a.p l.i l.invariant.1
          (elim c.if-test.branch [
            | then-test w ↦ keep_yes a.self.now a.region.now ds a.p l.i c.test.ensures w.if-test.true (lent_at c.args.self.now.loans.now c.lent-loan-items.ensures l.i c.loop-i-test.true) w.is_killed.ensures w.kept-is
            | else-test w ↦ keep_not a.self.now a.region.now ds a.p l.i c.test.ensures w.if-test.false w.kept-is
          ]) c.put.ensures,
    )

pub returns : goal.returns
returns c = let l = c.loop-i in
    let e : l.i ≡ c.args.self.now.loans.now.count = omega (arith, c.lent-loan-items.ensures.1, c.args.self.now.most) in
    rw e at l.invariant.1
