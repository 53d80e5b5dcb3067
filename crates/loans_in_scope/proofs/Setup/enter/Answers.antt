-- `loans_in_scope::Setup::enter`. The loop's invariant: the first i loans are in both tables. Assumes nothing.
use native.Mathlib.Omega.{arith}
use Rattle.loans.proofs.ListLaws.{lent_at}
use Rattle.loans_in_scope.proofs.LoanLaws.{begun_more, regions-more}
use Rattle.loans_in_scope.proofs.Setup.enter.Goals as goal

pub loop-i-preserved : goal.loop-i-preserved
loop-i-preserved c = let v = c.args.self.now in
    let l = c.loop-i in
    let x = lent_at c.args.self.now.loans.now c.lent-loan-items.ensures l.i c.loop-i-test.true in
    (omega (arith, l.invariant.0), begun_more v l.i x l.invariant.1 c.begin.ensures, regions-more v l.i x l.invariant.2 c.put_region.ensures)
