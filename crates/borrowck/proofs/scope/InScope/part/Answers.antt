-- `borrowck::scope::InScope::part` meets its contract. Assumes nothing.
use Prim.Native.Nat.{◌<◌}
use native.Mathlib.Omega.{arith}
use Rattle.loans.proofs.ListLaws.{lent_at}
use Rattle.borrowck.proofs.ScopeLaws.{gathering_pass, gathering_more}
use Rattle.borrowck.proofs.scope.InScope.part.Goals.{then-is_set, else-is_set}
use Rattle.borrowck.proofs.scope.InScope.part.Goals as goal

pub loop-i-preserved : goal.loop-i-preserved
loop-i-preserved c =
    let l : c.loop-i.i < c.args.self.now.loans.now.count = omega (arith, c.lent-lent.ensures.1, c.args.self.now.most) in
    elim c.if-is_set.branch [
      | then-is_set w ↦ rw (w.held-is, w.n-is) (gathering_more c.loop-i.invariant l c.is_set.ensures w.if-is_set.true (lent_at c.args.self.now.loans.now c.lent-lent.ensures c.loop-i.i c.loop-i-test.true) c.if-n-eq16.false)
      | else-is_set w ↦ rw (w.held-is, w.n-is) (gathering_pass c.loop-i.invariant l c.is_set.ensures w.if-is_set.false)
    ]
