-- `loans::loans` meets its contract. Assumes nothing.
use native.Mathlib.Omega.{arith}
use Rattle.loans.proofs.LendLaws.{lending-all}
use Rattle.loans.proofs.loans.Goals as goal

pub returns : goal.returns
returns c = lending-all c.loop-p.invariant c.loop-p.auto.p-end c.loop-p-test.false (λ few. omega (arith, few, c.min-code.ensures, c.from.ensures))
