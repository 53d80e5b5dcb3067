-- `borrowck::checks::check_accesses` meets its contract. Assumes nothing.
use Prim.Native.Nat.{◌-◌, ◌≤◌}
use Rattle.borrowck.specs.Faults.{Checked}
use Rattle.borrowck.proofs.checks.check_accesses.Given as goal

abbrev pub invariant-loop-from : goal.invariant-loop-from
invariant-loop-from l = (l.from ≤ l.many) × Checked l.s l.here.loans.now.loans l.here.scope.now l.here.p l.accesses l.from l.first

abbrev pub decreases-loop-from : goal.decreases-loop-from
decreases-loop-from l = l.many - l.from
