-- `borrowck::verdict` meets its contract. Assumes nothing.
use Rattle.repr.proofs.ReadLaws.{ok_some}
use Rattle.borrowck.proofs.FaultLaws.{verdict_free, verdict_idle, verdict_clear, verdict_fault}
use Rattle.borrowck.proofs.verdict.Goals as goal

pub returns-then-not-any : goal.returns-then-not-any
returns-then-not-any c = verdict_free c.args.input.now c.args.loans.now c.args.scope.now c.args.p c.any.ensures c.if-not-any.true

pub returns-then-accesses-eq0 : goal.returns-then-accesses-eq0
returns-then-accesses-eq0 c = verdict_idle c.args.input.now c.args.loans.now c.args.scope.now c.args.p c.action_at.ensures (ok_some c.ok.ensures.value c.in_ok-a.was) c.of_action-accesses.ensures c.if-accesses-eq0.true

pub returns-in_err-k : goal.returns-in_err-k
returns-in_err-k c = rw c.from_residual-in_err-k.ensures (verdict_clear c.args.input.now c.args.loans.now c.args.scope.now c.args.p c.action_at.ensures (ok_some c.ok.ensures.value c.in_ok-a.was) c.of_action-accesses.ensures c.check_accesses.ensures c.in_err-k.was)

pub returns : goal.returns
returns c = verdict_fault c.args.input.now c.args.loans.now c.args.scope.now c.args.p c.action_at.ensures (ok_some c.ok.ensures.value c.in_ok-a.was) c.of_action-accesses.ensures c.check_accesses.ensures c.in_ok-k.was
