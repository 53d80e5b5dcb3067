use native.Mathlib.Omega.{arith}
use Rattle.repr.proofs.ReadLaws.{ok_some, ok_none}
use Rattle.ty.proofs.FoundLaws as laws
use Rattle.ty.proofs.write.Arguments.found.Goals as goal

pub returns-then-self-eq0 : goal.returns-then-self-eq0
returns-then-self-eq0 c = laws.found_none c.if-self-eq0.true

pub returns-in_err-before : goal.returns-in_err-before
returns-in_err-before c = rw c.from_residual.ensures (laws.found-short c.if-self-eq0.false (omega arith) c.arguments.ensures (ok_none c.ok.ensures.value c.in_err-before.was).1)

pub returns : goal.returns
returns c = rw c.ok-2.ensures.value (laws.found_at c.if-self-eq0.false (omega arith) c.arguments.ensures (ok_some c.ok.ensures.value c.in_ok-before.was) c.argument.ensures)
