-- `loans_in_scope::put`. Assumes nothing.
use Rattle.loans_in_scope.proofs.GainsLaws.{gains_with}
use Rattle.loans_in_scope.proofs.put.Goals as goal

pub returns-then-comes : goal.returns-then-comes
returns-then-comes c = rw c.add.ensures.0 (gains_with c.args.sets.now c.args.p c.args.i c.requires.0 c.requires.1 c.if-comes.true)
