-- `repr::Cursor::arguments` meets its contract. Assumes nothing.
use Rattle.repr.proofs.ReadLaws.{passed_on}
use native.Mathlib.Omega.{arith}
use mathlib.Core.Path.{refl}
use Rattle.repr.proofs.TypeLaws.{along-refused, along-more, along-ended}
use Rattle.repr.proofs.Cursor.arguments.Goals as goal

pub returns-in_err-first : goal.returns-in_err-first
returns-in_err-first c = rw (passed_on c.from_residual.ensures) (along-refused c.loop-n.invariant (omega arith) c.first_argument.ensures c.loop-n-test.true c.in_err-first.was)

pub loop-n-preserved : goal.loop-n-preserved
loop-n-preserved c = rw c.from.ensures (along-more c.loop-n.invariant (omega arith) c.first_argument.ensures c.loop-n-test.true c.in_ok-first.was)

pub returns : goal.returns
returns c = along-ended c.loop-n.invariant (omega arith) refl c.loop-n-test.false
