-- `repr::Cursor::each` meets its contract. Assumes nothing.
use native.Mathlib.Omega.{arith}
use Rattle.repr.proofs.ReadLaws.{passed_on}
use Rattle.repr.proofs.RowLaws.{going_more, going_stop, going_end}
use Rattle.repr.proofs.Cursor.each.Goals as goal

pub returns-in_err-c : goal.returns-in_err-c
returns-in_err-c g c = rw (passed_on c.from_residual.ensures) (going_stop c.loop.invariant (omega arith) c.in_err-c.ensures)

pub loop-preserved : goal.loop-preserved
loop-preserved g c = going_more c.loop.invariant (omega arith) c.in_ok-c.ensures

pub returns : goal.returns
returns g c = going_end c.loop.invariant (omega arith)
