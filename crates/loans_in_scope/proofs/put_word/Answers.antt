-- `loans_in_scope::put_word`. The loop's invariant: `rest` has the bits from point p on, and the points before it have been put. Assumes nothing.
use native.Mathlib.Omega.{arith}
use Rattle.bit_slice.proofs.ShiftLaws.{shift_more}
use Rattle.loans_in_scope.proofs.GainsLaws.{word_more, word_done}
use Rattle.loans_in_scope.proofs.put_word.Goals as goal

pub returns-then-rest-eq0 : goal.returns-then-rest-eq0
returns-then-rest-eq0 c = let a = c.args in
    let l = c.loop-p in
    word_done a.w a.from a.i a.sets.now l.auto.p l.invariant.0 a.to (omega arith) c.if-rest-eq0.true l.invariant.1

pub loop-p-preserved : goal.loop-p-preserved
loop-p-preserved c = let a = c.args in
    let l = c.loop-p in
    (shift_more a.w a.from l.auto.p l.invariant.0, word_more a.w a.from a.i a.sets.now l.auto.p l.invariant.0 l.invariant.1 c.put.ensures)
