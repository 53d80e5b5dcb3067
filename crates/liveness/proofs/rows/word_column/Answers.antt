-- `liveness::rows::word_column`. The loop's invariant: `rest` has the bits from variable v on, and the rows below v are done. Assumes nothing.
use Prim.Native.Nat.{◌+◌}
use mathlib.Core.Path.{◌∙◌}
use Rattle.bit_slice.proofs.ShiftLaws.{shift_more}
use Rattle.liveness.specs.Rows.{in_word, Column}
use Rattle.liveness.proofs.ColumnLaws.{column_held, column_out, column_rest, from_word, past_word}
use native.Mathlib.Omega.{arith}
use borrow.Author.Tests.{eq-eqb, ne_eqb}
use Rattle.liveness.proofs.rows.word_column.Goals.{then-rest-eq1, else-rest-eq1}
use Rattle.liveness.proofs.rows.word_column.Goals as goal

pub returns-then-rest-eq0 : goal.returns-then-rest-eq0
returns-then-rest-eq0 c = let a = c.args in let l = c.loop-v in column_rest a.width (in_word a.w a.first) a.p a.rows.now a.n (omega arith) (past_word a.w a.first (omega arith) l.invariant.0 c.if-rest-eq0.true) l.invariant.1

pub loop-v-preserved : goal.loop-v-preserved
loop-v-preserved c = let a = c.args in let l = c.loop-v in let is = from_word a.w a.first l.v (omega arith) l.invariant.0 in
    let next : Column a.width (l.v + 1) (in_word a.w a.first) a.p a.rows.now _ =
    elim c.if-rest-eq1.branch [
      | then-rest-eq1 w ↦ column_held a.width (in_word a.w a.first) a.p a.rows.now l.invariant.1 is (eq-eqb _ _ w.if-rest-eq1.true) c.requires.4 (omega (arith, c.requires.3)) c.requires.0 (w.rows-is ∙ w.add.ensures.0)
      | else-rest-eq1 w ↦ column_out a.width (in_word a.w a.first) a.p a.rows.now l.invariant.1 is (ne_eqb _ _ w.if-rest-eq1.false) w.rows-is
    ] in (shift_more a.w a.first (omega arith) l.invariant.0, next)
