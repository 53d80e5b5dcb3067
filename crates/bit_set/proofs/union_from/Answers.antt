use mathlib.Core.Path.{◌∙◌}
use lib.ListN.{drop}
use lib.Seq.{get_or-take, get_or-drop}
use native.Mathlib.Omega.{arith}
use Rattle.bit_set.proofs.RunLaws.{join_start, join_turn}
use Rattle.bit_set.proofs.union_from.Goals as goal

pub loop-i-init : goal.loop-i-init
loop-i-init c =
    let a = c.args in
    join_start a.words.now a.dst a.from.now a.src a.n (rw (← c.run_fits.ensures, ← c.run_fits-2.ensures) c.if-not-fit.false)

pub loop-i-preserved : goal.loop-i-preserved
loop-i-preserved c =
    let a = c.args in
    let l = c.loop-i in
    let j = c.join-changed in
    join_turn a.words.now a.dst a.from.now a.src a.n l.words j.new.word l.changed j.result l.i _ l.invariant (omega arith) (get_or-take _ (drop a.src a.from.now) l.i 0 (omega arith) ∙ get_or-drop a.src a.from.now l.i 0) j.ensures
