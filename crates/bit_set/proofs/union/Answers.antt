use native.Mathlib.Omega.{arith}
use Prim.Native.Nat.{◌<◌}
use Rattle.bit_set.proofs.RunLaws.{within-start, join_turn, join_read}
use Rattle.bit_set.proofs.union.Goals as goal

pub loop-i-init : goal.loop-i-init
loop-i-init c =
    let a = c.args in
    within-start a.words.now a.dst a.src a.n
    (rw (← c.run_fits.ensures, ← c.run_fits-2.ensures, ← c.run_fits-3.ensures) c.if-not-fit-read_first.false)

pub loop-i-preserved : goal.loop-i-preserved
loop-i-preserved c =
    let a = c.args in
    let l = c.loop-i in
    let j = c.join-changed in
    let h : l.i < a.n = omega arith in (
      l.invariant.0,
      join_turn a.words.now a.dst a.words.now a.src a.n l.words j.new.word l.changed j.result l.i _ l.invariant.1 h
          (join_read a.words.now a.dst a.src a.n l.words l.changed l.i l.invariant.0 l.invariant.1 h)
          j.ensures,
    )
