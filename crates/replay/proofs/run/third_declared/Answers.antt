-- `replay::run::third_declared`. Assumes nothing.
use Prim.Native.Nat.{ℕ}
use native.Mathlib.Omega.{arith}
use lib.ListN.{length-replicate}
use Rattle.replay.specs.Run.{third_grows}
use Rattle.buffer.proofs.AppendLaws.{appends_then}
use Rattle.replay.proofs.run.third_declared.Goals as goal

pub returns : goal.returns
unfolding third_grows
returns c =
    let p = c.put.ensures.fits (omega arith) in
    let q = c.put-2.ensures.fits (omega (arith, p.longer)) in
    let r = c.put-3.ensures.fits (omega (arith, p.longer, q.longer, length-replicate {A = ℕ} 13 0)) in
    let s = c.put-4.ensures.fits (omega (arith, p.longer, q.longer, r.longer)) in
    appends_then (appends_then (appends_then p q) r) s
