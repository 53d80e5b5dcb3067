-- `replay::run::too_long`. Assumes nothing.
use Prim.Native.Nat.{ℕ}
use native.Mathlib.Omega.{arith}
use lib.ListN.{length-replicate}
use Rattle.replay.specs.Run.{too_long}
use Rattle.buffer.proofs.AppendLaws.{appends_then}
use Rattle.replay.proofs.run.too_long.Goals as goal

pub returns : goal.returns
unfolding too_long
returns c =
    let p = c.put.ensures.fits (omega arith) in
    let q = c.put-2.ensures.fits (omega (arith, p.longer, length-replicate {A = ℕ} 16385 0)) in
    let r = c.put-3.ensures.fits (omega (arith, p.longer, q.longer)) in
    appends_then (appends_then p q) r
