-- `replay::run::too_many_actions`. Assumes nothing.
use Prim.Native.Nat.{ℕ}
use native.Mathlib.Omega.{arith}
use lib.ListN.{length-replicate}
use Rattle.replay.specs.Run.{too_many_actions}
use Rattle.buffer.proofs.AppendLaws.{appends_then}
use Rattle.replay.proofs.run.too_many_actions.Goals as goal

pub returns : goal.returns
unfolding too_many_actions
returns c =
    let p = c.put.ensures.fits (omega arith) in
    let q = c.put-2.ensures.fits (omega (arith, p.longer, length-replicate {A = ℕ} 65 0)) in
    let r = c.put-3.ensures.fits (omega (arith, p.longer, q.longer)) in
    appends_then (appends_then p q) r
