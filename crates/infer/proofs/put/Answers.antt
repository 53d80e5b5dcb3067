-- `infer::put`: the union is what `Spread` says. Assumes nothing.
use mathlib.Core.Path.{◌≡◌}
use Prim.Native.Nat.{◌+◌, ◌/◌}
use native.Mathlib.Omega.{arith}
use Rattle.infer.proofs.PutLaws.{spreads}
use Rattle.infer.proofs.put.Goals as goal

pub returns : goal.returns
returns c = let a = c.args in
    let e : c.div_ceil.result ≡ (a.n + 31) / 32 = omega (arith, c.div_ceil.ensures) in
    λ m. rw (c.union_from.ensures.0, c.union_from.ensures.1, e) (spreads a.words.now a.points.now a.to a.n c.requires m (λ k. (c.slice_known-1.given k).fits) (λ k. (c.shared_slice_known-1.given k).fits))
