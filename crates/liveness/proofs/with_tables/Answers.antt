-- `liveness::with_tables`: the tables are as `by_tables` asks. Assumes nothing.
use Prim.Native.Nat.{ℕ}
use native.Mathlib.Omega.{arith}
use lib.ListN.{length-replicate}
use Rattle.liveness.proofs.FillLaws.{start_blank}
use Rattle.liveness.proofs.with_tables.Goals as goal

pub by_tables-requires : goal.by_tables-requires
by_tables-requires g c =
    let n = g.row.N in
    let r = c.requires in
    let long = length-replicate {A = ℕ} n in
    (r.2, r.3, r.4, start_blank n _ r.0, omega (arith, r.0, long 0), omega (arith, r.0, long 4294967295), r.5, r.6)
