-- The tables as they are filled, point by point.
use Rattle.std.specs.Prelude.{◌≡◌, List, [], ◌∷◌, map, ℕ, suc, ◌+◌, ◌*◌, ◌≤◌, ◌<◌, length, get_or, T}
use Rattle.std.proofs.Math.Seq.{slice}
use Rattle.nll_spec.specs.Syntax.{Point, Job, BlockIndex}
use Rattle.nll_spec.specs.Decode.{point_count}
use Rattle.nll_spec.specs.WellFormed.{successors_named}
use Rattle.nll_spec.specs.Graph.{graph_of, next_of, first_point}
use Rattle.record.specs.Layout.{Layout}
use Rattle.record.specs.declared.Head.{Head}
use Rattle.record.specs.declared.Offsets.{Offsets}
use Rattle.graph.specs.Tables.{row_start, row_end}
use Rattle.graph.specs.declared.Place.{Place}

-- The rows of the points below n are what f says, in the first k entries of `succ`.
pub record Filled (f : Point → List Point) (first succ : List ℕ) (n k : ℕ) : Type 0 where
  pub last : get_or first n 0 ≡ k
  pub starts : (p : Point) → p < n → row_start first p ≤ row_end first p
  pub ends : (p : Point) → p < n → row_end first p ≤ k
  pub next : (p : Point) → p < n → slice (row_start first p) (row_end first p) succ ≡ f p

-- The tables have their sizes.
pub record Sized (first succ : List ℕ) : Type 0 where
  pub rows : length first ≡ 1025
  pub entries : length succ ≡ 1536

-- The rows of n points from p on are there, each of which the next point follows.
pub record Chained (p n k : ℕ) (first₀ succ₀ first succ : List ℕ) : Type 0 where
  pub sized : Sized first succ
  pub filled : (f : Point → List Point) → ((i : ℕ) → i < n → f (p + i) ≡ suc (p + i) ∷ []) → Filled f first₀ succ₀ p k → Filled f first succ (p + n) (k + n)

-- The row of point p, a block's end, is there: the first points of its successors.
pub record Ended (t : Offsets) (bs : List BlockIndex) (p k : ℕ) (first₀ succ₀ first succ : List ℕ) : Type 0 where
  pub sized : Sized first succ
  pub filled : (f : Point → List Point) → f p ≡ map (λ (b : ℕ). get_or t.first b 0) bs → Filled f first₀ succ₀ p k → Filled f first succ (p + 1) (k + length bs)

-- A job of the record that fits the tables.
pub record Given (s : List ℕ) (t : Offsets) (h : Head) (j : Job) : Type 0 where
  pub layout : Layout s t h j
  pub named : T (successors_named j)
  pub points : point_count j ≤ 1024

-- The rows of the points of the blocks below b are there.
pub record Rows (j : Job) (b : BlockIndex) (at : Place) (first succ : List ℕ) : Type 0 where
  pub point : at.point ≡ first_point j.blocks 0 b
  pub few : at.entry ≤ at.point + 8 * b
  pub filled : Filled (next_of (graph_of j)) first succ at.point at.entry

-- A place within the tables.
pub record Within (at : Place) : Type 0 where
  pub point : at.point ≤ 1024
  pub entry : at.entry ≤ 1536

-- The rows of block b are there, where those of the blocks before it were.
pub record BlockRows (s : List ℕ) (t : Offsets) (b : BlockIndex) (from at : Place) (first₀ succ₀ first succ : List ℕ) : Type 0 where
  pub sized : Sized first succ
  pub within : Within at
  pub rows : (h : Head) (j : Job) → Given s t h j → b < length j.blocks → Rows j b from first₀ succ₀ → Rows j (b + 1) at first succ
