-- The graph as two tables of numbers: the points that follow p stand in `succ` from first[p] up to first[p + 1].
use Rattle.std.specs.Prelude.{◌≡◌, cond, List, ℕ, ◌+◌, ◌≤◌, ◌<◌, length, get_or, ltb}
use Rattle.std.proofs.Math.Seq.{slice}
use Rattle.nll_spec.specs.Syntax.{Point}
use Rattle.nll_spec.specs.Graph.{Graph, next_of}
use Rattle.nll_spec.specs.Meaning.{Next}

-- where the points that follow p begin in `succ`, and where they end
abbrev pub row_start : List ℕ → Point → ℕ
row_start first p = get_or first p 0

abbrev pub row_end : List ℕ → Point → ℕ
row_end first p = get_or first (p + 1) 0

-- e, or the size of `succ` where that is less
abbrev pub up_to : ℕ → ℕ
up_to e = cond (ltb e 1536) e 1536

-- the points that follow p
abbrev pub successors : List ℕ → List ℕ → Point → List ℕ
successors first succ p = slice (row_start first p) (up_to (row_end first p)) succ

-- the tables say that q follows p
abbrev pub Edge : List ℕ → List ℕ → Point → Point → Type 0
Edge first succ p q = (k : ℕ) × (row_start first p ≤ k) × (k < up_to (row_end first p)) × (get_or succ k 0 ≡ q)

-- The tables say what follows each point of a block.
pub record Edges (g : Graph) (first succ : List ℕ) : Type 0 where
  pub ordered : g.code ≤ g.points
  pub few : g.points ≤ 1024
  pub sized : length succ ≡ 1536
  pub starts : (p : Point) → p < g.code → row_start first p ≤ row_end first p
  pub ends : (p : Point) → p < g.code → row_end first p ≤ 1536
  pub next : (p : Point) → p < g.code → slice (row_start first p) (row_end first p) succ ≡ next_of g p
  pub inside : (p q : Point) → p < g.code → Next g p q → q < g.code
