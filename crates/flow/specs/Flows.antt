-- Least sets of numbers along the edges of a graph: four words, which is 128 numbers, a point.
use Rattle.std.specs.Prelude.{◌≡◌, ◌↔◌, true, List, ℕ, ◌+◌, ◌*◌, ◌<◌}
use Rattle.nll_spec.specs.Syntax.{Point}
use Rattle.nll_spec.specs.Graph.{Graph}
use Rattle.nll_spec.specs.Output.{word_bits}
use Rattle.nll_spec.specs.Meaning.{Next}
use Rattle.bit_set.specs.Bits.{has}
use Rattle.flow.specs.declared.Direction.{Direction}
use Rattle.flow.specs.declared.Direction.TheVariants.{Forward, Backward}

-- where number b of point p's set stands in the words
abbrev pub bit_at : Point → ℕ → ℕ
bit_at p b = word_bits * (4 * p) + b

-- q comes next after p in a direction
abbrev pub Step : Direction → Graph → Point → Point → Type 0
Step Forward g p q = Next g p q
Step Backward g p q = Next g q p

-- Number b comes to a point of a block: it is there at the start, or comes to a point before it and may pass.
pub data Flows (g : Graph) (d : Direction) (pass start : List ℕ) (b : ℕ) : Point → Type 0 where
  given : {p : Point} → p < g.code → has start (bit_at p b) ≡ true → Flows g d pass start b p
  along : {p q : Point} → Flows g d pass start b p → Step d g p q → has pass (bit_at q b) ≡ true → Flows g d pass start b q

-- Each point's set has the numbers that come to it.
pub record FlowSays (g : Graph) (d : Direction) (pass start after : List ℕ) : Type 0 where
  pub sets : (p : Point) (b : ℕ) → p < g.code → b < 128 → (has after (bit_at p b) ≡ true) ↔ Flows g d pass start b p
