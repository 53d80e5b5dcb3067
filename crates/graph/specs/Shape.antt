-- What a block of the record has: so many actions, and its successors.
use Rattle.std.specs.Prelude.{◌≡◌, List, ℕ, ◌≤◌, length, take, drop}
use Rattle.nll_spec.specs.Syntax.{Block}
use Rattle.nll_spec.specs.Decode.{block}
use Rattle.repr.specs.declared.BasicBlockData.{BasicBlockData}
use Rattle.repr.specs.Stands.{Stands}
use Rattle.graph.specs.declared.Shape.{Shape}

-- Counts that fit a byte.
pub record Few (r : Shape) : Type 0 where
  pub successors : length r.successors.now ≤ 255
  pub actions : r.actions ≤ 255

-- The answer about a block as the cursor read it.
pub record Listed (s : List ℕ) (d : BasicBlockData) (r : Shape) : Type 0 where
  pub fits : Few r
  pub many : r.actions ≡ d.actions.count
  pub row : r.successors.now ≡ take d.successors.count (drop d.successors.from.at s)

-- The answer is what block b has.
pub record Shaped (b : Block) (r : Shape) : Type 0 where
  pub many : r.actions ≡ length b.actions
  pub row : r.successors.now ≡ b.successors
  pub count : length r.successors.now ≤ 8

-- The answer at a place of the record.
pub record ShapeSays (s : List ℕ) (at : ℕ) (r : Shape) : Type 0 where
  pub fits : Few r
  pub shaped : (b : Block) → Stands block b (drop at s) → Shaped b r
