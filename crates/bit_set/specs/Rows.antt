-- Runs of words as rows of a table of `nll_spec`.
use Rattle.std.specs.Prelude.{◌≡◌, Bool, ◌||◌, List, [], ◌∷◌, map, ℕ, ◌+◌, ◌*◌, ◌≤◌, ◌<◌, length}
use Rattle.nll_spec.specs.Lists.{below}
use Rattle.nll_spec.specs.Fixpoint.{Table, holds}
use Rattle.nll_spec.specs.Output.{word_bits}
use Rattle.bit_set.specs.Bits.{has}

-- the run of n words from s as a row: column p is number p
abbrev pub row_at : List ℕ → ℕ → ℕ → List Bool
row_at ws s n = map (λ p. has ws (word_bits * s + p)) (below (word_bits * n))

-- two rows, column by column
abbrev pub or_row : List Bool → List Bool → List Bool
or_row [] ys = []
or_row (x ∷ xs) [] = x ∷ xs
or_row (x ∷ xs) (y ∷ ys) = (x || y) ∷ or_row xs ys

-- The words say what the table holds: row r stands in the w words from word r × w on, whatever follows the rows.
pub record Says (w : ℕ) (t : Table) (ws : List ℕ) : Type 0 where
  pub room : length t * w ≤ length ws
  pub bits : (r p : ℕ) → r < length t → p < word_bits * w → has ws (word_bits * (r * w) + p) ≡ holds t r p
