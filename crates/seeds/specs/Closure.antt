-- What each declared region outlives, as rows of one word: row r has e where r outlives e.
use Rattle.std.specs.Prelude.{◌≡◌, cond, ◌&&◌, ◌||◌, List, [], ℕ, zero, suc, ◌+◌, ◌*◌, ◌≤◌, ◌<◌, length, get_or, T, eqb, ltb}
use Rattle.nll_spec.specs.Lists.{contains}
use Rattle.nll_spec.specs.Output.{word_bits}
use Rattle.nll_spec.specs.Syntax.{RegionName, Job}
use Rattle.nll_spec.specs.WellFormed.{named}
use Rattle.nll_spec.specs.Fixpoint.{holds}
use Rattle.nll_spec.specs.Regions.{outlives_table}
use Rattle.record.specs.Layout.{Holds}
use Rattle.record.specs.declared.Record.{Record}
use Rattle.bit_set.specs.Bits.{has, joined_within}

-- row k put into row r, if r has k
abbrev pub linked : List ℕ → ℕ → ℕ → List ℕ
linked ws r k = cond (has ws (word_bits * r + k)) (joined_within ws r k 1) ws

-- the same for each row below n
abbrev pub passed : ℕ → ℕ → List ℕ → List ℕ
passed zero k ws = ws
passed (suc n) k ws = linked (passed n k ws) n k

-- the same for each k below m, with n rows
abbrev pub closed : ℕ → ℕ → List ℕ → List ℕ
closed n zero ws = ws
closed n (suc m) ws = passed n m (closed n m ws)

-- The rows below i have their own number and those listed, and the others nothing.
pub record Listed (j : Job) (i : ℕ) (ws : List ℕ) : Type 0 where
  pub size : length ws ≡ 16
  pub bits : (r e : RegionName) → r < 16 → e < word_bits → has ws (word_bits * r + e) ≡ (ltb r i && (eqb e r || contains (get_or j.outlives r []) e))

pub record Listing (input : Record) (i : ℕ) (ws : List ℕ) : Type 0 where
  pub turns : i ≤ input.head.declared
  pub says : (j : Job) → Holds input j → T (named j) → Listed j i ws

-- The rows are the definition's table.
pub record Ends (input : Record) (ws : List ℕ) : Type 0 where
  pub bits : (j : Job) → Holds input j → T (named j) → (r e : RegionName) → r < length j.outlives → e < length j.outlives
      → has ws (word_bits * r + e) ≡ holds (outlives_table j) r e
