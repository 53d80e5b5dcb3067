-- The rows of liveness by variable: so many words a variable, number p of which is point p.
use Rattle.std.specs.Prelude.{◌≡◌, Bool, ◌&&◌, ◌||◌, List, ℕ, ◌+◌, ◌-◌, ◌*◌, ◌/◌, ◌%◌, ◌^◌, ◌<◌, length, eqb, leb, ltb}
use Rattle.nll_spec.specs.Syntax.{Job, Point, Variable}
use Rattle.nll_spec.specs.Fixpoint.{holds}
use Rattle.nll_spec.specs.Graph.{graph_of, is_walked}
use Rattle.nll_spec.specs.Liveness.{uses, drops, live_table}
use Rattle.nll_spec.specs.Output.{word_bits}
use Rattle.bit_set.specs.Bits.{has}
use Rattle.flow.specs.Flows.{bit_at}

-- where point p of variable v's row stands, with w words a row
abbrev pub row_bit : ℕ → Variable → Point → ℕ
row_bit w v p = word_bits * (v * w) + p

-- variable v is in the half of point x's set that begins at `from`
abbrev pub in_set : List ℕ → Point → ℕ → Variable → Bool
in_set sets x from v = has sets (bit_at x (from + v))

-- variable v is in a word, whose first bit is for variable `first`
abbrev pub in_word : ℕ → Variable → Variable → Bool
in_word word first v = leb first v && eqb (word / 2 ^ (v - first) % 2) 1

-- Point x is put into the row of each of the first n variables that f gives.
pub record Column (w n : ℕ) (f : Variable → Bool) (x : Point) (rows rows' : List ℕ) : Type 0 where
  pub size : length rows' ≡ length rows
  pub bits : (v p : ℕ) → p < word_bits * w → has rows' (row_bit w v p) ≡ (has rows (row_bit w v p) || (eqb p x && (ltb v n && f v)))

-- The rows of so many variables have the walked points below n that have the variable in that half of their sets.
pub record Columns (w many n from : ℕ) (walked sets rows : List ℕ) : Type 0 where
  pub bits : (v p : ℕ) → v < many → p < word_bits * w → has rows (row_bit w v p) ≡ (ltb p n && (has walked p && in_set sets p from v))

-- The rows say at which walked points each variable is used later, and at which it is dropped later.
pub record LiveRows (j : Job) (w : ℕ) (us ds : List ℕ) : Type 0 where
  pub used : (v p : ℕ) → v < length j.variables → p < word_bits * w → has us (row_bit w v p) ≡ (is_walked (graph_of j) p && holds (live_table uses j (graph_of j)) v p)
  pub dropped : (v p : ℕ) → v < length j.variables → p < word_bits * w → has ds (row_bit w v p) ≡ (is_walked (graph_of j) p && holds (live_table drops j (graph_of j)) v p)
