-- What running edges does to the words. An edge between two points is four edges between words; E is a set of these.
use Rattle.std.specs.Prelude.{◌≡◌, Bool, true, false, List, ℕ, ◌+◌, ◌-◌, ◌*◌, ◌^◌, ◌≤◌, ◌<◌, length, get_or}
use Rattle.std.specs.Int.Bits.{bit_and, bit_or}
use Rattle.nll_spec.specs.Syntax.{Point}
use Rattle.nll_spec.specs.Output.{word_bits}
use Rattle.bit_set.specs.Bits.{has}
use Rattle.graph.specs.Tables.{row_start, row_end, up_to}
use Rattle.flow.specs.declared.Direction.{Direction}
use Rattle.flow.specs.declared.Direction.TheVariants.{Forward, Backward}

-- The word `old` with the bits of `from` that may pass. Each fits.
pub record Mixed (old from pass new : ℕ) : Type 0 where
  pub is : new ≡ bit_or old (bit_and from pass)
  pub old-fits : old < 2 ^ word_bits
  pub from_fits : from < 2 ^ word_bits

-- Bit b comes to a word: it is there at the start, or comes to a word that an edge of E leaves and may pass.
pub data Comes (E : ℕ → ℕ → Type 0) (pass ws : List ℕ) (b : ℕ) : ℕ → Type 0 where
  here : {w : ℕ} → has ws (word_bits * w + b) ≡ true → Comes E pass ws b w
  over : {v w : ℕ} → Comes E pass ws b v → E v w → has pass (word_bits * w + b) ≡ true → Comes E pass ws b w

-- The words ws became ws', by edges of E.
pub record Since (E : ℕ → ℕ → Type 0) (pass ws ws' : List ℕ) : Type 0 where
  pub as_long : length ws' ≡ length ws
  pub kept : (j : ℕ) → has ws j ≡ true → has ws' j ≡ true
  pub sound : (w b : ℕ) → b < word_bits → has ws' (word_bits * w + b) ≡ true → Comes E pass ws b w

-- Each edge of E was run once, and r says whether that changed a word.
pub record Ran (E : ℕ → ℕ → Type 0) (pass ws ws' : List ℕ) (r : Bool) : Type 0 where
  pub since : Since E pass ws ws'
  pub same : r ≡ false → ws' ≡ ws
  pub closed : r ≡ false → (v w b : ℕ) → E v w → b < word_bits → has ws (word_bits * v + b) ≡ true → has pass (word_bits * w + b) ≡ true → has ws (word_bits * w + b) ≡ true
  pub grew : r ≡ true → (j : ℕ) × (has ws j ≡ false) × (has ws' j ≡ true)

-- ---- Sets of edges between words

-- the one from v to w
abbrev pub One : ℕ → ℕ → ℕ → ℕ → Type 0
One v w x y = (x ≡ v) × (y ≡ w)

-- the first n of the edge from p to q
abbrev pub Lanes : ℕ → Point → Point → ℕ → ℕ → Type 0
Lanes n p q x y = (k : ℕ) × (k < n) × (x ≡ 4 * p + k) × (y ≡ 4 * q + k)

-- where the edge from p to q starts in a direction, and where it ends
abbrev pub source : Direction → Point → Point → Point
source Forward p q = p
source Backward p q = q

abbrev pub target : Direction → Point → Point → Point
target Forward p q = q
target Backward p q = p

-- those of the edge from p to q, if q is a point of a block
abbrev pub Turned : Direction → ℕ → Point → Point → ℕ → ℕ → Type 0
Turned d code p q x y = (q < code) × Lanes 4 (source d p q) (target d p q) x y

-- those from p to the points of `succ` from its row's start up to entry n
abbrev pub Leaving : Direction → ℕ → List ℕ → List ℕ → Point → ℕ → ℕ → ℕ → Type 0
Leaving d code first succ p n x y = (k : ℕ) × (row_start first p ≤ k) × (k < n) × Turned d code p (get_or succ k 0) x y

abbrev pub Row : Direction → ℕ → List ℕ → List ℕ → Point → ℕ → ℕ → Type 0
Row d code first succ p x y = Leaving d code first succ p (up_to (row_end first p)) x y

-- the point whose edges are run as number i of a round
abbrev pub nth : Direction → ℕ → ℕ → Point
nth Forward code i = i
nth Backward code i = code - 1 - i

-- those of the first n points of a round
abbrev pub Rows : Direction → ℕ → List ℕ → List ℕ → ℕ → ℕ → ℕ → Type 0
Rows d code first succ n x y = (i : ℕ) × (i < n) × Row d code first succ (nth d code i) x y
