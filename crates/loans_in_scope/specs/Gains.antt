-- Numbers that come to the sets of points, in four words a point.
use Rattle.std.specs.Prelude.{◌≡◌, ◌⊎◌, Bool, true, false, List, ℕ, ◌*◌, ◌-◌, ◌/◌, ◌%◌, ◌^◌, ◌<◌, ◌≤◌, length, get_or, eqb}
use Rattle.std.specs.Int.Bits.{bit_and}
use Rattle.nll_spec.specs.Syntax.{Point}
use Rattle.bit_set.specs.Bits.{has}
use Rattle.graph.specs.Tables.{row_start, row_end, up_to}
use Rattle.flow.specs.Flows.{bit_at}

-- The words ws became ws': number i came to the set of point p where F p i says so, and nowhere else.
pub record Gains (F : Point → ℕ → Type 0) (ws ws' : List ℕ) : Type 0 where
  pub as_long : length ws' ≡ length ws
  pub old : (p : Point) (i : ℕ) → i < 128 → has ws (bit_at p i) ≡ true → has ws' (bit_at p i) ≡ true
  pub new : (p : Point) (i : ℕ) → i < 128 → F p i → has ws' (bit_at p i) ≡ true
  pub only : (p : Point) (i : ℕ) → i < 128 → has ws' (bit_at p i) ≡ true → (has ws (bit_at p i) ≡ true) ⊎ F p i

-- ---- The three tables that are filled

-- the loans that start at a point, those that may pass it, and those whose region holds it
pub record Tables : Type 0 where
  pub start : List ℕ
  pub pass : List ℕ
  pub region : List ℕ

abbrev pub tables : List ℕ → List ℕ → List ℕ → Tables
tables a b c = record { start = a; pass = b; region = c }

pub record Bits : Type 0 where
  pub start : Bool
  pub pass : Bool
  pub region : Bool

-- The tables have four words for each of n points.
pub record Sized (n : ℕ) (t : Tables) : Type 0 where
  pub start : 4 * n ≤ length t.start
  pub pass : 4 * n ≤ length t.pass
  pub region : 4 * n ≤ length t.region

-- No number is in a set of the tables.
pub record Empty (t : Tables) : Type 0 where
  pub start : (p : Point) (i : ℕ) → i < 128 → has t.start (bit_at p i) ≡ false
  pub pass : (p : Point) (i : ℕ) → i < 128 → has t.pass (bit_at p i) ≡ false
  pub region : (p : Point) (i : ℕ) → i < 128 → has t.region (bit_at p i) ≡ false

-- The bits f came to the places of D, in each table.
pub record Filled (D : Point → ℕ → Type 0) (f : Point → ℕ → Bits) (a b : Tables) : Type 0 where
  pub start : Gains (λ p i. D p i × ((f p i).start ≡ true)) a.start b.start
  pub pass : Gains (λ p i. D p i × ((f p i).pass ≡ true)) a.pass b.pass
  pub region : Gains (λ p i. D p i × ((f p i).region ≡ true)) a.region b.region

-- number i of point p alone
abbrev pub Cell : Point → ℕ → Point → ℕ → Type 0
Cell p i q k = (q ≡ p) × (k ≡ i)

-- the places of D, or none
abbrev pub If : (Point → ℕ → Type 0) → Bool → Point → ℕ → Type 0
If D b p i = D p i × (b ≡ true)

-- the first n numbers of point p
abbrev pub Cells : Point → ℕ → Point → ℕ → Type 0
Cells p n q k = (q ≡ p) × (k < n)

-- number i of the points below p
abbrev pub Column : Point → ℕ → Point → ℕ → Type 0
Column p i q k = (q < p) × (k ≡ i)

-- the first n numbers of the points below p
abbrev pub Below : Point → ℕ → Point → ℕ → Type 0
Below p n q k = (q < p) × (k < n)

-- number i of the points from `from` on and below `to` that a word has: its first bit is for point `from`
abbrev pub WordTo : ℕ → Point → Point → ℕ → Point → ℕ → Type 0
WordTo w from to i p k = (k ≡ i) × (from ≤ p) × (p < to) × (eqb (w / 2 ^ (p - from) % 2) 1 ≡ true)

-- No set has a number from n on.
pub record Within (n : ℕ) (ws : List ℕ) : Type 0 where
  pub none : (p : Point) (i : ℕ) → n ≤ i → i < 128 → has ws (bit_at p i) ≡ false

-- ---- What follows a point gets its numbers

-- the numbers that point p has in `from` came to q, if q is a point of a block
abbrev pub Onto : List ℕ → ℕ → Point → Point → Point → ℕ → Type 0
Onto from code p q x i = (q < code) × (x ≡ q) × (has from (bit_at p i) ≡ true)

-- and to the points of `succ` from p's row's start up to entry n
abbrev pub Leaving : List ℕ → ℕ → List ℕ → List ℕ → Point → ℕ → Point → ℕ → Type 0
Leaving from code first succ p n x i = (k : ℕ) × (row_start first p ≤ k) × (k < n) × Onto from code p (get_or succ k 0) x i

-- to those of p's row
abbrev pub Row : List ℕ → ℕ → List ℕ → List ℕ → Point → Point → ℕ → Type 0
Row from code first succ p x i = Leaving from code first succ p (up_to (row_end first p)) x i

-- the same for the first n points
abbrev pub Rows : List ℕ → ℕ → List ℕ → List ℕ → ℕ → Point → ℕ → Type 0
Rows from code first succ n x i = (p : Point) × (p < n) × Row from code first succ p x i

-- ---- Sets cut down to others

-- The first n words have only the bits that those of `by` have too.
pub record Masked (by ws : List ℕ) (n : ℕ) (ws' : List ℕ) : Type 0 where
  pub as_long : length ws' ≡ length ws
  pub done : (w : ℕ) → w < n → get_or ws' w 0 ≡ bit_and (get_or ws w 0) (get_or by w 0)
  pub left : (w : ℕ) → n ≤ w → get_or ws' w 0 ≡ get_or ws w 0
