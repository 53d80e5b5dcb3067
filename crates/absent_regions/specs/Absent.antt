-- For each point a row of four words: regions that are inner regions of no constraint of the point.
use Rattle.std.specs.Prelude.{◌≡◌, ◌⊎◌, Bool, true, false, not, ◌&&◌, ◌||◌, List, ℕ, zero, suc, ◌+◌, ◌*◌, ◌/◌, ◌<◌, ◌≤◌, length, get_or, eqb, ltb}
use Rattle.std.specs.Int.Bits.{bit_and}
use Rattle.nll_spec.specs.Syntax.{Point, RegionName}
use Rattle.nll_spec.specs.Output.{word_bits}
use Rattle.bit_set.specs.Bits.{has}
use Rattle.constraint_list.specs.Listed.{outlives_from, count_in}

-- number x of point p's row
abbrev pub row_bit : Point → RegionName → ℕ
row_bit p x = word_bits * (4 * p) + x

-- row p is within the table
abbrev pub has_row : List ℕ → Point → Bool
has_row t p = ltb p (length t / 4)

-- the inner region of constraint i
abbrev pub inner_at : List ℕ → ℕ → RegionName
inner_at ls i = (outlives_from (get_or ls (suc i) 0)).sub

-- no constraint of the list has x as its inner region
abbrev pub Absent : List ℕ → RegionName → Type 0
Absent ls x = (i : ℕ) → i < count_in ls → inner_at ls i ≡ x → ⊥

-- none of the first n constraints has x as its inner region
unfoldable pub is_absent : List ℕ → ℕ → RegionName → Bool
is_absent ls zero x = true
is_absent ls (suc n) x = is_absent ls n x && not (eqb (inner_at ls n) x)

-- the first n words of the set have no region that row p lacks
unfoldable pub words_in : List ℕ → Point → List ℕ → ℕ → Bool
words_in t p set zero = true
words_in t p set (suc n) = words_in t p set n && eqb (bit_and (get_or set n 0) (get_or t (4 * p + n) 0)) (get_or set n 0)

-- row p is within the table and has all regions of the set
abbrev pub all_in : List ℕ → Point → List ℕ → Bool
all_in t p set = has_row t p && words_in t p set 4

-- A region below 128 is in the set if none of the first n constraints has it as its inner region.
pub record AbsentBelow (ls : List ℕ) (n : ℕ) (set : List ℕ) : Type 0 where
  pub sized : length set ≡ 4
  pub is : (x : RegionName) → x < 128 → has set x ≡ is_absent ls n x

-- The regions below 128 that are inner regions of no constraint of the list come to row p, if it is within the table. Nothing else changes.
pub record Puts (ls : List ℕ) (p : Point) (t t' : List ℕ) : Type 0 where
  pub as_long : length t' ≡ length t
  pub only : (q : Point) (x : RegionName) → x < 128 → has t' (row_bit q x) ≡ true → (has t (row_bit q x) ≡ true) ⊎ ((q ≡ p) × Absent ls x)
  pub row : has_row t p ≡ true → (x : RegionName) → x < 128 → has t' (row_bit p x) ≡ (has t (row_bit p x) || is_absent ls (count_in ls) x)
  pub others : (j : ℕ) → (j < row_bit p 0) ⊎ (row_bit p 128 ≤ j) → has t' j ≡ has t j
  pub past : has_row t p ≡ false → t' ≡ t

-- The set has the regions of two sets, and no others.
pub record Marks (last grew set : List ℕ) : Type 0 where
  pub sized : length set ≡ 4
  pub all : (x : RegionName) → (has last x ≡ true) ⊎ (has grew x ≡ true) → has set x ≡ true
  pub only : (x : RegionName) → has set x ≡ true → (x < 128) × ((has last x ≡ true) ⊎ (has grew x ≡ true))

-- The answer is whether row p is within the table and has all regions of the set.
pub record AllIn (t : List ℕ) (p : Point) (set : List ℕ) (r : Bool) : Type 0 where
  pub held : r ≡ true → (x : RegionName) → x < 128 → has set x ≡ true → has t (row_bit p x) ≡ true
  pub is : r ≡ all_in t p set
