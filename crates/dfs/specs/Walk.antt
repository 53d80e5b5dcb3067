-- What the search of one constraint computes, from the tables and the words that it is handed.
use Rattle.std.specs.Prelude.{◌≡◌, ◌⊎◌, Bool, true, not, ◌&&◌, cond, List, ℕ, zero, suc, ◌+◌, ◌-◌, ◌*◌, ◌/◌, ◌%◌, ◌^◌, ◌≤◌, ◌<◌, length, get_or, eqb, leb, ltb}
use Rattle.nll_spec.specs.Output.{word_bits}
use Rattle.bit_set.specs.Bits.{has}
use Rattle.graph.specs.Tables.{row_start, row_end, up_to, Edge}
use Rattle.graph.specs.Search.{zeros, State, pushed}

-- ---- The walk

-- s is a point of a block and in the set that starts at word `from`
abbrev pub in_code : List ℕ → ℕ → ℕ → ℕ → Bool
in_code ws from code s = ltb s code && has ws (word_bits * from + s)

-- the points that are reached from p by steps of E through points that h holds, p too
pub data Reach (E : ℕ → ℕ → Type 0) (h : ℕ → Bool) (p : ℕ) : ℕ → Type 0 where
  here : h p ≡ true → Reach E h p p
  step : {q s : ℕ} → Reach E h p q → E q s → h s ≡ true → Reach E h p s

-- the tables say that the one point that follows q is q + 1
pub record Follows (first succ : List ℕ) (q : ℕ) : Type 0 where
  pub next : Edge first succ q (q + 1)
  pub alone : (s : ℕ) → Edge first succ q s → s ≡ q + 1

-- each number of the chain is a point that is followed by the next one alone
pub record Chained (chain first succ : List ℕ) : Type 0 where
  pub links : (q : ℕ) → has chain q ≡ true → Follows first succ q

-- Going along the chain from q to e, through points that h holds, the points after q are put into the set: a becomes b.
pub record Along (chain : List ℕ) (h : ℕ → Bool) (a b : List ℕ) (q e : ℕ) : Type 0 where
  pub sized : length b ≡ 32
  pub up : q ≤ e
  pub below : e < 1024
  pub linked : (x : ℕ) → q ≤ x → x < e → has chain x ≡ true
  pub held : (x : ℕ) → q < x → x ≤ e → h x ≡ true
  pub kept : (x : ℕ) → has a x ≡ true → has b x ≡ true
  pub put : (x : ℕ) → q < x → x ≤ e → has b x ≡ true
  pub only : (x : ℕ) → has b x ≡ true → (has a x ≡ true) ⊎ ((q < x) × (x ≤ e))

-- if q is of the chain and h holds the next point, that is in the set b
pub record Stopped (chain : List ℕ) (h : ℕ → Bool) (b : List ℕ) (q : ℕ) : Type 0 where
  pub closed : has chain q ≡ true → h (q + 1) ≡ true → has b (q + 1) ≡ true

-- of the n bits of `links` from bit b on, and of the n bits of `inner` after bit b, each is 1
pub record Run (links inner b n : ℕ) : Type 0 where
  pub linked : (i : ℕ) → i < n → links / 2 ^ (b + i) % 2 ≡ 1
  pub held : (i : ℕ) → i < n → inner / 2 ^ (b + i + 1) % 2 ≡ 1

-- the bits of m that are 1 are b to b + n
pub record Mask (b n m : ℕ) : Type 0 where
  pub inside : (i : ℕ) → b ≤ i → i ≤ b + n → m / 2 ^ i % 2 ≡ 1
  pub only : (i : ℕ) → m / 2 ^ i % 2 ≡ 1 → (b ≤ i) × (i ≤ b + n)

-- s is marked and pushed, where it has no mark and h holds it
abbrev pub visited : (ℕ → Bool) → ℕ → State → State
visited h s st = cond (eqb (get_or st.seen s 0) 0 && h s) (pushed s st) st

-- the same for the first m points of succ from lo on
unfoldable pub nexts : (ℕ → Bool) → List ℕ → ℕ → ℕ → State → State
nexts h succ lo zero st = st
nexts h succ lo (suc m) st = visited h (get_or succ (lo + m) 0) (nexts h succ lo m st)

-- the same for the points that follow q
abbrev pub row : (ℕ → Bool) → List ℕ → List ℕ → ℕ → State → State
row h first succ q st = nexts h succ (row_start first q) (up_to (row_end first q) - row_start first q) st

-- the same, where q is not of the chain
abbrev pub left : List ℕ → (ℕ → Bool) → List ℕ → List ℕ → ℕ → State → State
left chain h first succ q st = cond (has chain q) st (row h first succ q st)

-- the stack has room for each point without a mark
pub record Roomy (seen : List ℕ) (depth : ℕ) : Type 0 where
  pub room : depth + zeros seen ≤ 1024
  pub sized : length seen ≡ 1024

-- ---- Points that nothing follows

-- q's row of the table is empty
abbrev pub Leaf : List ℕ → ℕ → Type 0
Leaf first q = row_end first q ≤ row_start first q

-- q is not of the chain and has no point after it
abbrev pub is_leaf : List ℕ → List ℕ → ℕ → Bool
is_leaf chain first q = not (has chain q) && leb (row_end first q) (row_start first q)

-- the set has the points of A, and `exit` says whether one of them has no point after it
pub record Reaches (A : ℕ → Type 0) (first points : List ℕ) (exit : Bool) : Type 0 where
  pub sized : length points ≡ 32
  pub sound : (x : ℕ) → has points x ≡ true → A x
  pub complete : (x : ℕ) → A x → has points x ≡ true
  pub leaf : exit ≡ true → (x : ℕ) × A x × Leaf first x
  pub exits : (x : ℕ) → A x → Leaf first x → exit ≡ true
