-- The search for the walked blocks: marks, and a stack of the blocks whose successors are still to be visited.
use Rattle.std.specs.Prelude.{◌≡◌, Bool, cond, not, ◌&&◌, Option, Some, None, List, [], ◌∷◌, ℕ, zero, suc, ◌+◌, ◌-◌, ◌≤◌, ◌<◌, length, get_or, set, T, eqb, ltb}
use Rattle.nll_spec.specs.Syntax.{Job, Point, BlockIndex}
use Rattle.nll_spec.specs.Fixpoint.{holds}
use Rattle.nll_spec.specs.Graph.{graph_of, is_walked, walked_table, first_point}
use Rattle.record.specs.declared.Head.{Head}
use Rattle.record.specs.declared.Offsets.{Offsets}
use Rattle.bit_set.specs.Bits.{has, with_bit}
use Rattle.graph.specs.declared.search.Search.{Search}
use Rattle.graph.specs.Filling.{Given}

-- how many marks are 0
unfoldable pub zeros : List ℕ → ℕ
zeros [] = 0
zeros (zero ∷ xs) = suc (zeros xs)
zeros (suc x ∷ xs) = zeros xs

-- the marks, the stack and how many numbers are on it
pub record State : Type 0 where
  pub seen : List ℕ
  pub stack : List ℕ
  pub depth : ℕ

abbrev pub state : List ℕ → List ℕ → ℕ → State
state a b d = record { seen = a; stack = b; depth = d }

-- those of a search
abbrev pub state_of : {n : ℕ} → Search n → State
state_of s = state s.seen s.stack s.depth

-- the last number is taken off the stack, if there is one
abbrev pub Popped : State → Option ℕ → State → Type 0
Popped st None st' = (st.depth ≡ 0) × (st' ≡ st)
Popped st (Some b) st' = (0 < st.depth) × (b ≡ get_or st.stack (st.depth - 1) 0) × (st' ≡ state st.seen st.stack (st.depth - 1))

-- The stack has room for every block without a mark, and marks are 0 and 1.
pub record Roomy (st : State) : Type 0 where
  pub marks : length st.seen ≡ 64
  pub places : length st.stack ≡ 64
  pub room : st.depth + zeros st.seen ≤ 64
  pub small : (i : ℕ) → i < st.depth → get_or st.stack i 0 < 64
  pub bits : (x : ℕ) → get_or st.seen x 0 ≤ 1

-- s with a mark and on the stack
abbrev pub pushed : ℕ → State → State
pushed s st = state (set st.seen s 1) (set st.stack st.depth s) (st.depth + 1)

-- the same, where s is below n and the stack has a place
abbrev pub pushed_within : ℕ → ℕ → State → State
pushed_within n s st = cond (ltb s n && ltb st.depth n) (pushed s st) st

-- block b is marked and pushed, where it has no mark
abbrev pub visited : BlockIndex → State → State
visited b st = cond (ltb b 64 && eqb (get_or st.seen b 0) 0) (pushed b st) st

-- the same for some blocks, one after the other
unfoldable pub visits : List BlockIndex → State → State
visits [] st = st
visits (b ∷ bs) st = visits bs (visited b st)

-- a mark, which is a number other than 0
abbrev pub Marked : List ℕ → ℕ → Type 0
Marked seen x = get_or seen x 0 ≡ 0 → ⊥

abbrev pub is_marked : List ℕ → ℕ → Bool
is_marked seen x = not (eqb (get_or seen x 0) 0)

-- The marks are the walked blocks of a job, row 0 of the table.
pub record MarksWalked (seen : List ℕ) (j : Job) : Type 0 where
  pub same : (b : BlockIndex) → is_marked seen b ≡ holds (walked_table j) 0 b

-- The marks, each 0 or 1, are the walked blocks of every job of the record that starts at this block.
pub record WalkedBlocks (s : List ℕ) (t : Offsets) (start : BlockIndex) (seen : List ℕ) : Type 0 where
  pub size : length seen ≡ 64
  pub bits : (b : BlockIndex) → get_or seen b 0 ≤ 1
  pub marks : (h : Head) (j : Job) → Given s t h j → j.start ≡ start → T (ltb j.start (length j.blocks)) → MarksWalked seen j

-- ---- Their points

-- the set with n points from p on
abbrev pub with_run : List ℕ → Point → ℕ → List ℕ
with_run ws p zero = ws
with_run ws p (suc n) = with_bit (with_run ws p n) (p + n)

-- The words say which of the first 1,024 points are those of walked blocks.
abbrev pub WalkedIn : Job → List ℕ → Type 0
WalkedIn j walked = (p : Point) → p < 1024 → has walked p ≡ is_walked (graph_of j) p

-- The set has the walked points of the blocks below b, of which p is the next point.
pub record WalkedBelow (j : Job) (b : BlockIndex) (p : Point) (ws : List ℕ) : Type 0 where
  pub point : p ≡ first_point j.blocks 0 b
  pub points : (q : Point) → q < 1024 → has ws q ≡ (ltb q p && is_walked (graph_of j) q)

-- The walked points of block b are in the set, where those of the blocks before it were.
pub record BlockPoints (s : List ℕ) (t : Offsets) (seen : List ℕ) (b : BlockIndex) (p next : Point) (ws₀ ws : List ℕ) : Type 0 where
  pub size : length ws ≡ 32
  pub within : next ≤ 1024
  pub points : (h : Head) (j : Job) → Given s t h j → MarksWalked seen j → b < length j.blocks → WalkedBelow j b p ws₀ → WalkedBelow j (b + 1) next ws
