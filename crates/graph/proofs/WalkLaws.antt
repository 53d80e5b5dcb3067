-- The search of a job's blocks: its marks are the walked blocks. Assumes nothing.
use mathlib.Core.Path.{◌≡◌, sym, ap, subst, ◌∙◌}
use mathlib.Core.Logic.{◌⊎◌, inl, inr}
use mathlib.Core.Bool.{Bool, ◌&&◌}
use mathlib.Core.List.{List}
use Prim.Native.Nat.{ℕ, ◌-◌, ◌<◌}
use native.Mathlib.Omega.{arith}
use lib.ListN.{length, get_or, replicate}
use lib.Dec.{T, eqb, eqb→eq, eqb_refl, ltb, ltb→lt}
use borrow.Author.Tests.{eq-eqb, ne_eqb}
use Rattle.nll_spec.specs.Lists.{any, contains, below}
use Rattle.nll_spec.specs.Syntax.{Job, BlockIndex}
use Rattle.nll_spec.specs.Fixpoint.{Table, holds}
use Rattle.nll_spec.specs.Graph.{block_successors, walked_rule, walked_table}
use Rattle.nll_spec.proofs.Tests.{or_left, or_right, or_cases, and_intro, and_left, and_right, contains-below, length-count_from, any_of, any_found}
use Rattle.nll_spec.proofs.Least.{Inside, held-inside, sized-least, least_ind, same_bool}
use Rattle.nll_spec.proofs.GraphLaws.{block_at, no_block, walked_block, successor_named}
use Rattle.record.specs.declared.Head.{Head}
use Rattle.record.specs.declared.Offsets.{Offsets}
use Rattle.record.proofs.AccessLaws.{block-at}
use Rattle.graph.proofs.ShapeLaws.{few-blocks}
use Rattle.graph.specs.declared.Shape.{Shape}
use Rattle.graph.specs.Shape.{ShapeSays}
use Rattle.graph.specs.Filling.{Given}
use Rattle.std.proofs.Common.{Some, None}
use Rattle.graph.specs.Search.{State, state, Popped, Roomy, visited, visits, is_marked, WalkedBlocks, Marked}
use Rattle.graph.proofs.SearchLaws.{work, visited-kept, visits-kept, Walk, walk_none, walk_visit, walk_turn, walk-closed, roomy_none, roomy_pop}

-- ---- Walked blocks

module _ (j : Job) where
  -- c follows b
  abbrev After : ℕ → ℕ → Type 0
  After b c = T (contains (block_successors j b) c)

  abbrev IsWalked : ℕ → Type 0
  IsWalked b = T (holds (walked_table j) 0 b)

  walked-inside : (b : ℕ) → IsWalked b → b < length j.blocks
  unfolding walked_table
  walked-inside b h =
      let x = held-inside (walked_table j) 0 b (sized-least (walked_rule j) 1 (below (length j.blocks))) h in
      let y = length-count_from 0 (length j.blocks) in
      omega (arith, x.1)

  follows : ℕ → ℕ → Bool
  follows c b = holds (walked_table j) 0 b && contains (block_successors j b) c

  start-walked : T (ltb j.start (length j.blocks)) → IsWalked j.start
  unfolding follows
  start-walked h =
      walked_block j j.start (ltb→lt j.start (length j.blocks) h)
      (or_left (eqb j.start j.start) (any (follows j.start) (below (length j.blocks))) (eqb_refl j.start))

  next-walked : (b c : ℕ) → IsWalked b → c < length j.blocks → After b c → IsWalked c
  unfolding follows
  next-walked b c w l h =
      walked_block j c l
      (or_right (eqb c j.start) (any (follows c) (below (length j.blocks)))
      (any_of (follows c) (below (length j.blocks)) b (contains-below (length j.blocks) b (walked-inside b w)) (and_intro (holds (walked_table j) 0 b) (contains (block_successors j b) c) w h)))

  -- marks that have the start and are closed have every walked block
  walked-marked : (seen : List ℕ) → Marked seen j.start → ((b c : ℕ) → Marked seen b → After b c → Marked seen c) → (row b : ℕ) → T (holds (walked_table j) row b) → Marked seen b
  unfolding walked_table
  walked-marked seen first closed = least_ind (walked_rule j) (λ row b. Marked seen b) 1 (below (length j.blocks)) keeps
    where
      keeps : (t : Table) → Inside t (λ row b. Marked seen b) → (row c : ℕ) → row < 1 → T (contains (below (length j.blocks)) c) → T (walked_rule j t row c) → Marked seen c
      keeps t inside row c hr hc h = go (or_cases (eqb c j.start) (any before (below (length j.blocks))) h)
        where
          before : BlockIndex → Bool
          before b = holds t row b && contains (block_successors j b) c

          go : T (eqb c j.start) ⊎ T (any before (below (length j.blocks))) → Marked seen c
          go (inl e) = subst (Marked seen) (sym (eqb→eq c j.start e)) first
          go (inr w) =
              let (b, l, k) = any_found before (below (length j.blocks)) w in
              closed b c (inside row b (and_left (holds t row b) (contains (block_successors j b) c) k)) (and_right (holds t row b) (contains (block_successors j b) c) k)

-- ---- The search

-- A job of the record that starts at this block.
pub record Starts (s : List ℕ) (t : Offsets) (start : ℕ) (h : Head) (j : Job) : Type 0 where
  pub given : Given s t h j
  pub is : j.start ≡ start
  pub named : T (ltb j.start (length j.blocks))

-- What holds of a job's search at each step.
pub record Searching (s : List ℕ) (t : Offsets) (start : ℕ) (st : State) : Type 0 where
  pub walk : (h : Head) (j : Job) → Starts s t start h j → Walk (After j) (IsWalked j) (λ x. ⊥) st
  pub first : (h : Head) (j : Job) → Starts s t start h j → Marked st.seen start

-- nothing is marked
abbrev pub nothing : State
nothing = state (replicate 64 0) (replicate 64 0) 0

searching_start : (s : List ℕ) (t : Offsets) (start : ℕ) → Searching s t start (visited start nothing)
searching_start s t start =
    record {
      walk = λ h j g. (walk_visit (After j) (IsWalked j) roomy_none (walk_none (After j) (IsWalked j)) (walked h j g) (small h j g)).walk;
      first = λ h j g. (walk_visit (After j) (IsWalked j) roomy_none (walk_none (After j) (IsWalked j)) (walked h j g) (small h j g)).mark;
    }
  where
    walked : (h : Head) (j : Job) → Starts s t start h j → IsWalked j start
    walked h j g = subst (IsWalked j) g.is (start-walked j g.named)

    small : (h : Head) (j : Job) → Starts s t start h j → start < 64
    small h j g = let x = walked-inside j start (walked h j g) in omega (arith, few-blocks g.given.layout)

-- the block on top of the stack, and the stack without it
abbrev pub top_of : State → ℕ
top_of st = get_or st.stack (st.depth - 1) 0

abbrev pub popped : State → State
popped st = state st.seen st.stack (st.depth - 1)

module _ {st u : State} {b : ℕ} (k : Popped st (Some b) u) where
  pub popped_roomy : Roomy st → Roomy u
  popped_roomy w = rw k.2 (roomy_pop w)

  pub popped_visits : (d : List ℕ) {v : State} → v ≡ visits d u → v ≡ visits d (popped st)
  popped_visits d e = e ∙ ap (visits d) k.2

  pub popped_says : (s blocks : List ℕ) (d : Shape) → ShapeSays s (get_or blocks b 0) d → ShapeSays s (get_or blocks (top_of st) 0) d
  popped_says s blocks d w = subst (λ (x : ℕ). ShapeSays s (get_or blocks x 0) d) k.1 w

-- the block on top is taken off, and its successors are visited
module _ {s : List ℕ} {t : Offsets} {start : ℕ} {st : State} (room : Roomy st) (deep : 0 < st.depth) {d : Shape} (says : ShapeSays s (get_or t.blocks (top_of st) 0) d) (w : Searching s t start st) where
  module _ (h : Head) (j : Job) (g : Starts s t start h j) where
    top_walked : IsWalked j (top_of st)
    top_walked = let x = w.walk h j g in x.sound (top_of st) (x.pushed (st.depth - 1) (omega arith))

    row_is : d.successors.now ≡ block_successors j (top_of st)
    row_is = (says.shaped (block_at j.blocks (top_of st)) (block-at g.given.layout (top_of st) no_block (walked-inside j (top_of st) top_walked))).row

    row_walked : (c : ℕ) → T (contains (d.successors.now) c) → IsWalked j c × (c < 64)
    row_walked c k =
        let e = rw row_is at k in
        let l = successor_named j g.given.named (top_of st) c (walked-inside j (top_of st) top_walked) e in
        (next-walked j (top_of st) c top_walked l e, omega (arith, few-blocks g.given.layout))

  searching_more : Searching s t start (visits (d.successors.now) (popped st))
  searching_more =
      record {
        walk = λ h j g. walk_turn (After j) (IsWalked j) (d.successors.now) (roomy_pop room) (w.walk h j g) deep (row_walked h j g) (λ y k. rw (row_is h j g) k);
        first = λ h j g. (visits-kept (d.successors.now) (roomy_pop room)).marks start (w.first h j g);
      }

-- ---- The marks

marked_true : (seen : List ℕ) (b : ℕ) → Marked seen b → T (is_marked seen b)
marked_true seen b m = rw (ne_eqb (get_or seen b 0) 0 m) tt

true_marked : (seen : List ℕ) (b : ℕ) → T (is_marked seen b) → Marked seen b
true_marked seen b h e = rw (eq-eqb (get_or seen b 0) 0 e) at h

searching_all : {s : List ℕ} {t : Offsets} {start : ℕ} {st : State} → Searching s t start st → st.depth ≡ 0 → (h : Head) (j : Job) → Starts s t start h j → (b : ℕ) → is_marked st.seen b ≡ holds (walked_table j) 0 b
searching_all {s} {t} {start} {st} w z h j g b =
    same_bool (is_marked st.seen b) (holds (walked_table j) 0 b)
    (λ m. (w.walk h j g).sound b (true_marked st.seen b m))
    (λ m. marked_true st.seen b (walked-marked j st.seen (subst (Marked st.seen) (sym g.is) (w.first h j g)) (walk-closed (After j) (IsWalked j) (w.walk h j g) z) 0 b m))

-- ---- The loop

-- Turns lead from one state to another.
pub record Turned (s : List ℕ) (t : Offsets) (from st : State) : Type 0 where
  pub roomy : Roomy st
  pub on : (start : ℕ) → Searching s t start from → Searching s t start st

pub turned_none : (s : List ℕ) (t : Offsets) (start : ℕ) {st : State} → st ≡ visited start nothing → Turned s t st st
turned_none s t start e = record { roomy = subst Roomy (sym e) (visited-kept start roomy_none).roomy; on = λ _ w. w }

module _ {s : List ℕ} {t : Offsets} {from st : State} (w : Turned s t from st) (deep : 0 < st.depth) where
  module _ (d : Shape) {u : State} (e : u ≡ visits (d.successors.now) (popped st)) where
    pub turned_less : work u < work st
    turned_less = subst (λ (v : State). work v < work st) (sym e) (let k = (visits-kept (d.successors.now) (roomy_pop w.roomy)).less in omega arith)

    pub turned_more : ShapeSays s (get_or t.blocks (top_of st) 0) d → Turned s t from u
    turned_more says =
        subst (Turned s t from) (sym e)
        (record { roomy = (visits-kept (d.successors.now) (roomy_pop w.roomy)).roomy; on = λ start x. searching_more w.roomy deep says (w.on start x) })

-- the stack is empty
pub turned_all : {s : List ℕ} {t : Offsets} {from st u : State} {start : ℕ} → Turned s t from st → Popped st None u → from ≡ visited start nothing → WalkedBlocks s t start u.seen
turned_all {s} {t} {from} {st} {start = start} w k e =
    rw k.1 record {
      size = w.roomy.marks;
      bits = w.roomy.bits;
      marks = λ h j g i n. record { same = searching_all (w.on start (subst (Searching s t start) (sym e) (searching_start s t start))) k.0 h j (record { given = g; is = i; named = n }) };
    }
