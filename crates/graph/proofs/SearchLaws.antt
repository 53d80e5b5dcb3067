-- Why the search finds the walked blocks: what holds of its marks and its stack at each step. Assumes nothing.
use mathlib.Core.Path.{◌≡◌, refl, sym, ap, subst, ◌∙◌}
use mathlib.Core.Logic.{◌⊎◌, inl, inr}
use mathlib.Core.List.{List, [], ◌∷◌, ◌++◌}
use Prim.Native.Nat.{ℕ, zero, suc, ◌+◌, ◌-◌, ◌*◌, ◌≤◌, ◌<◌}
use native.Mathlib.Omega.{arith}
use native.Mathlib.Nat.{not-suc-le-zero, le_of_suc-le-suc}
use native.Mathlib.Numerals.{add-one}
use native.Mathlib.Decide.{ℕ_discrete, dec_lt}
use lib.ListN.{length, get_or, set, take, replicate, length-set, length-replicate, get_or-replicate, get_or-eq_default}
use lib.Seq.{get_or-set_same, get_or-set_other, take-suc, take_all}
use lib.Dec.{T, eqb, eqb→eq}
use borrow.Author.Tests.{eq-eqb, ne_eqb, lt-ltb, le-ltb}
use Rattle.nll_spec.specs.Lists.{contains}
use Rattle.nll_spec.proofs.Tests.{any-there, contains-here, or_cases}
use Rattle.graph.specs.Search.{zeros, State, state, Marked, Roomy, pushed, pushed_within, visited, visits}

-- ---- Marks

pub zeros-mark : (l : List ℕ) (i : ℕ) → i < length l → get_or l i 0 ≡ 0 → zeros l ≡ zeros (set l i 1) + 1
unfolding zeros
zeros-mark [] i h e = absurd (not-suc-le-zero h)
zeros-mark (zero ∷ xs) zero h e = sym (add-one (zeros xs))
zeros-mark (suc x ∷ xs) zero h e = omega arith
zeros-mark (zero ∷ xs) (suc i) h e = let r : zeros xs ≡ zeros (set xs i 1) + 1 = zeros-mark xs i (le_of_suc-le-suc h) e in omega arith
zeros-mark (suc x ∷ xs) (suc i) h e = zeros-mark xs i (le_of_suc-le-suc h) e

pub zeros-replicate : (n : ℕ) → zeros (replicate n 0) ≡ n
unfolding zeros
zeros-replicate zero = refl
zeros-replicate (suc n) = ap suc (zeros-replicate n)

-- where nothing was put, each entry is the default
pub no_mark : {A : Type 0} {v : A} (n x : ℕ) → get_or (replicate n v) x v ≡ v
no_mark {v = v} n x = elim (dec_lt x n) [ yes l ↦ get_or-replicate n x v v l | no k ↦ get_or-eq_default (replicate n v) v (rw length-replicate (omega (arith, k))) ]

pub mark-kept : (l : List ℕ) (i x : ℕ) → i < length l → Marked l x → Marked (set l i 1) x
mark-kept l i x hl m e = go (ℕ_discrete x i)
  where
    go : Dec (x ≡ i) → ⊥
    go (yes q) = let z : 1 ≡ get_or (set l i 1) x 0 = rw q (sym (get_or-set_same l i 1 0 hl)) in omega arith
    go (no n) = m (sym (get_or-set_other l i x 1 0 n) ∙ e)

pub mark-new : (l : List ℕ) (i : ℕ) → i < length l → Marked (set l i 1) i
mark-new l i hl e = let z : get_or (set l i 1) i 0 ≡ 1 = get_or-set_same l i 1 0 hl in omega arith

pub mark-old : (l : List ℕ) (i v x : ℕ) → (x ≡ i → ⊥) → Marked (set l i v) x → Marked l x
mark-old l i v x n m e = m (get_or-set_other l i x v 0 n ∙ e)

pub mark_bits : (l : List ℕ) (i x : ℕ) → i < length l → get_or l x 0 ≤ 1 → get_or (set l i 1) x 0 ≤ 1
mark_bits l i x hl m = elim (ℕ_discrete x i) [ yes q ↦ rw (q, get_or-set_same l i 1 0 hl) (omega arith) | no n ↦ rw (get_or-set_other l i x 1 0 n) m ]

-- what is left to do
abbrev pub work : State → ℕ
work st = 2 * zeros st.seen + st.depth

-- ---- One visit

pub within_pushed : (n s : ℕ) (st : State) → s < n → st.depth < n → pushed_within n s st ≡ pushed s st
within_pushed n s st h k = rw (lt-ltb s n h, lt-ltb st.depth n k)

module _ (b : ℕ) (st : State) where
  pub visited_out : 64 ≤ b → st ≡ visited b st
  visited_out h = rw (le-ltb b 64 h)

  pub visited-seen : b < 64 → Marked st.seen b → st ≡ visited b st
  visited-seen h m = rw (lt-ltb b 64 h, ne_eqb (get_or st.seen b 0) 0 m)

  pub visited-new : b < 64 → get_or st.seen b 0 ≡ 0 → pushed b st ≡ visited b st
  visited-new h e = rw (lt-ltb b 64 h, eq-eqb (get_or st.seen b 0) 0 e)

module _ {b : ℕ} {st : State} (w : Roomy st) (l : b < 64) (e : get_or st.seen b 0 ≡ 0) where
  push_zeros : zeros st.seen ≡ zeros (set st.seen b 1) + 1
  push_zeros = zeros-mark st.seen b (omega (arith, w.marks)) e

  pub push_room : st.depth < 64
  push_room = let z = push_zeros in omega (arith, w.room)

  push_roomy : Roomy (pushed b st)
  push_roomy =
      let z = push_zeros in
      record {
        marks = length-set st.seen b 1 ∙ w.marks;
        places = length-set st.stack st.depth b ∙ w.places;
        room = omega (arith, w.room);
        small = λ i h. at i h (ℕ_discrete i st.depth);
        bits = λ x. mark_bits st.seen b x (omega (arith, w.marks)) (w.bits x);
      }
    where
      at : (i : ℕ) → i < st.depth + 1 → Dec (i ≡ st.depth) → get_or (set st.stack st.depth b) i 0 < 64
      at i h (yes q) = rw q (rw (get_or-set_same st.stack st.depth b 0 (let r = push_room in omega (arith, w.places))) l)
      at i h (no n) = rw (get_or-set_other st.stack st.depth i b 0 n) (w.small i (omega arith))

-- which way a visit goes
data Visit (b : ℕ) (st : State) : Type 0 where
  out : 64 ≤ b → Visit b st
  seen : b < 64 → Marked st.seen b → Visit b st
  new : b < 64 → get_or st.seen b 0 ≡ 0 → Visit b st

which : (b : ℕ) (st : State) → Visit b st
which b st = go (dec_lt b 64) (ℕ_discrete (get_or st.seen b 0) 0)
  where
    go : Dec (b < 64) → Dec (get_or st.seen b 0 ≡ 0) → Visit b st
    go (no h) d = out (omega arith)
    go (yes h) (yes e) = new h e
    go (yes h) (no e) = seen h e

-- a visit keeps the room, and what is left to do does not grow
pub record Kept (st u : State) : Type 0 where
  pub roomy : Roomy u
  pub less : work u ≤ work st
  pub marks : (x : ℕ) → Marked st.seen x → Marked u.seen x

kept_self : {st : State} → Roomy st → Kept st st
kept_self w = record { roomy = w; less = omega arith; marks = λ x m. m }

kept_then : {st u v : State} → Kept st u → Kept u v → Kept st v
kept_then a b = record { roomy = b.roomy; less = omega (arith, a.less, b.less); marks = λ x m. b.marks x (a.marks x m) }

pub visited-kept : (b : ℕ) {st : State} → Roomy st → Kept st (visited b st)
visited-kept b {st} w = go (which b st)
  where
    go : Visit b st → Kept st (visited b st)
    go (out h) = subst (Kept st) (visited_out b st h) (kept_self w)
    go (seen h m) = subst (Kept st) (visited-seen b st h m) (kept_self w)
    go (new h e) =
        let z = push_zeros w h e in
        subst (Kept st) (visited-new b st h e)
        (record { roomy = push_roomy w h e; less = omega arith; marks = λ x m. mark-kept st.seen b x (omega (arith, w.marks)) m })

-- ---- Some visits

pub visits-append : (bs cs : List ℕ) (st : State) → visits (bs ++ cs) st ≡ visits cs (visits bs st)
unfolding visits
visits-append [] cs st = refl
visits-append (b ∷ bs) cs st = visits-append bs cs (visited b st)

pub visits-kept : (bs : List ℕ) {st : State} → Roomy st → Kept st (visits bs st)
unfolding visits
visits-kept [] w = kept_self w
visits-kept (b ∷ bs) w = let v = visited-kept b w in kept_then v (visits-kept bs v.roomy)

-- The first i of a row of bytes are visited.
pub record Visiting (row : List ℕ) (i : ℕ) (st u : State) : Type 0 where
  pub is : u ≡ visits (take i row) st
  pub roomy : Roomy u

pub visiting_none : (row : List ℕ) {st : State} → Roomy st → Visiting row 0 st st
unfolding visits
visiting_none row w = record { is = refl; roomy = w }

pub visiting_more : {row : List ℕ} {i : ℕ} {st u v : State} → Visiting row i st u → i < length row → v ≡ visited (get_or row i 0) u → Visiting row (i + 1) st v
unfolding visits
visiting_more {row} {i} {st} {u} {v} w l e =
    record {
      is = rw (add-one i, take-suc row i 0 l, visits-append, ← w.is) e;
      roomy = subst Roomy (sym e) (visited-kept (get_or row i 0) w.roomy).roomy;
    }

pub visiting_all : {row : List ℕ} {i : ℕ} {st u : State} → Visiting row i st u → length row ≤ i → u ≡ visits row st
visiting_all {row} {i} w l = rw (take_all i row l) at w.is

-- ---- The invariant

abbrev OnStack : State → ℕ → Type 0
OnStack st x = (i : ℕ) × (i < st.depth) × (get_or st.stack i 0 ≡ x)

-- For steps E and a property A that holds of all that is reached: the marked are of A; what is on the stack is marked; each marked block is of X,
-- is on the stack, or all that follow it are marked.
module _ (E : ℕ → ℕ → Type 0) (A : ℕ → Type 0) where
  abbrev Closed : State → ℕ → Type 0
  Closed st x = (y : ℕ) → E x y → Marked st.seen y

  pub record Walk (X : ℕ → Type 0) (st : State) : Type 0 where
    pub sound : (x : ℕ) → Marked st.seen x → A x
    pub pushed : (i : ℕ) → i < st.depth → Marked st.seen (get_or st.stack i 0)
    pub pending : (x : ℕ) → Marked st.seen x → X x ⊎ (OnStack st x ⊎ Closed st x)

  pub walk_none : Walk (λ x. ⊥) (state (replicate 64 0) (replicate 64 0) 0)
  walk_none = record { sound = λ x m. absurd (m (no_mark 64 x)); pushed = λ i l. absurd (not-suc-le-zero l); pending = λ x m. absurd (m (no_mark 64 x)) }

  walk_push : {X : ℕ → Type 0} {b : ℕ} {st : State} → Roomy st → Walk X st → A b → b < 64 → get_or st.seen b 0 ≡ 0 → Walk X (pushed b st)
  walk_push {X} {b} {st} room w a l e =
      record {
        sound = λ x m. elim (ℕ_discrete x b) [ yes q ↦ rw q a | no n ↦ w.sound x (mark-old st.seen b 1 x n m) ];
        pushed = λ i h. pushed' i h (ℕ_discrete i st.depth);
        pending = λ x m. elim (ℕ_discrete x b) [ yes q ↦ inr (inl (st.depth, omega arith, top ∙ sym q)) | no n ↦ old x (w.pending x (mark-old st.seen b 1 x n m)) ];
      }
    where
      hl : b < length st.seen
      hl = omega (arith, room.marks)

      top : get_or (set st.stack st.depth b) st.depth 0 ≡ b
      top = get_or-set_same st.stack st.depth b 0 (let r = push_room room l e in omega (arith, room.places))

      under : (i : ℕ) → i < st.depth → get_or (set st.stack st.depth b) i 0 ≡ get_or st.stack i 0
      under i h = get_or-set_other st.stack st.depth i b 0 (λ q. omega arith)

      pushed' : (i : ℕ) → i < st.depth + 1 → Dec (i ≡ st.depth) → Marked (set st.seen b 1) (get_or (set st.stack st.depth b) i 0)
      pushed' i h (yes q) = rw (q, top) (mark-new st.seen b hl)
      pushed' i h (no n) = let k : i < st.depth = omega arith in rw (under i k) (mark-kept st.seen b (get_or st.stack i 0) hl (w.pushed i k))

      old : (x : ℕ) → X x ⊎ (OnStack st x ⊎ Closed st x) → X x ⊎ (OnStack (pushed b st) x ⊎ Closed (pushed b st) x)
      old x (inl a) = inl a
      old x (inr (inl a)) = inr (inl (a.0, omega (arith, a.1), under a.0 a.1 ∙ a.2))
      old x (inr (inr a)) = inr (inr (λ y k. mark-kept st.seen b y hl (a y k)))

  -- a visit of a block of A marks it
  pub record Visited (X : ℕ → Type 0) (b : ℕ) (u : State) : Type 0 where
    pub walk : Walk X u
    pub mark : Marked u.seen b

  pub walk_visit : {X : ℕ → Type 0} {b : ℕ} {st : State} → Roomy st → Walk X st → A b → b < 64 → Visited X b (visited b st)
  walk_visit {X} {b} {st} room w a l = go (which b st)
    where
      go : Visit b st → Visited X b (visited b st)
      go (out h) = absurd (omega arith)
      go (seen h m) = subst (Visited X b) (visited-seen b st h m) (record { walk = w; mark = m })
      go (new h e) = subst (Visited X b) (visited-new b st h e) (record { walk = walk_push room w a h e; mark = mark-new st.seen b (omega (arith, room.marks)) })

  pub record VisitedAll (X : ℕ → Type 0) (bs : List ℕ) (u : State) : Type 0 where
    pub walk : Walk X u
    pub marks : (c : ℕ) → T (contains bs c) → Marked u.seen c

  walk-visits : {X : ℕ → Type 0} (bs : List ℕ) {st : State} → Roomy st → Walk X st → ((c : ℕ) → T (contains bs c) → A c × (c < 64)) → VisitedAll X bs (visits bs st)
  unfolding visits
  walk-visits [] room w h = record { walk = w; marks = λ c k. absurd k }
  walk-visits {X} (b ∷ bs) {st} room w h =
      let here = h b (contains-here b bs) in
      let v = walk_visit room w here.0 here.1 in
      let r = (visited-kept b room).roomy in
      let rest = walk-visits bs r v.walk (λ c k. h c (any-there (eqb c) b bs k)) in
      let kept = visits-kept bs r in
      record { walk = rest.walk; marks = λ c k. go c (or_cases (eqb c b) (contains bs c) k) (kept.marks b v.mark) (rest.marks c) }
    where
      go : (c : ℕ) → T (eqb c b) ⊎ T (contains bs c) → Marked (visits bs (visited b st)).seen b → (T (contains bs c) → Marked (visits bs (visited b st)).seen c) → Marked (visits bs (visited b st)).seen c
      go c (inl e) m f = subst (Marked (visits bs (visited b st)).seen) (sym (eqb→eq c b e)) m
      go c (inr k) m f = f k

  walk_pop : {st : State} → Walk (λ x. ⊥) st → 0 < st.depth → Walk (λ x. x ≡ get_or st.stack (st.depth - 1) 0) (state st.seen st.stack (st.depth - 1))
  walk_pop {st} w hd = record { sound = w.sound; pushed = λ i l. w.pushed i (omega arith); pending = λ x m. to x (w.pending x m) }
    where
      u : State
      u = state st.seen st.stack (st.depth - 1)

      to : (x : ℕ) → ⊥ ⊎ (OnStack st x ⊎ Closed st x) → (x ≡ get_or st.stack (st.depth - 1) 0) ⊎ (OnStack u x ⊎ Closed u x)
      to x (inl a) = absurd a
      to x (inr (inr a)) = inr (inr a)
      to x (inr (inl a)) = elim (ℕ_discrete a.0 (st.depth - 1)) [
        | yes e ↦ inl (sym a.2 ∙ ap (λ (i : ℕ). get_or st.stack i 0) e)
        | no n ↦ inr (inl (a.0, omega (arith, a.1), a.2))
      ]

  -- a turn of the search: a block is taken off the stack, and those after it are visited
  pub walk_turn : {st : State} (bs : List ℕ) → Roomy (state st.seen st.stack (st.depth - 1)) → Walk (λ x. ⊥) st → 0 < st.depth
      → ((c : ℕ) → T (contains bs c) → A c × (c < 64)) → ((y : ℕ) → E (get_or st.stack (st.depth - 1) 0) y → T (contains bs y))
      → Walk (λ x. ⊥) (visits bs (state st.seen st.stack (st.depth - 1)))
  walk_turn {st} bs room w hd all row =
      let v = walk-visits bs room (walk_pop w hd) all in
      record { sound = v.walk.sound; pushed = v.walk.pushed; pending = λ x m. close x v.marks (v.walk.pending x m) }
    where
      q : ℕ
      q = get_or st.stack (st.depth - 1) 0

      u : State
      u = visits bs (state st.seen st.stack (st.depth - 1))

      close : (x : ℕ) → ((c : ℕ) → T (contains bs c) → Marked u.seen c) → (x ≡ q) ⊎ (OnStack u x ⊎ Closed u x) → ⊥ ⊎ (OnStack u x ⊎ Closed u x)
      close x f (inr a) = inr a
      close x f (inl a) = inr (inr (subst (Closed u) (sym a) (λ y e. f y (row y e))))

  -- nothing is left on the stack: all that follow a marked block are marked
  pub walk-closed : {st : State} → Walk (λ x. ⊥) st → st.depth ≡ 0 → (x y : ℕ) → Marked st.seen x → E x y → Marked st.seen y
  walk-closed {st} w z x y m e = go (w.pending x m)
    where
      go : ⊥ ⊎ (OnStack st x ⊎ Closed st x) → Marked st.seen y
      go (inl a) = absurd a
      go (inr (inl a)) = absurd (omega (arith, a.1))
      go (inr (inr a)) = a y e

pub roomy_none : Roomy (state (replicate 64 0) (replicate 64 0) 0)
roomy_none = record { marks = length-replicate {A = ℕ} 64 0; places = length-replicate {A = ℕ} 64 0; room = rw zeros-replicate (omega arith); small = λ i l. absurd (not-suc-le-zero l); bits = λ x. rw (no_mark 64 x) (omega arith) }

pub roomy_pop : {st : State} → Roomy st → Roomy (state st.seen st.stack (st.depth - 1))
roomy_pop w = record { marks = w.marks; places = w.places; room = omega (arith, w.room); small = λ i l. w.small i (omega arith); bits = w.bits }
