-- Why the search is right: what holds of its marks, its stack and the points that it has put at each step, for any set h of points below 1024.
-- Assumes nothing.
use mathlib.Core.Path.{◌≡◌, refl, sym, ap, ◌∙◌, subst}
use mathlib.Core.Logic.{◌⊎◌, inl, inr, ⊎_elim}
use mathlib.Core.Bool.{Bool, true, false, not, ◌&&◌, ◌||◌, and-eq-true_iff, or-true, cond, true≢false}
use mathlib.Core.List.{List}
use Prim.Native.Nat.{ℕ, zero, suc, ◌+◌, ◌-◌, ◌*◌, ◌≤◌, ◌<◌}
use native.Mathlib.Nat.{not-suc-le-zero}
use native.Mathlib.Decide.{ℕ_discrete, dec_lt}
use native.Mathlib.Omega.{arith}
use lib.ListN.{length, get_or, set, replicate, length-set, length-replicate}
use lib.Seq.{get_or-set_same, get_or-set_other}
use lib.Dec.{eqb, leb, ltb}
use borrow.Author.Tests.{eqb-true, eqb-false, eq-eqb, ltb-true, ltb-false, lt-ltb, le-ltb, leb-true, leb-false, le-leb, not-true, not-false}
use Rattle.std.proofs.Common.{Some}
use Rattle.nll_spec.specs.Output.{word_bits}
use Rattle.bit_set.specs.Bits.{has, with_bit}
use Rattle.bit_set.proofs.BitLaws.{has_with, has_with_other}
use Rattle.graph.specs.Tables.{row_start, row_end, Edge, up_to, successors}
use Rattle.graph.proofs.RowLaws.{successor_at}
use Rattle.graph.specs.Search.{Marked, Popped, State, state, pushed_within, zeros}
use Rattle.graph.proofs.SearchLaws.{mark-kept, mark-new, mark-old, no_mark, work, within_pushed, zeros-mark, zeros-replicate}
use Rattle.graph.specs.Search.{pushed}
use Rattle.dfs.specs.Walk.{in_code, Chained, Along, Stopped, Reach, here, step, visited, nexts, row, left, Roomy, Leaf, is_leaf, Reaches}
use Rattle.dfs.proofs.ChainLaws.{with_kept, has-none, up_to_le}

-- ---- The invariant

abbrev pub OnStack : State → ℕ → Type 0
OnStack st x = (i : ℕ) × (i < st.depth) × (get_or st.stack i 0 ≡ x)

module _ (E : ℕ → ℕ → Type 0) (h : ℕ → Bool) where
  -- only points that p reaches are marked; what is on the stack is marked; each marked point is of X or on the stack
  pub record Searching (p : ℕ) (X : ℕ → Type 0) (st : State) : Type 0 where
    pub roomy : Roomy st.seen st.depth
    pub stack_len : length st.stack ≡ 1024
    pub sound : (x : ℕ) → Marked st.seen x → Reach E h p x
    pub on_stack : (i : ℕ) → i < st.depth → Marked st.seen (get_or st.stack i 0)
    pub pending : (x : ℕ) → Marked st.seen x → X x ⊎ OnStack st x

  -- only points that p reaches are put, and each point after one of them that h holds is marked or put
  pub record Walked (p : ℕ) (ps seen : List ℕ) : Type 0 where
    pub sound : (x : ℕ) → has ps x ≡ true → Reach E h p x
    pub closed : (x : ℕ) → has ps x ≡ true → (s : ℕ) → E x s → h s ≡ true → Marked seen s ⊎ (has ps s ≡ true)

module _ (E : ℕ → ℕ → Type 0) (h : ℕ → Bool) (p : ℕ) where
  -- a point that p reaches and that has no mark is marked and pushed
  push : {X : ℕ → Type 0} (st : State) (s : ℕ) → Searching E h p X st → Reach E h p s → s < 1024 → get_or st.seen s 0 ≡ 0 → Searching E h p X (pushed s st)
  push {X} st s w r hs e =
      record {
        roomy = record { room = omega (arith, z, w.roomy.room); sized = length-set seen s 1 ∙ w.roomy.sized };
        stack_len = length-set stack d s ∙ w.stack_len;
        sound = λ x m. elim (ℕ_discrete x s) [ yes q ↦ rw q r | no n ↦ w.sound x (mark-old seen s 1 x n m) ];
        on_stack = on_stack';
        pending = pending';
      }
    where
      seen : List ℕ
      seen = st.seen

      stack : List ℕ
      stack = st.stack

      d : ℕ
      d = st.depth

      hl : s < length seen
      hl = rw w.roomy.sized hs

      z : zeros seen ≡ zeros (set seen s 1) + 1
      z = zeros-mark seen s hl e

      hd : d < length stack
      hd = omega (arith, z, w.stack_len, w.roomy.room)

      keep : (x : ℕ) → Marked seen x → Marked (set seen s 1) x
      keep x m = mark-kept seen s x hl m

      top : get_or (set stack d s) d 0 ≡ s
      top = get_or-set_same stack d s 0 hd

      under : (i : ℕ) → i < d → get_or (set stack d s) i 0 ≡ get_or stack i 0
      under i l = get_or-set_other stack d i s 0 (λ q. omega arith)

      on_stack' : (i : ℕ) → i < d + 1 → Marked (set seen s 1) (get_or (set stack d s) i 0)
      on_stack' i l = elim (ℕ_discrete i d) [ yes q ↦ rw (q, top) (mark-new seen s hl) | no n ↦ low n ]
        where
          low : (i ≡ d → ⊥) → Marked (set seen s 1) (get_or (set stack d s) i 0)
          low n = let b : i < d = omega (arith, n) in rw (under i b) (keep (get_or stack i 0) (w.on_stack i b))

      pending' : (x : ℕ) → Marked (set seen s 1) x → X x ⊎ OnStack (pushed s st) x
      pending' x m = elim (ℕ_discrete x s) [ yes q ↦ inr (d, omega arith, top ∙ sym q) | no n ↦ old (w.pending x (mark-old seen s 1 x n m)) ]
        where
          old : X x ⊎ OnStack st x → X x ⊎ OnStack (pushed s st) x
          old (inl a) = inl a
          old (inr a) = inr (a.0, omega arith, under a.0 a.1 ∙ a.2)

  -- what one visit of a point after a marked one does
  record Visited (X : ℕ → Type 0) (s : ℕ) (st st' : State) : Type 0 where
    pub search : Searching E h p X st'
    pub marks : h s ≡ true → Marked st'.seen s
    pub kept : (x : ℕ) → Marked st.seen x → Marked st'.seen x
    pub less : work st' ≤ work st

  visit : {X : ℕ → Type 0} (st : State) (s : ℕ) → Searching E h p X st → (h s ≡ true → Reach E h p s) → (h s ≡ true → s < 1024) → Visited X s st (visited h s st)
  visit {X} st s w r hs = go (eqb (get_or st.seen s 0) 0) (h s) refl refl
    where
      go : (a b : Bool) → eqb (get_or st.seen s 0) 0 ≡ a → h s ≡ b → Visited X s st (cond (a && b) (pushed s st) st)
      go true true ea eb =
          let e : get_or st.seen s 0 ≡ 0 = eqb-true (get_or st.seen s 0) 0 ea in
          let hl : s < length st.seen = rw w.roomy.sized (hs eb) in
          let z = zeros-mark st.seen s hl e in
          record {
            search = push st s w (r eb) (hs eb) e;
            marks = λ q. mark-new st.seen s hl;
            kept = λ x m. mark-kept st.seen s x hl m;
            less = omega arith;
          }
      go true false ea eb = record { search = w; marks = λ q. absurd (true≢false (sym q ∙ eb)); kept = λ x m. m; less = omega arith }
      go false b ea eb =
          record { search = w; marks = λ q. eqb-false (get_or st.seen s 0) 0 ea; kept = λ x m. m; less = omega arith }

  -- the first m points of succ from lo on are visited
  record Nexts (X : ℕ → Type 0) (succ : List ℕ) (lo m : ℕ) (st st' : State) : Type 0 where
    pub search : Searching E h p X st'
    pub marks : (i : ℕ) → i < m → h (get_or succ (lo + i) 0) ≡ true → Marked st'.seen (get_or succ (lo + i) 0)
    pub kept : (x : ℕ) → Marked st.seen x → Marked st'.seen x
    pub less : work st' ≤ work st

  visits : {X : ℕ → Type 0} (succ : List ℕ) (lo m : ℕ) (st : State) → Searching E h p X st → ((s : ℕ) → h s ≡ true → s < 1024)
      → ((i : ℕ) → i < m → h (get_or succ (lo + i) 0) ≡ true → Reach E h p (get_or succ (lo + i) 0))
      → Nexts X succ lo m st (nexts h succ lo m st)
  unfolding nexts
  visits succ lo zero st w small r = record { search = w; marks = λ i l. absurd (not-suc-le-zero l); kept = λ x k. k; less = omega arith }
  visits {X} succ lo (suc m) st w small r =
      let was : Nexts X succ lo m st (nexts h succ lo m st) = visits succ lo m st w small (λ i l. r i (omega arith)) in
      let st₁ : State = nexts h succ lo m st in
      let v = visit st₁ (get_or succ (lo + m) 0) was.search (r m (omega arith)) (small (get_or succ (lo + m) 0)) in
      record {
        search = v.search;
        marks = λ i l k. elim (ℕ_discrete i m) [
          | yes e ↦ rw e (v.marks (rw e at k))
          | no n ↦ v.kept _ (was.marks i (omega (arith, n)) k)
        ];
        kept = λ x k. v.kept x (was.kept x k);
        less = omega (arith, v.less, was.less);
      }

  -- the first point is marked and pushed
  pub begin : (X : ℕ → Type 0) → h p ≡ true → p < 1024 → Searching E h p X (pushed p (state (replicate 1024 0) (replicate 1024 0) 0))
  begin X e l = push (state (replicate 1024 0) (replicate 1024 0) 0) p none (here e) l (no_mark 1024 p)
    where
      none : Searching E h p X (state (replicate 1024 0) (replicate 1024 0) 0)
      none =
          record {
            roomy = record { room = rw zeros-replicate (omega arith); sized = length-replicate {A = ℕ} 1024 0 };
            stack_len = length-replicate {A = ℕ} 1024 0;
            sound = λ x m. absurd (m (no_mark 1024 x));
            on_stack = λ i l. absurd (not-suc-le-zero l);
            pending = λ x m. absurd (m (no_mark 1024 x));
          }

  pub walked_none : (seen : List ℕ) → Walked E h p (replicate 32 0) seen
  walked_none seen = record { sound = λ x m. absurd (true≢false (sym m ∙ has-none 32 x)); closed = λ x m. absurd (true≢false (sym m ∙ has-none 32 x)) }

  -- a point of Y is taken off the stack, where Y has what X has
  pop : {X Y : ℕ → Type 0} (st : State) → Searching E h p X st → 0 < st.depth → ((x : ℕ) → X x → Y x) → Y (get_or st.stack (st.depth - 1) 0)
      → Searching E h p Y (state st.seen st.stack (st.depth - 1))
  pop {X} {Y} st w hd more y =
      record {
        roomy = record { room = omega (arith, w.roomy.room); sized = w.roomy.sized };
        stack_len = w.stack_len;
        sound = w.sound;
        on_stack = λ i l. w.on_stack i (omega arith);
        pending = λ x m. to x (w.pending x m);
      }
    where
      st' : State
      st' = state st.seen st.stack (st.depth - 1)

      to : (x : ℕ) → X x ⊎ OnStack st x → Y x ⊎ OnStack st' x
      to x (inl a) = inl (more x a)
      to x (inr a) = elim (ℕ_discrete a.0 (st.depth - 1)) [
        | yes e ↦ inl (subst Y (ap (λ (i : ℕ). get_or st.stack i 0) (sym e) ∙ a.2) y)
        | no n ↦ inr (a.0, omega arith, a.2)
      ]

-- ---- Visits of the points that follow one

pub visited-new : (h : ℕ → Bool) (s : ℕ) (st : State) → get_or st.seen s 0 ≡ 0 → h s ≡ true → pushed s st ≡ visited h s st
visited-new h s st e q = rw (eq-eqb (get_or st.seen s 0) 0 e, q)

-- the stack has a place for a point without a mark
pub visited_within : (h : ℕ → Bool) (s : ℕ) (st : State) → Roomy st.seen st.depth → s < 1024 → get_or st.seen s 0 ≡ 0 → h s ≡ true → pushed_within 1024 s st ≡ visited h s st
visited_within h s st w l e q =
    let z = zeros-mark st.seen s (rw w.sized l) e in
    within_pushed 1024 s st l (omega (arith, w.room)) ∙ visited-new h s st e q

-- no visit of a point below 1024 takes the room on the stack
pub visited_roomy : (h : ℕ → Bool) (s : ℕ) (st : State) → (h s ≡ true → s < 1024) → Roomy st.seen st.depth → Roomy (visited h s st).seen (visited h s st).depth
visited_roomy h s st hs w = go (eqb (get_or st.seen s 0) 0) (h s) refl refl
  where
    go : (a b : Bool) → eqb (get_or st.seen s 0) 0 ≡ a → h s ≡ b → Roomy (cond (a && b) (pushed s st) st).seen (cond (a && b) (pushed s st) st).depth
    go true true e eb =
        let z = zeros-mark st.seen s (rw w.sized (hs eb)) (eqb-true (get_or st.seen s 0) 0 e) in
        record { room = omega (arith, w.room); sized = length-set st.seen s 1 ∙ w.sized }
    go true false e eb = w
    go false b e eb = w

-- The first i of the points that follow q are visited.
pub record Nexted (h : ℕ → Bool) (first succ : List ℕ) (q : ℕ) (ss : List ℕ) (i : ℕ) (st u : State) : Type 0 where
  pub list : ss ≡ successors first succ q
  pub count : length ss ≡ up_to (row_end first q) - row_start first q
  pub roomy : Roomy u.seen u.depth
  pub is : u ≡ nexts h succ (row_start first q) i st

module _ {h : ℕ → Bool} {first succ : List ℕ} {q : ℕ} {ss : List ℕ} where
  pub nexted_none : {st : State} → ss ≡ successors first succ q → length ss ≡ up_to (row_end first q) - row_start first q → Roomy st.seen st.depth → Nexted h first succ q ss 0 st st
  unfolding nexts
  nexted_none l n w = record { list = l; count = n; roomy = w; is = refl }

  pub nexted_more : {i : ℕ} {st u v : State} → Nexted h first succ q ss i st u → ((s : ℕ) → h s ≡ true → s < 1024) → i < length ss → v ≡ visited h (get_or ss i 0) u → Nexted h first succ q ss (i + 1) st v
  unfolding nexts
  nexted_more {i} {st} {u} {v} w small l e =
      let at : get_or ss i 0 ≡ get_or succ (row_start first q + i) 0 = rw w.list (successor_at first succ q i (rw w.list at l)) in
      let k : i + 1 ≡ suc i = omega arith in
      record {
        list = w.list;
        count = w.count;
        roomy = subst (λ (t : State). Roomy t.seen t.depth) (sym e) (visited_roomy h (get_or ss i 0) u (small (get_or ss i 0)) w.roomy);
        is = e ∙ rw (k, w.is, at);
      }

-- ---- Points of blocks

pub code_out : (ws : List ℕ) (from code s : ℕ) → code ≤ s → in_code ws from code s ≡ false
code_out ws from code s l = rw (le-ltb s code l)

pub code_held : (ws : List ℕ) (from code s : ℕ) → s < code → has ws (word_bits * from + s) ≡ true → in_code ws from code s ≡ true
code_held ws from code s l e = rw (lt-ltb s code l) e

pub code_below : (ws : List ℕ) (from code s : ℕ) → in_code ws from code s ≡ true → s < code
code_below ws from code s e = go (ltb s code) refl
  where
    go : (b : Bool) → ltb s code ≡ b → s < code
    go true q = ltb-true s code q
    go false q = absurd (true≢false (sym e ∙ rw q))

pub code-small : (ws : List ℕ) (from code : ℕ) → code ≤ 1024 → (s : ℕ) → in_code ws from code s ≡ true → s < 1024
code-small ws from code l s e = omega (arith, code_below ws from code s e)

-- a point that is reached is one that h holds
pub reach_held : {E : ℕ → ℕ → Type 0} {h : ℕ → Bool} {p x : ℕ} → Reach E h p x → h x ≡ true
reach_held (here e) = e
reach_held (step r e k) = k

-- ---- The whole search

-- the steps of the search: along the chain, and from a point that is not of it as the tables say
abbrev pub Steps : List ℕ → List ℕ → List ℕ → ℕ → ℕ → Type 0
Steps chain first succ q s = ((has chain q ≡ true) × (s ≡ q + 1)) ⊎ ((has chain q ≡ false) × Edge first succ q s)

-- b says whether a point that is put has no point after it
pub record Exits (chain first ps : List ℕ) (b : Bool) : Type 0 where
  pub leaf : b ≡ true → (x : ℕ) × (has ps x ≡ true) × (is_leaf chain first x ≡ true)
  pub exits : (x : ℕ) → has ps x ≡ true → is_leaf chain first x ≡ true → b ≡ true

pub exits-none : (chain first : List ℕ) → Exits chain first (replicate 32 0) false
exits-none chain first = record { leaf = λ e. absurd (true≢false (sym e)); exits = λ x m. absurd (true≢false (sym m ∙ has-none 32 x)) }

or_either : (a b : Bool) → (a || b) ≡ true → (a ≡ true) ⊎ (b ≡ true)
or_either true b e = inl refl
or_either false b e = inr e

-- a point of the chain is no leaf
leaf_unlinked : (chain first : List ℕ) (x : ℕ) → has chain x ≡ true → is_leaf chain first x ≡ true → ⊥
leaf_unlinked chain first x c e = true≢false (sym ((and-eq-true_iff (not (has chain x)) _).0 e).0 ∙ ap not c)

module _ (chain first succ : List ℕ) (h : ℕ → Bool) (p : ℕ) where
  -- what holds at each turn of the search, of the points that are put and what is noted
  pub record Going (ps : List ℕ) (b : Bool) (st : State) : Type 0 where
    pub sized : length ps ≡ 32
    pub search : Searching (Steps chain first succ) h p (λ x. has ps x ≡ true) st
    pub walked : Walked (Steps chain first succ) h p ps st.seen
    pub exits : Exits chain first ps b
    pub start : Marked st.seen p

module _ (chain first succ : List ℕ) (h : ℕ → Bool) (p : ℕ) (small : (s : ℕ) → h s ≡ true → s < 1024) where
  pub going_start : h p ≡ true → Going chain first succ h p (replicate 32 0) false (pushed p (state (replicate 1024 0) (replicate 1024 0) 0))
  going_start e =
      record {
        sized = length-replicate {A = ℕ} 32 0;
        search = begin (Steps chain first succ) h p (λ x. has (replicate 32 0) x ≡ true) e (small p e);
        walked = walked_none (Steps chain first succ) h p (set (replicate 1024 0) p 1);
        exits = exits-none chain first;
        start = mark-new (replicate 1024 0) p (rw length-replicate (small p e));
      }

  -- a point is taken off the stack, the points after it along the chain are put, and those after the last of them are visited
  pub record Turn (ps : List ℕ) (b : Bool) (st st' : State) : Type 0 where
    pub going : Going chain first succ h p ps b st'
    pub less : work st' < work st

  -- the point that is taken off the stack
  pub top_small : (ps : List ℕ) (b : Bool) (st : State) (q : ℕ) → Going chain first succ h p ps b st → 0 < st.depth → q ≡ get_or st.stack (st.depth - 1) 0 → q < 1024
  top_small ps b st q g hd e = rw e (small _ (reach_held (g.search.sound _ (g.search.on_stack (st.depth - 1) (omega arith)))))

  module _ (ps ps' : List ℕ) (b : Bool) (st : State) (e : ℕ) (g : Going chain first succ h p ps b st) (hd : 0 < st.depth)
      (al : Along chain h (with_bit ps (get_or st.stack (st.depth - 1) 0)) ps' (get_or st.stack (st.depth - 1) 0) e) (stop : Stopped chain h ps' e) where
    abbrev E : ℕ → ℕ → Type 0
    E = Steps chain first succ

    abbrev q : ℕ
    q = get_or st.stack (st.depth - 1) 0

    abbrev st₁ : State
    st₁ = state st.seen st.stack (st.depth - 1)

    rq : Reach E h p q
    rq = g.search.sound q (g.search.on_stack (st.depth - 1) (omega arith))

    lq : q < 1024
    lq = small q (reach_held rq)

    old : (x : ℕ) → has ps x ≡ true → has ps' x ≡ true
    old x m = al.kept x (with_kept ps q x m)

    has_q : has ps' q ≡ true
    has_q = al.kept q (has_with ps q (omega (arith, lq, g.sized)))

    has_run_lem : (x : ℕ) → q ≤ x → x ≤ e → has ps' x ≡ true
    has_run_lem x l r = elim (ℕ_discrete x q) [ yes i ↦ rw i has_q | no i ↦ al.put x (omega (arith, l, i)) r ]

    -- what is put was there or is of the run
    split : (x : ℕ) → has ps' x ≡ true → (has ps x ≡ true) ⊎ ((q ≤ x) × (x ≤ e))
    split x m = ⊎_elim at (λ k. inr (omega (arith, k.0), k.1)) (al.only x m)
      where
        at : has (with_bit ps q) x ≡ true → (has ps x ≡ true) ⊎ ((q ≤ x) × (x ≤ e))
        at k = elim (ℕ_discrete x q) [ yes i ↦ inr (omega (arith, i), omega (arith, i, al.up)) | no i ↦ inl (sym (has_with_other ps q x i) ∙ k) ]

    reach_run : (n : ℕ) → q + n ≤ e → Reach E h p (q + n)
    reach_run zero l = let i : q ≡ q + 0 = omega arith in subst (Reach E h p) i rq
    reach_run (suc n) l =
        let i : q + suc n ≡ q + n + 1 = omega arith in
        step (reach_run n (omega (arith, l))) (inl (al.linked (q + n) (omega arith) (omega (arith, l)), i)) (al.held (q + suc n) (omega arith) l)

    sound' : (x : ℕ) → has ps' x ≡ true → Reach E h p x
    sound' x m = ⊎_elim (g.walked.sound x) (λ k. let i : q + (x - q) ≡ x = omega (arith, k.0) in subst (Reach E h p) i (reach_run (x - q) (omega (arith, k.0, k.1)))) (split x m)

    popped : Searching E h p (λ x. has ps' x ≡ true) st₁
    popped = pop E h p {X = λ x. has ps x ≡ true} {Y = λ x. has ps' x ≡ true} st g.search hd old has_q

    walked' : (seen : List ℕ) → ((x : ℕ) → Marked st.seen x → Marked seen x) → ((s : ℕ) → E e s → h s ≡ true → Marked seen s ⊎ (has ps' s ≡ true)) → Walked E h p ps' seen
    walked' seen keep last = record { sound = sound'; closed = λ x m s k i. to x s k i (split x m) }
      where
        run : (x s : ℕ) → q ≤ x → x < e → E x s → Marked seen s ⊎ (has ps' s ≡ true)
        run x s l r (inl k) = inr (rw k.1 (has_run_lem (x + 1) (omega (arith, l)) (omega (arith, r))))
        run x s l r (inr k) = absurd (true≢false (sym (al.linked x l r) ∙ k.0))

        to : (x s : ℕ) → E x s → h s ≡ true → (has ps x ≡ true) ⊎ ((q ≤ x) × (x ≤ e)) → Marked seen s ⊎ (has ps' s ≡ true)
        to x s k i (inl m) = ⊎_elim (λ j. inl (keep s j)) (λ j. inr (old s j)) (g.walked.closed x m s k i)
        to x s k i (inr w) = elim (ℕ_discrete x e) [ yes z ↦ last s (subst (λ (y : ℕ). E y s) z k) i | no z ↦ run x s w.0 (omega (arith, w.1, z)) k ]

    exits' : Exits chain first ps' (b || is_leaf chain first e)
    exits' =
        record {
          leaf = λ k. ⊎_elim (λ i. let w = g.exits.leaf i in (w.0, old w.0 w.1, w.2)) (λ i. (e, has_run_lem e al.up (omega arith), i)) (or_either b (is_leaf chain first e) k);
          exits = λ x m i. to x i (split x m);
        }
      where
        to : (x : ℕ) → is_leaf chain first x ≡ true → (has ps x ≡ true) ⊎ ((q ≤ x) × (x ≤ e)) → (b || is_leaf chain first e) ≡ true
        to x i (inl m) = rw (g.exits.exits x m i)
        to x i (inr w) = elim (ℕ_discrete x e) [
          | yes z ↦ ap (λ (c : Bool). b || c) (subst (λ (y : ℕ). is_leaf chain first y ≡ true) z i) ∙ or-true b
          | no z ↦ absurd (leaf_unlinked chain first x (al.linked x w.0 (omega (arith, w.1, z))) i)
        ]

    -- what is left, where the search and the marks are as they are to be
    turned : (st' : State) → Searching E h p (λ x. has ps' x ≡ true) st' → ((x : ℕ) → Marked st.seen x → Marked st'.seen x) → work st' ≤ work st₁
        → ((s : ℕ) → E e s → h s ≡ true → Marked st'.seen s ⊎ (has ps' s ≡ true)) → Turn ps' (b || is_leaf chain first e) st st'
    turned st' search keep less last =
        record {
          going = record { sized = al.sized; search = search; walked = walked' st'.seen keep last; exits = exits'; start = keep p g.start };
          less = omega (arith, less, hd);
        }

    -- the last point is of the chain
    linked_turn : has chain e ≡ true → Turn ps' (b || is_leaf chain first e) st st₁
    linked_turn c = turned st₁ popped (λ x m. m) (omega arith) last
      where
        last : (s : ℕ) → E e s → h s ≡ true → Marked st.seen s ⊎ (has ps' s ≡ true)
        last s (inl k) i = inr (rw k.1 (stop.closed c (rw k.1 at i)))
        last s (inr k) i = absurd (true≢false (sym c ∙ k.0))

    -- the last point is not of the chain
    row_turn : has chain e ≡ false → Turn ps' (b || is_leaf chain first e) st (row h first succ e st₁)
    row_turn c = turned st₂ v.search v.kept v.less last
      where
        lo : ℕ
        lo = row_start first e

        hi : ℕ
        hi = up_to (row_end first e)

        st₂ : State
        st₂ = row h first succ e st₁

        re : Reach E h p e
        re = sound' e (has_run_lem e al.up (omega arith))

        v : Nexts E h p (λ x. has ps' x ≡ true) succ lo (hi - lo) st₁ st₂
        v = visits E h p succ lo (hi - lo) st₁ popped small (λ i l k. step re (inr (c, (lo + i, omega arith, omega arith, refl))) k)

        last : (s : ℕ) → E e s → h s ≡ true → Marked st₂.seen s ⊎ (has ps' s ≡ true)
        last s (inl k) i = absurd (true≢false (sym k.0 ∙ c))
        last s (inr k) i =
            let w = k.1 in
            let j : lo + (w.0 - lo) ≡ w.0 = omega (arith, w.1) in
            let f : get_or succ (lo + (w.0 - lo)) 0 ≡ s = rw j w.3 in
            inl (subst (Marked st₂.seen) f (v.marks (w.0 - lo) (omega (arith, w.1, w.2)) (rw f i)))

    turn : Turn ps' (b || is_leaf chain first e) st (left chain h first succ e st₁)
    turn = go (has chain e) refl
      where
        go : (c : Bool) → has chain e ≡ c → Turn ps' (b || is_leaf chain first e) st (cond c st₁ (row h first succ e st₁))
        go true c = linked_turn c
        go false c = row_turn c

  -- as the code goes: x says whether e has no point after it
  pub turn_code : (ps ps' : List ℕ) (b : Bool) (st st' : State) (q e : ℕ) (x : Bool) → Going chain first succ h p ps b st → 0 < st.depth → q ≡ get_or st.stack (st.depth - 1) 0
      → Along chain h (with_bit ps q) ps' q e × Stopped chain h ps' e → x ≡ is_leaf chain first e → st' ≡ left chain h first succ e (state st.seen st.stack (st.depth - 1))
      → Turn ps' (b || x) st st'
  turn_code ps ps' b st st' q e x g hd eq w ex es =
      rw (ex, es) (turn ps ps' b st e g hd (subst (λ (y : ℕ). Along chain h (with_bit ps y) ps' y e) eq w.0) w.1)

  -- the same of a stack whose last point q was taken off
  pub turn_popped : {ps ps' : List ℕ} {b x : Bool} {st st₁ st' : State} {q e : ℕ} → Going chain first succ h p ps b st → Popped st (Some q) st₁
      → Along chain h (with_bit ps q) ps' q e × Stopped chain h ps' e → x ≡ is_leaf chain first e → st' ≡ left chain h first succ e st₁ → Turn ps' (b || x) st st'
  turn_popped {ps} {ps'} {b} {x} {st} {st₁} {st'} {q} {e} g k w ex es = turn_code ps ps' b st st' q e x g k.0 k.1 w ex (es ∙ ap (left chain h first succ e) k.2)

  pub popped_small : {ps : List ℕ} {b : Bool} {st st₁ : State} {q : ℕ} → Going chain first succ h p ps b st → Popped st (Some q) st₁ → q < 1024
  popped_small {ps} {b} {st} {q = q} g k = top_small ps b st q g k.0 k.1

  pub popped_roomy : {ps : List ℕ} {b : Bool} {st st₁ : State} {q : ℕ} → Going chain first succ h p ps b st → Popped st (Some q) st₁ → Roomy st₁.seen st₁.depth
  popped_roomy g k = let w = g.search.roomy in rw (k.2) record { room = omega (arith, w.room); sized = w.sized }

  -- the stack is empty: the points that are put are those that p reaches
  pub finish : (ps : List ℕ) (b : Bool) (st : State) → Going chain first succ h p ps b st → st.depth ≡ 0 → Chained chain first succ → Reaches (Reach (Edge first succ) h p) first ps b
  finish ps b st g d0 ch =
      record {
        sized = g.sized;
        sound = λ x m. down (g.walked.sound x m);
        complete = λ x r. all r;
        leaf = λ k. let w = g.exits.leaf k in (w.0, down (g.walked.sound w.0 w.1), leb-true _ _ ((and-eq-true_iff (not (has chain w.0)) _).0 w.2).1);
        exits = λ x r l. g.exits.exits x (all r) (leaf_ends x l (has chain x) refl);
      }
    where
      marked-put : (x : ℕ) → Marked st.seen x → has ps x ≡ true
      marked-put x m = ⊎_elim (λ k. k) (λ k. absurd (omega (arith, k.1, d0))) (g.search.pending x m)

      steps : (c : Bool) (x s : ℕ) → has chain x ≡ c → Edge first succ x s → Steps chain first succ x s
      steps true x s e w = inl (e, (ch.links x e).alone s w)
      steps false x s e w = inr (e, w)

      edge : (x s : ℕ) → Steps chain first succ x s → Edge first succ x s
      edge x s (inl k) = rw k.1 (ch.links x k.0).next
      edge x s (inr k) = k.1

      down : {x : ℕ} → Reach (Steps chain first succ) h p x → Reach (Edge first succ) h p x
      down (here e) = here e
      down (step {q = x} {s = s} r e k) = step (down r) (edge x s e) k

      all : {x : ℕ} → Reach (Edge first succ) h p x → has ps x ≡ true
      all (here e) = marked-put p g.start
      all (step {q = x} {s = s} r e k) = ⊎_elim (marked-put s) (λ m. m) (g.walked.closed x (all r) s (steps (has chain x) x s refl e) k)

      leaf_ends : (x : ℕ) → Leaf first x → (c : Bool) → has chain x ≡ c → is_leaf chain first x ≡ true
      leaf_ends x l true e = let w = (ch.links x e).next in absurd (omega (arith, w.1, w.2, l, up_to_le (row_end first x)))
      leaf_ends x l false e = rw (e, le-leb (row_end first x) (row_start first x) l)

  -- a walk that goes along the chain to its end reaches the points along it
  pub straight : (ps : List ℕ) (e : ℕ) (t : Bool) → h p ≡ true → Along chain h (with_bit (replicate 32 0) p) ps p e × Stopped chain h ps e → t ≡ has chain e → t ≡ true
      → Chained chain first succ → Reaches (Reach (Edge first succ) h p) first ps false
  straight ps e t hp w et y ch =
      let c : has chain e ≡ true = sym et ∙ y in
      let zeros : List ℕ = replicate 1024 0 in
      let st : State = pushed p (state zeros zeros 0) in
      let eq : p ≡ get_or st.stack 0 0 = sym (get_or-set_same zeros 0 p 0 (rw length-replicate (omega arith))) in
      let es : state st.seen st.stack 0 ≡ left chain h first succ e (state st.seen st.stack 0) = rw c in
      let ex : false ≡ is_leaf chain first e = rw c in
      let turn = turn_code (replicate 32 0) ps false st (state st.seen st.stack 0) p e false (going_start hp) (omega arith) eq w ex es in
      finish ps false (state st.seen st.stack 0) turn.going refl ch

-- ---- As the code of `reach` begins

or_neither : (a b : Bool) → (a || b) ≡ false → (a ≡ false) × (b ≡ false)
or_neither true b e = absurd (true≢false e)
or_neither false b e = (refl, e)

reach_start : {E : ℕ → ℕ → Type 0} {h : ℕ → Bool} {p x : ℕ} → Reach E h p x → h p ≡ true
reach_start (here e) = e
reach_start (step r e k) = reach_start r

-- nothing is reached from a point that h does not hold
reaches_none : (E : ℕ → ℕ → Type 0) (h : ℕ → Bool) (p : ℕ) (first : List ℕ) → h p ≡ false → Reaches (Reach E h p) first (replicate 32 0) false
reaches_none E h p first f =
    record {
      sized = length-replicate {A = ℕ} 32 0;
      sound = λ x m. absurd (true≢false (sym m ∙ has-none 32 x));
      complete = λ x r. absurd (true≢false (sym (reach_start r) ∙ f));
      leaf = λ e. absurd (true≢false (sym e));
      exits = λ x r l. absurd (true≢false (sym (reach_start r) ∙ f));
    }

-- t says whether the set has p
module _ (ws : List ℕ) (from code p : ℕ) (t : Bool) (et : t ≡ has ws (word_bits * from + p)) where
  pub walk-starts : ((ltb 1024 code || leb code p) || not t) ≡ false → (code ≤ 1024) × (in_code ws from code p ≡ true)
  walk-starts e =
      let u = or_neither (ltb 1024 code || leb code p) (not t) e in
      let v = or_neither (ltb 1024 code) (leb code p) u.0 in
      (ltb-false 1024 code v.0, rw (lt-ltb p code (leb-false code p v.1)) (sym et ∙ not-false t u.1))

  pub walk_none : (first succ : List ℕ) → ((ltb 1024 code || leb code p) || not t) ≡ true → code ≤ 1024 → Reaches (Reach (Edge first succ) (in_code ws from code) p) first (replicate 32 0) false
  walk_none first succ e l =
      reaches_none (Edge first succ) (in_code ws from code) p first
      (⊎_elim (λ k. ⊎_elim (λ i. absurd (omega (arith, ltb-true 1024 code i))) (λ i. code_out ws from code p (leb-true code p i)) (or_either (ltb 1024 code) (leb code p) k)) (λ k. unheld (not-true t k) (dec_lt p code)) (or_either (ltb 1024 code || leb code p) (not t) e))
    where
      unheld : t ≡ false → Dec (p < code) → in_code ws from code p ≡ false
      unheld f (yes i) = rw (lt-ltb p code i) (sym et ∙ f)
      unheld f (no i) = code_out ws from code p (omega (arith, i))
