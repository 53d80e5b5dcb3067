-- Edges are run one after the other: the laws of `Ran`. Assumes nothing.
use mathlib.Core.Path.{◌≡◌, refl, sym, ap, ap₂, ◌∙◌, subst}
use mathlib.Core.Logic.{◌⊎◌, inl, inr}
use mathlib.Core.Bool.{Bool, true, false, not, ◌&&◌, ◌||◌, or-true, true≢false}
use mathlib.Core.List.{List, [], ◌∷◌}
use Prim.Native.Nat.{ℕ, zero, suc, ◌+◌, ◌-◌, ◌*◌, ◌/◌, ◌%◌, ◌^◌, ◌≤◌, ◌<◌}
use native.Mathlib.Omega.{arith}
use native.Mathlib.Decide.{ℕ_discrete, dec_lt}
use lib.ListN.{length, get_or, set, take, drop}
use Rattle.std.proofs.lemmas.List.{get_or-take, get_or-drop, get_or-set_other}
use lib.Dec.{eqb}
use lib.Bits.{bit_and, bit_or, and_zero_l, and_shr, and_mod, and_le_l}
use Rattle.nll_spec.specs.Output.{word_bits}
use Rattle.bit_set.specs.Bits.{has, joined, grows}
use Rattle.bit_set.proofs.BitLaws.{digit, digit_lt, Words}
use Rattle.bit_set.proofs.RunLaws.{both_fit_lem, joined_yes}
use Rattle.bit_set.proofs.SetLaws.{length-joined, has-joined, has-joined_other, grows-not, grows-new}
use Rattle.graph.specs.Tables.{row_start, row_end, up_to, successors}
use Rattle.graph.proofs.RowLaws.{successor_at}
use Rattle.flow.specs.declared.Direction.{Direction}
use Rattle.flow.specs.declared.Direction.TheVariants.{Forward, Backward}
use Rattle.flow.specs.Running.{Comes, here, over, Since, Mixed, Ran, One, Lanes, Turned, Leaving, Row, nth, Rows}

-- ---- The bits that two words share

and_01 : (x y : ℕ) → x < 2 → y < 2 → eqb (bit_and x y) 1 ≡ (eqb x 1 && eqb y 1)
and_01 zero y hx hy = ap (λ (z : ℕ). eqb z 1) (and_zero_l y)
and_01 (suc zero) zero hx hy = refl
and_01 (suc zero) (suc zero) hx hy = refl
and_01 (suc zero) (suc (suc y)) hx hy = absurd (omega arith)
and_01 (suc (suc x)) y hx hy = absurd (omega arith)

pub digit_and : (a b i : ℕ) → eqb (digit (bit_and a b) i) 1 ≡ (eqb (digit a i) 1 && eqb (digit b i) 1)
digit_and a b i =
    ap (λ (x : ℕ). eqb (x % 2) 1) (and_shr a b i) ∙ ap (λ (x : ℕ). eqb x 1) (and_mod (a / 2 ^ i) (b / 2 ^ i) 1)
    ∙ and_01 (digit a i) (digit b i) (digit_lt a i) (digit_lt b i)

pub has_word : (ws : List ℕ) (w b : ℕ) → b < word_bits → has ws (word_bits * w + b) ≡ eqb (digit (get_or ws w 0) b) 1
has_word ws w b l =
    let d : (word_bits * w + b) / word_bits ≡ w = omega arith in
    let m : (word_bits * w + b) % word_bits ≡ b = omega arith in
    ap₂ (λ (x y : ℕ). eqb (digit (get_or ws x 0) y) 1) d m

-- ---- One edge

module _ (pass ws : List ℕ) (v w : ℕ) where
  -- what may go from word v to word w
  abbrev shared : ℕ
  shared = bit_and (get_or ws v 0) (get_or pass w 0)

  abbrev put : List ℕ
  put = joined ws w (shared ∷ []) 0 1

  has_shared : (b : ℕ) → b < word_bits → has (shared ∷ []) (word_bits * 0 + b) ≡ (has ws (word_bits * v + b) && has pass (word_bits * w + b))
  has_shared b l = has_word (shared ∷ []) 0 b l ∙ digit_and (get_or ws v 0) (get_or pass w 0) b ∙ sym (ap₂ (λ (x y : Bool). x && y) (has_word ws v b l) (has_word pass w b l))

  has-put : w < length ws → (b : ℕ) → b < word_bits → has put (word_bits * w + b) ≡ (has ws (word_bits * w + b) || (has ws (word_bits * v + b) && has pass (word_bits * w + b)))
  has-put h b l = has-joined ws w (shared ∷ []) 0 1 (omega arith) (omega arith) b (omega arith) ∙ ap (λ (x : Bool). has ws (word_bits * w + b) || x) (has_shared b l)

  put-kept : w < length ws → (j : ℕ) → has ws j ≡ true → has put j ≡ true
  put-kept h j e = go (dec_lt j (word_bits * w)) (dec_lt j (word_bits * (w + 1)))
    where
      go : Dec (j < word_bits * w) → Dec (j < word_bits * (w + 1)) → has put j ≡ true
      go (yes a) c = has-joined_other ws w (shared ∷ []) 0 1 j (inl a) ∙ e
      go (no a) (no c) = has-joined_other ws w (shared ∷ []) 0 1 j (inr (omega (arith, c))) ∙ e
      go (no a) (yes c) =
          let b : ℕ = j - word_bits * w in
          let q : word_bits * w + b ≡ j = omega (arith, a) in
          let was : has ws (word_bits * w + b) ≡ true = rw q e in
          ap (has put) (sym q) ∙ has-put h b (omega (arith, a)) ∙ ap (λ (x : Bool). x || (has ws (word_bits * v + b) && has pass (word_bits * w + b))) was

  put_other : (u b : ℕ) → (u ≡ w → ⊥) → b < word_bits → has put (word_bits * u + b) ≡ has ws (word_bits * u + b)
  put_other u b n l = go (dec_lt u w)
    where
      go : Dec (u < w) → has put (word_bits * u + b) ≡ has ws (word_bits * u + b)
      go (yes a) = has-joined_other ws w (shared ∷ []) 0 1 (word_bits * u + b) (inl (omega arith))
      go (no a) = let k : w < u = omega (arith, a, n) in has-joined_other ws w (shared ∷ []) 0 1 (word_bits * u + b) (inr (omega arith))

  put-sound : w < length ws → (u b : ℕ) → b < word_bits → has put (word_bits * u + b) ≡ true → Comes (One v w) pass ws b u
  put-sound h u b l e = go (ℕ_discrete u w)
    where
      from : (x y z : Bool) → has ws (word_bits * w + b) ≡ x → has ws (word_bits * v + b) ≡ y → has pass (word_bits * w + b) ≡ z → (x || (y && z)) ≡ true → Comes (One v w) pass ws b w
      from true y z ex ey ez q = here ex
      from false true true ex ey ez q = over (here ey) (refl, refl) ez
      from false true false ex ey ez q = absurd (true≢false (sym q))
      from false false z ex ey ez q = absurd (true≢false (sym q))

      go : Dec (u ≡ w) → Comes (One v w) pass ws b u
      go (no n) = here (sym (put_other u b n l) ∙ e)
      go (yes k) =
          let q : has put (word_bits * w + b) ≡ true = ap (λ (x : ℕ). has put (word_bits * x + b)) (sym k) ∙ e in
          subst (Comes (One v w) pass ws b) (sym k) (from _ _ _ refl refl refl (sym (has-put h b l) ∙ q))

  -- a word that changes gets a bit
  put-grew : get_or ws w 0 < 2 ^ word_bits → get_or ws v 0 < 2 ^ word_bits → w < length ws → grows ws w (shared ∷ []) 0 1 ≡ true → (j : ℕ) × (has ws j ≡ false) × (has put j ≡ true)
  put-grew fw fv h e =
      let z : w + 0 ≡ w = omega arith in
      let q : grows (get_or ws w 0 ∷ []) 0 (shared ∷ []) 0 1 ≡ true = ap (λ (k : ℕ). not (eqb (get_or ws k 0) (bit_or (get_or ws k 0) shared))) (sym z) ∙ sym (joined_yes ws w (shared ∷ []) 0 1 (both_fit_lem ws w (shared ∷ []) 0 1 (omega arith) (omega arith))).1 ∙ e in
      let n = grows-new (get_or ws w 0 ∷ []) 0 (shared ∷ []) 0 1 (alone (get_or ws w 0) fw) (alone shared (omega (arith, and_le_l (get_or ws v 0) (get_or pass w 0)))) q in
      let l : n.0 < word_bits = omega (arith, n.1) in
      let was : has ws (word_bits * w + n.0) ≡ false = has_word ws w n.0 l ∙ sym (has_word (get_or ws w 0 ∷ []) 0 n.0 l) ∙ n.2 in
      (word_bits * w + n.0, was, has-joined ws w (shared ∷ []) 0 1 (omega arith) (omega arith) n.0 n.1 ∙ ap₂ (λ (x y : Bool). x || y) was n.3)
    where
      alone : (x : ℕ) → x < 2 ^ word_bits → Words (x ∷ [])
      alone x l zero = l
      alone x l (suc k) = omega arith

  put-ran : get_or ws w 0 < 2 ^ word_bits → get_or ws v 0 < 2 ^ word_bits → w < length ws → Ran (One v w) pass ws put (grows ws w (shared ∷ []) 0 1)
  put-ran fw fv h =
      record {
        since = record { as_long = length-joined ws w (shared ∷ []) 0 1; kept = put-kept h; sound = put-sound h };
        same = grows-not ws w (shared ∷ []) 0 1;
        closed = λ e x y b t l hv hp.
            let k : has ws (word_bits * v + b) ≡ true = rw (← t.0) hv in
            let m : has pass (word_bits * w + b) ≡ true = rw (← t.1) hp in
            rw t.1 (ap (λ (l : List ℕ). has l (word_bits * w + b)) (sym (grows-not ws w (shared ∷ []) 0 1 e)) ∙ has-put h b l ∙ ap₂ (λ (x y : Bool). has ws (word_bits * w + b) || (x && y)) k m ∙ or-true (has ws (word_bits * w + b)));
        grew = put-grew fw fv h;
      }

  -- the edge from word v to word w: w gets `new`, and the answer says whether that is another word
  ran_one : {new : ℕ} → Mixed (get_or ws w 0) (get_or ws v 0) (get_or pass w 0) new → w < length ws → Ran (One v w) pass ws (set ws w new) (not (eqb (get_or ws w 0) new))
  ran_one {new} m h =
      let z : w + 0 ≡ w = omega arith in
      let y = joined_yes ws w (shared ∷ []) 0 1 (both_fit_lem ws w (shared ∷ []) 0 1 (omega arith) (omega arith)) in
      let e : put ≡ set ws w (bit_or (get_or ws w 0) shared) = y.0 ∙ ap (λ (k : ℕ). set ws k (bit_or (get_or ws k 0) shared)) z in
      let f : grows ws w (shared ∷ []) 0 1 ≡ not (eqb (get_or ws w 0) (bit_or (get_or ws w 0) shared)) = y.1 ∙ ap (λ (k : ℕ). not (eqb (get_or ws k 0) (bit_or (get_or ws k 0) shared))) z in
      rw (m.is, ← e, ← f) (put-ran m.old-fits m.from_fits h)

-- ---- Sets of edges, one after the other

-- every edge of the first is one of the second
abbrev Among : (ℕ → ℕ → Type 0) → (ℕ → ℕ → Type 0) → Type 0
Among E F = (v w : ℕ) → E v w → F v w

comes_through : {E F G : ℕ → ℕ → Type 0} {pass ws u : List ℕ} → Since E pass ws u → Among E G → Among F G → {b w : ℕ} → b < word_bits → Comes F pass u b w → Comes G pass ws b w
comes_through {E} {F} {G} {pass} {ws} {u} s e f {b} {w} l (here q) = more (s.sound w b l q)
  where
    more : {w : ℕ} → Comes E pass ws b w → Comes G pass ws b w
    more (here q) = here q
    more (over {v = v} {w = w} c k q) = over (more c) (e v w k) q
comes_through s e f l (over {v = v} {w = w} c k q) = over (comes_through s e f l c) (f v w k) q

pub since_then : {E F G : ℕ → ℕ → Type 0} {pass ws u x : List ℕ} → Since E pass ws u → Since F pass u x → Among E G → Among F G → Since G pass ws x
since_then s t e f =
    record {
      as_long = t.as_long ∙ s.as_long;
      kept = λ j h. t.kept j (s.kept j h);
      sound = λ w b l h. comes_through s e f l (t.sound w b l h);
    }

-- nothing is run
pub since_none : {G : ℕ → ℕ → Type 0} (pass ws : List ℕ) → Since G pass ws ws
since_none pass ws = record { as_long = refl; kept = λ j h. h; sound = λ w b l h. here h }

pub ran-none : {G : ℕ → ℕ → Type 0} (pass ws : List ℕ) → ((v w : ℕ) → G v w → ⊥) → Ran G pass ws ws false
ran-none pass ws n =
    record {
      since = since_none pass ws;
      same = λ e. refl;
      closed = λ e v w b k. absurd (n v w k);
      grew = λ e. absurd (true≢false (sym e));
    }

ran_then : {E F G : ℕ → ℕ → Type 0} {pass ws u x : List ℕ} (r s : Bool) → Ran E pass ws u r → Ran F pass u x s → Among E G → Among F G → ((v w : ℕ) → G v w → E v w ⊎ F v w) → Ran G pass ws x (s || r)
ran_then {E} {F} {G} {pass} {ws} {u} {x} r s a c e f g = go r s a c
  where
    both : {r s : Bool} → Ran E pass ws u r → Ran F pass u x s → Since G pass ws x
    both a c = since_then a.since c.since e f

    closed : Ran E pass ws u false → Ran F pass u x false → (v w b : ℕ) → G v w → b < word_bits → has ws (word_bits * v + b) ≡ true → has pass (word_bits * w + b) ≡ true → has ws (word_bits * w + b) ≡ true
    closed a c v w b k l h p = from (g v w k)
      where
        from : E v w ⊎ F v w → has ws (word_bits * w + b) ≡ true
        from (inl k) = a.closed refl v w b k l h p
        from (inr k) =
            let q : has u (word_bits * v + b) ≡ true = a.since.kept (word_bits * v + b) h in
            rw (a.same refl) at (c.closed refl v w b k l q p)

    go : (r s : Bool) → Ran E pass ws u r → Ran F pass u x s → Ran G pass ws x (s || r)
    go false false a c = record { since = both a c; same = λ q. c.same refl ∙ a.same refl; closed = λ q. closed a c; grew = λ q. absurd (true≢false (sym q)) }
    go false true a c =
        record {
          since = both a c;
          same = λ q. absurd (true≢false q);
          closed = λ q. absurd (true≢false q);
          grew = λ q. let n = c.grew refl in (n.0, ap (λ (l : List ℕ). has l n.0) (sym (a.same refl)) ∙ n.1, n.2);
        }
    go true s a c =
        record {
          since = both a c;
          same = λ q. absurd (true≢false (sym (or-true s) ∙ q));
          closed = λ q. absurd (true≢false (sym (or-true s) ∙ q));
          grew = λ q. let n = a.grew refl in (n.0, n.1, c.since.kept n.0 n.2);
        }

-- a set of edges, said otherwise
pub ran_as : {E F : ℕ → ℕ → Type 0} {pass ws u : List ℕ} {r : Bool} → Ran E pass ws u r → Among E F → Among F E → Ran F pass ws u r
ran_as {E} {F} {pass} {ws} a e f =
    record {
      since = since_then a.since (since_none {G = E} pass _) e e;
      same = a.same;
      closed = λ q v w b k. a.closed q v w b (f v w k);
      grew = a.grew;
    }

-- ---- The loops

-- one of four words
pub word_at : (ws : List ℕ) {four : List ℕ} (p : ℕ) → four ≡ take 4 (drop (4 * p) ws) → (i : ℕ) → i < 4 → get_or four i 0 ≡ get_or ws (4 * p + i) 0
word_at ws p e i l = rw e (get_or-take 4 (drop (4 * p) ws) i 0 l ∙ get_or-drop (4 * p) ws i 0)

-- From number k on, the four words of point p are as they were read.
pub record Unchanged (ws four : List ℕ) (p k : ℕ) : Type 0 where
  pub same : (i : ℕ) → k ≤ i → i < 4 → get_or four i 0 ≡ get_or ws (4 * p + i) 0

pub unchanged_yet : (ws : List ℕ) {four : List ℕ} (p : ℕ) → four ≡ take 4 (drop (4 * p) ws) → Unchanged ws four p 0
unchanged_yet ws p e = record { same = λ i h l. word_at ws p e i l }

pub unchanged_more : {ws four : List ℕ} (p q k x : ℕ) → k < 4 → Unchanged ws four p k → Unchanged (set ws (4 * q + k) x) four p (k + 1)
unchanged_more {ws} p q k x l u = record { same = λ i h m. u.same i (omega arith) m ∙ sym (get_or-set_other ws (4 * q + k) (4 * p + i) x 0 (λ e. omega arith)) }

-- the first k of the four words
module _ (pass ws : List ℕ) (p q : ℕ) (size : 4 * q + 4 ≤ length ws) where
  pub lanes_none : Ran (Lanes 0 p q) pass ws ws false
  lanes_none = ran-none pass ws (λ v w k. absurd (omega (arith, k.1)))

  pub lanes_more : {u : List ℕ} {r : Bool} {c : ℕ} (k : ℕ) → k < 4 → Ran (Lanes k p q) pass ws u r → Mixed (get_or u (4 * q + k) 0) (get_or u (4 * p + k) 0) (get_or pass (4 * q + k) 0) c
      → Ran (Lanes (k + 1) p q) pass ws (set u (4 * q + k) c) (not (eqb (get_or u (4 * q + k) 0) c) || r)
  lanes_more {u} {r} {c} k l a m =
      ran_then r (not (eqb (get_or u (4 * q + k) 0) c)) a (ran_one pass u (4 * p + k) (4 * q + k) m (omega (arith, a.since.as_long)))
      (λ v w e. (e.0, omega (arith, e.1), e.2, e.3)) (λ v w e. (k, omega arith, e.0, e.1)) (λ v w e. go v w e (ℕ_discrete e.0 k))
    where
      go : (v w : ℕ) (e : Lanes (k + 1) p q v w) → Dec (e.0 ≡ k) → Lanes k p q v w ⊎ One (4 * p + k) (4 * q + k) v w
      go v w e (yes i) = inr (rw (← i) e.2, rw (← i) e.3)
      go v w e (no n) = inl (e.0, omega (arith, n, e.1), e.2, e.3)

module _ (d : Direction) (code p s q : ℕ) (e : q ≡ s) where
  pub turned_out : (pass ws : List ℕ) → code ≤ q → Ran (Turned d code p s) pass ws ws false
  turned_out pass ws h = ran-none pass ws (λ v w k. omega (arith, k.0))

pub turned_forward : {pass ws u : List ℕ} {r : Bool} (code p s q : ℕ) → q ≡ s → q < code → Ran (Lanes 4 p q) pass ws u r → Ran (Turned Forward code p s) pass ws u r
turned_forward code p s q e h a = rw (← e) (ran_as a (λ v w k. (h, k)) (λ v w k. k.1))

pub turned_backward : {pass ws u : List ℕ} {r : Bool} (code p s q : ℕ) → q ≡ s → q < code → Ran (Lanes 4 q p) pass ws u r → Ran (Turned Backward code p s) pass ws u r
turned_backward code p s q e h a = rw (← e) (ran_as a (λ v w k. (h, k)) (λ v w k. k.1))

module _ (d : Direction) (code : ℕ) (first succ pass ws : List ℕ) where
  module _ (p : ℕ) where
    pub leaving_none : Ran (Leaving d code first succ p (row_start first p + 0)) pass ws ws false
    leaving_none = ran-none pass ws (λ v w k. omega (arith, k.1, k.2))

    -- the edges to the point that is number i of the list
    pub leaving_more : {u x ss : List ℕ} {r s : Bool} (i : ℕ) → ss ≡ successors first succ p → i < length ss → Ran (Leaving d code first succ p (row_start first p + i)) pass ws u r
        → Ran (Turned d code p (get_or ss i 0)) pass u x s → Ran (Leaving d code first succ p (row_start first p + (i + 1))) pass ws x (s || r)
    leaving_more {u} {x} {ss} {r} {s} i e l a c =
        ran_then r s a c' (λ v w e. (e.0, e.1, omega (arith, e.2), e.3)) (λ v w e. (k, omega arith, omega arith, e)) (λ v w e. go v w e (ℕ_discrete e.0 k))
      where
        k : ℕ
        k = row_start first p + i

        same : get_or ss i 0 ≡ get_or succ k 0
        same = rw e (successor_at first succ p i (rw e at l))

        c' : Ran (Turned d code p (get_or succ k 0)) pass u x s
        c' = rw same at c

        go : (v w : ℕ) (e : Leaving d code first succ p (row_start first p + (i + 1)) v w) → Dec (e.0 ≡ k) → Leaving d code first succ p k v w ⊎ Turned d code p (get_or succ k 0) v w
        go v w e (yes i) = inr (subst (λ (m : ℕ). Turned d code p (get_or succ m 0) v w) i e.3)
        go v w e (no n) = inl (e.0, e.1, omega (arith, n, e.2), e.3)

    pub leaving_all : {u : List ℕ} {r : Bool} (n : ℕ) → n ≡ up_to (row_end first p) - row_start first p → Ran (Leaving d code first succ p (row_start first p + n)) pass ws u r → Ran (Row d code first succ p) pass ws u r
    leaving_all n e a = ran_as a (λ v w x. (x.0, x.1, omega (arith, e, x.1, x.2), x.3)) (λ v w x. (x.0, x.1, omega (arith, e, x.1, x.2), x.3))

  pub rows_none : Ran (Rows d code first succ 0) pass ws ws false
  rows_none = ran-none pass ws (λ v w k. absurd (omega (arith, k.1)))

  pub rows_more : {u x : List ℕ} (i p : ℕ) (r s : Bool) → p ≡ nth d code i → Ran (Rows d code first succ i) pass ws u r → Ran (Row d code first succ p) pass u x s → Ran (Rows d code first succ (i + 1)) pass ws x (s || r)
  rows_more {u} {x} i p r s q a c =
      ran_then r s a c' (λ v w e. (e.0, omega (arith, e.1), e.2)) (λ v w e. (i, omega arith, e)) (λ v w e. go v w e (ℕ_discrete e.0 i))
    where
      c' : Ran (Row d code first succ (nth d code i)) pass u x s
      c' = subst (λ (m : ℕ). Ran (Row d code first succ m) pass u x s) q c

      go : (v w : ℕ) (e : Rows d code first succ (i + 1) v w) → Dec (e.0 ≡ i) → Rows d code first succ i v w ⊎ Row d code first succ (nth d code i) v w
      go v w e (yes k) = inr (subst (λ (m : ℕ). Row d code first succ (nth d code m) v w) k e.2)
      go v w e (no n) = inl (e.0, omega (arith, n, e.1), e.2)

  pub rows_all : {u : List ℕ} {r : Bool} (i : ℕ) → i ≤ code → code ≤ i → Ran (Rows d code first succ i) pass ws u r → Ran (Rows d code first succ code) pass ws u r
  rows_all {u} {r} i a c x = let e : i ≡ code = omega arith in subst (λ (n : ℕ). Ran (Rows d code first succ n) pass ws u r) e x
