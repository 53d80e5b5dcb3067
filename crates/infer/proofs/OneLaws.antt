-- One constraint: passed by, or run. Assumes nothing.
use mathlib.Core.Path.{◌≡◌, refl, sym, ap, ◌∙◌, subst}
use mathlib.Core.Logic.{◌⊎◌, inl, inr, ⊎_elim}
use mathlib.Core.Bool.{Bool, true, false, true≢false}
use mathlib.Core.List.{List, [], ◌∷◌}
use Prim.Native.Nat.{ℕ, ◌+◌, ◌*◌, ◌/◌, ◌≤◌, ◌<◌}
use native.Mathlib.Nat.{mul-le-mul_right, suc-mul}
use native.Mathlib.Decide.{ℕ_discrete}
use native.Mathlib.Omega.{arith}
use lib.ListN.{length}
use lib.Dec.{T}
use Rattle.std.proofs.lemmas.Float.{T_from_true}
use Rattle.nll_spec.specs.Lists.{Member, here, there}
use Rattle.nll_spec.specs.Syntax.{Point, RegionName}
use Rattle.nll_spec.specs.Graph.{Graph}
use Rattle.nll_spec.specs.Constraints.{Outlives}
use Rattle.nll_spec.specs.Regions.{EndRule, passes_end}
use Rattle.nll_spec.specs.Output.{word_bits}
use Rattle.nll_spec.specs.Meaning.{Sets, Walk, begin, go_on}
use Rattle.nll_spec.proofs.Tests.{is_true}
use Rattle.nll_spec.proofs.Members.{member_place}
use Rattle.nll_spec.proofs.MonotoneLaws.{looser_same}
use Rattle.bit_set.specs.Bits.{has, with_bit}
use Rattle.bit_set.proofs.BitLaws.{length_with, has_with, has_with_other}
use Rattle.graph.specs.Tables.{Edge}
use Rattle.dfs.specs.Walk.{in_code, Reach}
use Rattle.infer.specs.Search.{Gets, Spread, adds_nothing, Covered}
use Rattle.infer.specs.Ran.{Setting, bit_at, sets_of, Met, Within, AllReady, Marked, Ran, Given, Names}
use Rattle.infer.specs.declared.Setup.{Setup}
use Rattle.infer.proofs.TableLaws.{leaf_exit, exit_leaf, reach_below, reach_walk, walk_reach}
use Rattle.infer.proofs.SubsetLaws.{nothing_new}
use Rattle.infer.proofs.CoverLaws.{covered_nothing}
use Rattle.infer.proofs.RanLaws.{bit-region, sets-has, sets_below, has-sets, walk_mono}

-- ---- A constraint that is passed by

one : (P : Outlives → Type 0) (c d : Outlives) → P c → Member d (c ∷ []) → P d
one P c d h here = h
one P c d h (there m) = absurd (omega (arith, (member_place c m).1))

pub walk_start : {g : Graph} {f : Point → Bool} {p q : Point} → Walk g f p q → T (f p)
walk_start (begin t) = t
walk_start (go_on w n t) = walk_start w

ran-same : (s : Setting) (last ws grew : List ℕ) (c : Outlives) → (AllReady s last ws grew (c ∷ []) → Met s (sets_of s ws) c ⊎ Marked grew c.sub) → Ran s last (c ∷ []) ws grew ws grew
ran-same s last ws grew c met =
    record {
      as_long = refl;
      as_many = refl;
      fits = λ wf. wf;
      kept = λ j e. e;
      others = λ j h. refl;
      still = λ r m. m;
      marked = λ r q h. inl h;
      earned = λ r m. inl m;
      met = λ ready d m. one (λ (x : Outlives). Met s (sets_of s ws) x ⊎ Marked grew x.sub) c d (met ready) m;
      within = λ sets w met. w;
    }

-- its inner set does not hold its point
pub ran_absent : (s : Setting) (last ws grew : List ℕ) (c : Outlives) → has ws (bit_at s.width c.sub c.point) ≡ false → Ran s last (c ∷ []) ws grew ws grew
ran_absent s last ws grew c e = ran-same s last ws grew c λ ready. inl (record { points = λ q w. absurd (never w); passed = λ q x w. absurd (never w) })
  where
    never : {q : Point} → Walk s.graph (sets_of s ws c.sub) c.point q → ⊥
    never w = true≢false (sym (sets-has s ws c.sub c.point (walk_start w)) ∙ e)

-- ---- A constraint that is run

module _ (s : Setting) (g : Setup) (ws grew : List ℕ) (given : Given s g ws grew) (c : Outlives) (names : Names s c) where
  -- what the constraint puts into its outer set
  abbrev Got : Point → Type 0
  Got = Gets g ws (c.sub * s.width) c.point

  room : word_bits * (c.sup * s.width) + g.shape.points ≤ word_bits * length ws
  room = omega (arith, given.points, given.wide, given.room, mul-le-mul_right s.width names.sup, suc-mul c.sup s.width)

  -- what sets that contain the words' and meet the constraint have
  got_in : (sets : Sets) → Within s (sets_of s ws) sets → Met s sets c → (q : Point) → Got q → T (sets c.sup q)
  got_in sets w m q (inl r) = m.points q (walk_mono (sets_of s ws c.sub) (sets c.sub) (λ x. w c.sub x names.sub) (reach_walk s g ws grew given c.sub c.point r))
  got_in sets w m q (inr r) =
      let x : Point = r.3.0 in
      let u = r.3.1 in
      let lo : s.graph.code ≤ q = omega (arith, given.code, r.0) in
      let hi : q < s.graph.points = omega (arith, given.points, r.1) in
      let passed : passes_end s.ends (has ws (bit_at s.width c.sub q)) ≡ true = subst (λ (rule : EndRule). passes_end rule (has ws (bit_at s.width c.sub q)) ≡ true) given.ends r.2 in
      m.passed x q (walk_mono (sets_of s ws c.sub) (sets c.sub) (λ x. w c.sub x names.sub) (reach_walk s g ws grew given c.sub c.point u))
      (leaf_exit s.graph g.graph.now.first g.graph.now.succ given.edges x (reach_below s g ws grew given c.sub c.point u) r.3.2)
      lo
      hi
      (looser_same s.ends (has ws (bit_at s.width c.sub q)) (sets c.sub q) (λ h. w c.sub q names.sub (has-sets s ws c.sub q hi (is_true _ h))) (T_from_true _ passed))

  -- a walk through the inner set of words that have grown, where that set did not
  module _ (ws' : List ℕ) (down : (q : Point) → T (sets_of s ws' c.sub q) → T (sets_of s ws c.sub q)) where
    back : {q : Point} → Walk s.graph (sets_of s ws' c.sub) c.point q → Reach (Edge g.graph.now.first g.graph.now.succ) (in_code ws (c.sub * s.width) g.shape.code) c.point q
    back w = walk_reach s g ws grew given c.sub c.point names.point (walk_mono (sets_of s ws' c.sub) (sets_of s ws c.sub) down w)

    met_in : ((q : Point) → Got q → has ws' (bit_at s.width c.sup q) ≡ true) → Met s (sets_of s ws') c
    met_in added =
        record {
          points = λ q w.
              let r = back w in
              has-sets s ws' c.sup q (omega (arith, reach_below s g ws grew given c.sub c.point r, given.edges.ordered)) (added q (inl r));
          passed = λ q e w x lo hi pe.
              let passed = is_true _ (looser_same s.ends (sets_of s ws' c.sub e) (has ws (bit_at s.width c.sub e)) (λ h. T_from_true _ (sets-has s ws c.sub e (down e h))) pe) in
              has-sets s ws' c.sup e hi
              (added e
              (inr (
                omega (arith, given.code, lo),
                omega (arith, given.points, hi),
                subst (λ (rule : EndRule). passes_end rule (has ws (bit_at s.width c.sub e)) ≡ true) (sym given.ends) passed,
                (q, back w, exit_leaf s.graph g.graph.now.first g.graph.now.succ given.edges q x),
              )));
        }

  -- where its sets start, in the setting's terms
  starts : (P : ℕ → ℕ → Type 0) {a b : ℕ} → a ≡ c.sup → b ≡ c.sub → P (a * g.shape.width) (b * g.shape.width) → P (c.sup * s.width) (c.sub * s.width)
  starts P ea eb x = rw (ea, eb, given.width) at x

  -- what it puts into its outer set is there
  pub ran_nothing : (last : List ℕ) (a b : ℕ) → a ≡ c.sup → b ≡ c.sub → adds_nothing g ws (a * g.shape.width) (b * g.shape.width) ≡ true → Ran s last (c ∷ []) ws grew ws grew
  ran_nothing last a b ea eb e =
      let n : adds_nothing g ws (c.sup * s.width) (c.sub * s.width) ≡ true = starts (λ (to from : ℕ). adds_nothing g ws to from ≡ true) ea eb e in
      ran-same s last ws grew c λ ready.
      inl (met_in ws (λ q h. h)
      (nothing_new g ws (c.sup * s.width) (c.sub * s.width) c.point n (omega (arith, given.code, given.points, given.edges.ordered)) (omega (arith, given.points, given.width, given.wide))))

  -- the words show that a walk stays within its outer set
  pub ran_covered : (last : List ℕ) (a b : ℕ) → a ≡ c.sup → b ≡ c.sub → Covered g.chain.now ws (b * g.shape.width) (a * g.shape.width) (c.point / word_bits) → Ran s last (c ∷ []) ws grew ws grew
  ran_covered last a b ea eb v =
      let w : Covered g.chain.now ws (c.sub * s.width) (c.sup * s.width) (c.point / word_bits) = starts (λ (to from : ℕ). Covered g.chain.now ws from to (c.point / word_bits)) ea eb v in
      ran-same s last ws grew c λ ready.
      inl (met_in ws (λ q h. h) (covered_nothing g ws (c.sub * s.width) (c.sup * s.width) c.point given.linked w))

  -- what was put into the outer set, in the setting's terms
  pub spread_got : (a b : ℕ) → a ≡ c.sup → b ≡ c.sub → (ws' : List ℕ) (r : Bool) → Spread (Gets g ws (b * g.shape.width) c.point) g.shape.points ws ws' (a * g.shape.width) r
      → Spread (Gets g ws (c.sub * s.width) c.point) g.shape.points ws ws' (c.sup * s.width) r
  spread_got a b ea eb ws' r x = starts (λ (to from : ℕ). Spread (Gets g ws from c.point) g.shape.points ws ws' to r) ea eb x

  module _ (last ws' : List ℕ) (r : Bool) (x : Spread Got g.shape.points ws ws' (c.sup * s.width) r) where
    -- a new point of a set is one that the constraint put into its outer set
    new : (k : RegionName) (q : Point) → T (sets_of s ws' k q) → T (sets_of s ws k q) ⊎ ((k ≡ c.sup) × Got q)
    new k q h = go (x.only (bit_at s.width k q) (sets-has s ws' k q h))
      where
        lq : q < s.graph.points
        lq = sets_below s ws' k q h

        go : (has ws (bit_at s.width k q) ≡ true) ⊎ ((y : ℕ) × (bit_at s.width k q ≡ word_bits * (c.sup * s.width) + y) × (y < g.shape.points) × Got y)
            → T (sets_of s ws k q) ⊎ ((k ≡ c.sup) × Got q)
        go (inl e) = inl (has-sets s ws k q lq e)
        go (inr w) =
            let e : k ≡ c.sup = bit-region s.width k c.sup q w.0 (omega (arith, lq, given.wide)) (omega (arith, w.2, given.points, given.wide)) w.1 in
            let f : bit_at s.width c.sup q ≡ bit_at s.width c.sup w.0 = ap (λ (i : ℕ). bit_at s.width i q) (sym e) ∙ w.1 in
            inr (e, subst Got (omega arith) w.3)

    others' : (j : ℕ) → ((k : RegionName) (q : Point) → k < s.regions → q < s.graph.points → j ≡ bit_at s.width k q → ⊥) → has ws' j ≡ has ws j
    others' j h = go (has ws' j) (has ws j) refl refl
      where
        go : (a b : Bool) → has ws' j ≡ a → has ws j ≡ b → a ≡ b
        go true true ea eb = refl
        go false false ea eb = refl
        go false true ea eb = sym ea ∙ x.kept j eb
        go true false ea eb = ⊎_elim (λ k. sym k ∙ eb) (λ k. absurd (h c.sup k.0 names.sup (omega (arith, k.2, given.points)) k.1)) (x.only j ea)

    ran_with : (grew' : List ℕ) → length grew' ≡ length grew → ((k : RegionName) → Marked grew k → Marked grew' k)
        → ((k : RegionName) (q : Point) → T (sets_of s ws' k q) → T (sets_of s ws k q) ⊎ Marked grew' k)
        → ((k : RegionName) → Marked grew' k → Marked grew k ⊎ ((q : Point) × (q < s.graph.points) × (has ws (bit_at s.width k q) ≡ false) × (has ws' (bit_at s.width k q) ≡ true)))
        → Ran s last (c ∷ []) ws grew ws' grew'
    ran_with grew' as_many still marked earned =
        record {
          as_long = x.as_long;
          as_many = as_many;
          fits = x.fits;
          kept = x.kept;
          others = others';
          still = still;
          marked = marked;
          earned = earned;
          met = λ ready d m. one (λ (y : Outlives). Met s (sets_of s ws') y ⊎ Marked grew' y.sub) c d (met (has grew' c.sub) refl) m;
          within = λ sets w met k q l h. ⊎_elim (w k q l) (λ n. subst (λ (i : RegionName). T (sets i q)) (sym n.0) (got_in sets w (met c here) q n.1)) (new k q h);
        }
      where
        met : (b : Bool) → has grew' c.sub ≡ b → Met s (sets_of s ws') c ⊎ Marked grew' c.sub
        met true e = inr e
        met false e = inl (met_in ws' (λ q h. ⊎_elim (λ k. k) (λ k. absurd (true≢false (sym k ∙ e))) (marked c.sub q h)) (x.added room))

    -- the outer set did not grow
    pub ran-still : r ≡ false → Ran s last (c ∷ []) ws grew ws' grew
    ran-still e =
        ran_with grew refl (λ k m. m) (λ k q h. inl (has-sets s ws k q (sets_below s ws' k q h) (sym (x.same e (bit_at s.width k q)) ∙ sets-has s ws' k q h))) (λ k m. inl m)

    -- it did, and is marked
    pub ran-grew : {at : ℕ} {grew' : List ℕ} → at ≡ c.sup → grew' ≡ with_bit grew (word_bits * 0 + at) → r ≡ true → Ran s last (c ∷ []) ws grew ws' grew'
    ran-grew {at} {grew'} ea eg e =
        rw (eg, ea, z)
        (ran_with (with_bit grew c.sup) (length_with grew c.sup) (λ k m. kept k m (ℕ_discrete k c.sup))
        (λ k q h. ⊎_elim (λ n. inl n) (λ n. inr (subst (Marked (with_bit grew c.sup)) (sym n.0) mark)) (new k q h))
        (λ k m. earned k (ℕ_discrete k c.sup) m))
      where
        z : word_bits * 0 + c.sup ≡ c.sup
        z = omega arith

        mark : Marked (with_bit grew c.sup) c.sup
        mark = has_with grew c.sup (omega (arith, names.sup, given.few, given.marks))

        kept : (k : RegionName) → Marked grew k → Dec (k ≡ c.sup) → Marked (with_bit grew c.sup) k
        kept k m (yes q) = subst (Marked (with_bit grew c.sup)) (sym q) mark
        kept k m (no n) = has_with_other grew c.sup k n ∙ m

        earned : (k : RegionName) → Dec (k ≡ c.sup) → Marked (with_bit grew c.sup) k
            → Marked grew k ⊎ ((q : Point) × (q < s.graph.points) × (has ws (bit_at s.width k q) ≡ false) × (has ws' (bit_at s.width k q) ≡ true))
        earned k (no n) m = inl (sym (has_with_other grew c.sup k n) ∙ m)
        earned k (yes z) m =
            let w = x.grew e in
            inr (subst (λ (i : RegionName). (q : Point) × (q < s.graph.points) × (has ws (bit_at s.width i q) ≡ false) × (has ws' (bit_at s.width i q) ≡ true)) (sym z) (w.0, omega (arith, w.1, given.points), w.3, w.4))

-- the inner set does not hold the point, as the code tests it
pub absent_test : (ws : List ℕ) (t sub width w p : ℕ) (b : Bool) → t ≡ sub → width ≡ w → b ≡ has ws (word_bits * (t * width) + p) → b ≡ false → has ws (bit_at w sub p) ≡ false
absent_test ws t sub width w p b e f q n = rw (e, f) at (sym q ∙ n)
