-- Runs of constraints, one after the other; rounds of them; and that rounds until no set grows end in the least sets. Assumes nothing.
use mathlib.Core.Path.{◌≡◌, refl, sym, ap, ◌∙◌}
use mathlib.Core.Logic.{◌⊎◌, inl, inr, ⊎_elim}
use mathlib.Core.Bool.{Bool, true, false, ◌||◌, true≢false}
use mathlib.Core.List.{List, [], ◌++◌}
use Prim.Native.Nat.{ℕ, zero, suc, ◌+◌, ◌*◌, ◌≤◌, ◌<◌}
use native.Mathlib.Nat.{not-suc-le-zero, mul-le-mul_right, suc-mul}
use native.Mathlib.Decide.{ℕ_discrete, dec_lt}
use native.Mathlib.Omega.{arith}
use lib.ListN.{length, get_or, replicate}
use lib.Dec.{T, ltb, ltb→lt, lt→ltb}
use Rattle.std.proofs.lemmas.Bool.{false_from_ne_true}
use Rattle.std.proofs.lemmas.Float.{T_from_true}
use Rattle.nll_spec.specs.Lists.{Member}
use Rattle.nll_spec.specs.Syntax.{Point, RegionName}
use Rattle.nll_spec.specs.Graph.{Graph}
use Rattle.nll_spec.specs.Constraints.{Outlives}
use Rattle.nll_spec.specs.Regions.{no_constraint}
use Rattle.nll_spec.specs.Output.{word_bits, word_count}
use Rattle.nll_spec.specs.Meaning.{Sets, Walk, begin, go_on, LeastSolution, sets_in}
use Rattle.nll_spec.proofs.Tests.{and_intro, and_left, and_right, is_true}
use Rattle.nll_spec.proofs.Members.{member_place, member_left, member_right, member_append}
use Rattle.nll_spec.proofs.MonotoneLaws.{looser_same}
use Rattle.bit_set.specs.Bits.{has}
use Rattle.bit_set.proofs.BitLaws.{words_ext, has-zeros}
use Rattle.bit_slice.specs.Some.{SomeSet}
use Rattle.graph.proofs.SearchLaws.{no_mark}
use Rattle.bit_set.specs.Missing.{missing}
use Rattle.infer.specs.Ran.{Setting, bit_at, sets_at, sets_of, Words, Met, Ready, AllReady, Marked, Ran, Rounds, Quiet, Given, AllNamed, any_marked}
use Rattle.infer.specs.declared.Setup.{Setup}
use Rattle.bit_set.proofs.MissingLaws.{missing_le, missing_lt}

-- ---- Bits and sets

-- two regions' sets have no bit in common
pub bit-region : (w r r' q q' : ℕ) → q < word_bits * w → q' < word_bits * w → bit_at w r q ≡ bit_at w r' q' → r ≡ r'
bit-region w r r' q q' l l' e = go (dec_lt r r') (dec_lt r' r)
  where
    go : Dec (r < r') → Dec (r' < r) → r ≡ r'
    go (yes k) d = absurd (omega (arith, mul-le-mul_right w k, suc-mul r w))
    go (no k) (yes m) = absurd (omega (arith, mul-le-mul_right w m, suc-mul r' w))
    go (no k) (no m) = omega (arith, k, m)

module _ (s : Setting) where
  pub sets-has : (ws : List ℕ) (r : RegionName) (q : Point) → T (sets_of s ws r q) → has ws (bit_at s.width r q) ≡ true
  sets-has ws r q h = is_true _ (and_right (ltb q s.graph.points) (has ws (bit_at s.width r q)) h)

  pub sets_below : (ws : List ℕ) (r : RegionName) (q : Point) → T (sets_of s ws r q) → q < s.graph.points
  sets_below ws r q h = ltb→lt q s.graph.points (and_left (ltb q s.graph.points) (has ws (bit_at s.width r q)) h)

  pub has-sets : (ws : List ℕ) (r : RegionName) (q : Point) → q < s.graph.points → has ws (bit_at s.width r q) ≡ true → T (sets_of s ws r q)
  has-sets ws r q l e = and_intro (ltb q s.graph.points) (has ws (bit_at s.width r q)) (lt→ltb q s.graph.points l) (T_from_true _ e)

  -- the sets of words that keep every bit
  pub sets-kept : (ws ws' : List ℕ) → ((j : ℕ) → has ws j ≡ true → has ws' j ≡ true) → (r : RegionName) (q : Point) → T (sets_of s ws r q) → T (sets_of s ws' r q)
  sets-kept ws ws' kept r q h = has-sets ws' r q (sets_below ws r q h) (kept (bit_at s.width r q) (sets-has ws r q h))

  -- the sets as `nll_spec` has them
  pub sets_in_lem : (ws : List ℕ) → s.width ≡ word_count s.graph.points → sets_of s ws ≡ sets_in s.graph.points ws
  sets_in_lem ws e = ap (λ (w : ℕ). sets_at w s.graph.points ws) e

pub walk_mono : {g : Graph} (f f' : Point → Bool) {p q : Point} → ((x : Point) → T (f x) → T (f' x)) → Walk g f p q → Walk g f' p q
walk_mono f f' {p} h (begin t) = begin (h p t)
walk_mono f f' h (go_on {q = q} w n t) = go_on (walk_mono f f' h w) n (h q t)

-- a constraint that is met stays so where its inner set does not grow and its outer one loses nothing
pub met-stays : (s : Setting) (a b : Sets) (c : Outlives) → ((q : Point) → T (b c.sub q) → T (a c.sub q)) → ((q : Point) → T (a c.sup q) → T (b c.sup q))
    → Met s a c → Met s b c
met-stays s a b c down up m =
    record {
      points = λ q w. up q (m.points q (walk_mono (b c.sub) (a c.sub) down w));
      passed = λ q e w x lo hi pe. up e (m.passed q e (walk_mono (b c.sub) (a c.sub) down w) x lo hi (looser_same s.ends (b c.sub e) (a c.sub e) (down e) pe));
    }

-- ---- One run after another

pub no_member : {c : Outlives} → Member c [] → ⊥
no_member m = not-suc-le-zero (member_place no_constraint m).1

-- constraints that are passed by, as no inner set of theirs has a mark of the last round
pub ran-passed : (s : Setting) (last ws grew : List ℕ) {cs : List Outlives} → ((c : Outlives) → Member c cs → Marked last c.sub → ⊥) → Ran s last cs ws grew ws grew
ran-passed s last ws grew idle =
    record {
      as_long = refl;
      as_many = refl;
      fits = λ wf. wf;
      kept = λ j e. e;
      others = λ j h. refl;
      still = λ r m. m;
      marked = λ r q h. inl h;
      earned = λ r m. inl m;
      met = λ ready c m. ⊎_elim (λ k. inl k) (λ k. ⊎_elim (λ i. absurd (idle c m i)) (λ i. inr i) k) (ready c m);
      within = λ sets w met. w;
    }

pub ran-none : (s : Setting) (last ws grew : List ℕ) → Ran s last [] ws grew ws grew
ran-none s last ws grew = ran-passed s last ws grew (λ c m. absurd (no_member m))

-- a constraint that was met is met, or its inner set grew
carry : {s : Setting} {last ws grew ws' grew' : List ℕ} {cs : List Outlives} → Ran s last cs ws grew ws' grew' → (c : Outlives) → Met s (sets_of s ws) c
    → Met s (sets_of s ws') c ⊎ Marked grew' c.sub
carry {s} {last} {ws} {grew} {ws'} {grew'} ran c m = go (has grew' c.sub) refl
  where
    go : (b : Bool) → has grew' c.sub ≡ b → Met s (sets_of s ws') c ⊎ Marked grew' c.sub
    go true e = inr e
    go false e =
        inl (met-stays s (sets_of s ws) (sets_of s ws') c (λ q h. ⊎_elim (λ k. k) (λ k. absurd (true≢false (sym k ∙ e))) (ran.marked c.sub q h)) (sets-kept s ws ws' ran.kept c.sup) m)

-- a bit that is not there after a run was not there before
missed : {s : Setting} {last ws grew ws' grew' : List ℕ} {cs : List Outlives} → Ran s last cs ws grew ws' grew' → (j : ℕ) → has ws' j ≡ false → has ws j ≡ false
missed {ws = ws} ran j e = false_from_ne_true (has ws j) (λ q. true≢false (sym (ran.kept j q) ∙ e))

pub ran_append : {s : Setting} {last ws grew ws₁ grew₁ ws₂ grew₂ : List ℕ} {cs ds : List Outlives} → Ran s last cs ws grew ws₁ grew₁ → Ran s last ds ws₁ grew₁ ws₂ grew₂
    → Ran s last (cs ++ ds) ws grew ws₂ grew₂
ran_append {s} {last} {ws} {grew} {ws₁} {grew₁} {ws₂} {grew₂} {cs} {ds} x y =
    record {
      as_long = y.as_long ∙ x.as_long;
      as_many = y.as_many ∙ x.as_many;
      fits = λ wf. y.fits (x.fits wf);
      kept = λ j e. y.kept j (x.kept j e);
      others = λ j h. y.others j h ∙ x.others j h;
      still = λ r m. y.still r (x.still r m);
      marked = λ r q h. ⊎_elim (λ k. ⊎_elim (λ i. inl i) (λ i. inr (y.still r i)) (x.marked r q k)) (λ k. inr k) (y.marked r q h);
      earned = λ r m. ⊎_elim
          (λ k. ⊎_elim (λ i. inl i) (λ i. inr (i.0, i.1, i.2, y.kept (bit_at s.width r i.0) i.3)) (x.earned r k))
          (λ k. inr (k.0, k.1, missed x (bit_at s.width r k.0) k.2, k.3))
          (y.earned r m);
      met = λ ready c m. ⊎_elim (first ready c) (second ready c) (member_append cs ds m);
      within = λ sets w met. y.within sets (x.within sets w (λ c m. met c (member_left cs ds m))) (λ c m. met c (member_right cs ds m));
    }
  where
    first : AllReady s last ws grew (cs ++ ds) → (c : Outlives) → Member c cs → Met s (sets_of s ws₂) c ⊎ Marked grew₂ c.sub
    first ready c m = ⊎_elim (λ k. carry y c k) (λ k. inr (y.still c.sub k)) (x.met (λ d n. ready d (member_left cs ds n)) c m)

    later : (c : Outlives) → Ready s last ws grew c → Ready s last ws₁ grew₁ c
    later c (inl k) = ⊎_elim (λ i. inl i) (λ i. inr (inr i)) (carry x c k)
    later c (inr (inl k)) = inr (inl k)
    later c (inr (inr k)) = inr (inr (x.still c.sub k))

    second : AllReady s last ws grew (cs ++ ds) → (c : Outlives) → Member c ds → Met s (sets_of s ws₂) c ⊎ Marked grew₂ c.sub
    second ready c m = y.met (λ d n. later d (ready d (member_right cs ds n))) c m

-- The marks of two rows in one.
pub record Joined (a b ab : List ℕ) : Type 0 where
  pub as_long : length ab ≡ length a
  pub left : (r : RegionName) → Marked a r → Marked ab r
  pub right : (r : RegionName) → Marked b r → Marked ab r
  pub either : (r : RegionName) → Marked ab r → Marked a r ⊎ Marked b r

-- some of the constraints are run again, from no marks on
pub ran_again : {s : Setting} {last last' ws grew ws₁ grew₁ ws₂ none next grew₂ : List ℕ} {cs ds : List Outlives} → Ran s last cs ws grew ws₁ grew₁ → Ran s last' ds ws₁ none ws₂ next
    → ((r : RegionName) → Marked none r → ⊥) → ((c : Outlives) → Member c ds → Member c cs) → Joined grew₁ next grew₂ → Ran s last cs ws grew ws₂ grew₂
ran_again {s} x y blank among j =
    record {
      as_long = y.as_long ∙ x.as_long;
      as_many = j.as_long ∙ x.as_many;
      fits = λ wf. y.fits (x.fits wf);
      kept = λ k e. y.kept k (x.kept k e);
      others = λ k h. y.others k h ∙ x.others k h;
      still = λ r m. j.left r (x.still r m);
      marked = λ r q h. ⊎_elim (λ k. ⊎_elim (λ i. inl i) (λ i. inr (j.left r i)) (x.marked r q k)) (λ k. inr (j.right r k)) (y.marked r q h);
      earned = λ r m. ⊎_elim
          (λ k. ⊎_elim (λ i. inl i) (λ i. inr (i.0, i.1, i.2, y.kept (bit_at s.width r i.0) i.3)) (x.earned r k))
          (λ k. ⊎_elim (λ i. absurd (blank r i)) (λ i. inr (i.0, i.1, missed x (bit_at s.width r i.0) i.2, i.3)) (y.earned r k))
          (j.either r m);
      met = λ ready c m. ⊎_elim (λ k. ⊎_elim (λ i. inl i) (λ i. inr (j.right c.sub i)) (carry y c k)) (λ k. inr (j.left c.sub k)) (x.met ready c m);
      within = λ sets w met. y.within sets (x.within sets w met) (λ c m. met c (among c m));
    }

-- what is handed in to the next run
pub given-kept : {s : Setting} {g : Setup} {last ws grew ws' grew' : List ℕ} {cs : List Outlives} → Given s g ws grew → Ran s last cs ws grew ws' grew' → Given s g ws' grew'
given-kept g ran =
    record {
      edges = g.edges;
      code = g.code;
      points = g.points;
      width = g.width;
      linked = g.linked;
      ends = g.ends;
      wide = g.wide;
      narrow = g.narrow;
      few = g.few;
      room = rw ran.as_long g.room;
      marks = ran.as_many ∙ g.marks;
    }

-- ---- A round

module _ (s : Setting) where
  -- before the first round, with every region marked
  pub first_ready : (last ws grew : List ℕ) (cs : List Outlives) → ((r : RegionName) → r < s.regions → Marked last r) → AllNamed s cs
      → AllReady s last ws grew cs
  first_ready last ws grew cs all named c m = inr (inl (all c.sub (named c m).sub))

  -- before the next one, with the marks of this one, whatever marks it begins with
  pub next_ready : {last ws grew ws' grew' : List ℕ} {cs : List Outlives} → Ran s last cs ws grew ws' grew' → AllReady s last ws grew cs → (blank : List ℕ) → AllReady s grew' ws' blank cs
  next_ready ran ready blank c m = ⊎_elim (λ k. inl k) (λ k. inr (inl k)) (ran.met ready c m)

  -- after a round without a mark every constraint is met
  pub quiet-met : {last ws grew ws' grew' : List ℕ} {cs : List Outlives} → Ran s last cs ws grew ws' grew' → AllReady s last ws grew cs → Quiet s grew'
      → AllNamed s cs → (c : Outlives) → Member c cs → Met s (sets_of s ws') c
  quiet-met ran ready quiet named c m = ⊎_elim (λ k. k) (λ k. absurd (true≢false (sym k ∙ quiet c.sub (named c m).sub))) (ran.met ready c m)

  -- and the words are as before
  pub quiet_same : {last ws grew ws' grew' : List ℕ} {cs : List Outlives} → Ran s last cs ws grew ws' grew' → Words ws → Quiet s grew' → ws' ≡ ws
  quiet_same {last} {ws} {grew} {ws'} {grew'} ran wf quiet = words_ext ws' ws (ran.fits wf) wf ran.as_long λ j h. go j (has ws' j) (has ws j) refl refl
    where
      -- a bit that is new is no region's, since none is marked
      none : (j : ℕ) → has ws j ≡ false → has ws' j ≡ true → (r : RegionName) (q : Point) → r < s.regions → q < s.graph.points → j ≡ bit_at s.width r q → ⊥
      none j ea eb r q lr lq e =
          ⊎_elim (λ k. true≢false (sym (sets-has s ws r q k) ∙ ap (has ws) (sym e) ∙ ea)) (λ k. true≢false (sym k ∙ quiet r lr)) (ran.marked r q (has-sets s ws' r q lq (ap (has ws') (sym e) ∙ eb)))

      go : (j : ℕ) (a b : Bool) → has ws' j ≡ a → has ws j ≡ b → a ≡ b
      go j true true ea eb = refl
      go j false false ea eb = refl
      go j false true ea eb = sym ea ∙ ran.kept j eb
      go j true false ea eb = sym ea ∙ ran.others j (none j eb ea) ∙ eb

  -- a round that marks a region leaves fewer 0 bits
  pub ran-less : {last ws grew ws' grew' : List ℕ} {cs : List Outlives} → Ran s last cs ws grew ws' grew' → (r : RegionName) → has grew r ≡ false → Marked grew' r → missing ws' < missing ws
  ran-less {last} {ws} {grew} {ws'} {grew'} ran r blank m =
      ⊎_elim (λ k. absurd (true≢false (sym k ∙ blank))) (λ k. missing_lt ws ws' ran.as_long ran.kept (bit_at s.width r k.0) k.2 k.3) (ran.earned r m)

  -- what is run adds, and takes nothing away
  pub ran_le : {last ws grew ws' grew' : List ℕ} {cs : List Outlives} → Ran s last cs ws grew ws' grew' → missing ws' ≤ missing ws
  ran_le {last} {ws} {grew} {ws'} ran = missing_le ws ws' ran.as_long ran.kept

-- ---- The test for marks

-- it finds a mark, or there is none
pub found-mark : (grew : List ℕ) (n : ℕ) → any_marked grew n ≡ true → (r : RegionName) × (r < n) × Marked grew r
unfolding any_marked
found-mark grew zero e = absurd (true≢false (sym e))
found-mark grew (suc n) e = go (any_marked grew n) refl (found-mark grew n)
  where
    go : (b : Bool) → any_marked grew n ≡ b → (any_marked grew n ≡ true → (r : RegionName) × (r < n) × Marked grew r) → (r : RegionName) × (r < suc n) × Marked grew r
    go true q f = let w = f q in (w.0, omega (arith, w.1), w.2)
    go false q f = (n, omega arith, ap (λ (b : Bool). b || has grew n) (sym q) ∙ e)

pub no_marks_lem : (grew : List ℕ) (n : ℕ) → any_marked grew n ≡ false → (r : RegionName) → r < n → has grew r ≡ false
unfolding any_marked
no_marks_lem grew zero e r l = absurd (omega arith)
no_marks_lem grew (suc n) e r l = go (any_marked grew n) (has grew n) refl refl (ℕ_discrete r n) (no_marks_lem grew n)
  where
    go : (a b : Bool) → any_marked grew n ≡ a → has grew n ≡ b → Dec (r ≡ n) → (any_marked grew n ≡ false → (k : RegionName) → k < n → has grew k ≡ false) → has grew r ≡ false
    go true b ea eb d f = absurd (true≢false (sym (ap (λ (x : Bool). x || has grew n) ea) ∙ e))
    go false true ea eb d f = absurd (true≢false (sym eb ∙ ap (λ (x : Bool). x || has grew n) (sym ea) ∙ e))
    go false false ea eb (yes q) f = ap (has grew) q ∙ eb
    go false false ea eb (no q) f = f ea r (omega (arith, q))

-- a word is not 0 exactly if it has a mark
pub any-marked : (grew : List ℕ) {r : Bool} → length grew ≡ 4 → Words grew → SomeSet grew 0 4 r → r ≡ any_marked grew 128
any-marked grew {r} size wf x = go r (any_marked grew 128) refl refl
  where
    go : (a b : Bool) → r ≡ a → any_marked grew 128 ≡ b → a ≡ b
    go true true ea eb = refl
    go false false ea eb = refl
    go true false ea eb =
        let zero : grew ≡ replicate 4 0 = words_ext grew (replicate 4 0) wf (λ k. rw (no_mark 4 k) (omega arith)) size (λ j l. no_marks_lem grew 128 eb j (omega (arith, l, size)) ∙ sym (has-zeros 4 j)) in
        absurd (⊎_elim (λ l. omega (arith, l, size)) (λ k. k.2 (ap (λ (ws : List ℕ). get_or ws (0 + k.0) 0) zero ∙ no_mark 4 (0 + k.0))) (x.some ea))
    go false true ea eb =
        let (m, l, k) = found-mark grew 128 eb in
        let z : word_bits * 0 + m ≡ m = omega arith in
        absurd (true≢false (sym k ∙ ap (has grew) (sym z) ∙ x.none ea m (omega (arith, l))))

pub quiet_none : (s : Setting) (grew : List ℕ) → s.regions ≤ 128 → any_marked grew 128 ≡ false → Quiet s grew
quiet_none s grew few e r l = no_marks_lem grew 128 e r (omega arith)

-- ---- Rounds

module _ (s : Setting) (cs : List Outlives) where
  pub rounds_none : (ws : List ℕ) → Rounds s cs ws ws
  rounds_none ws = record { as_long = refl; fits = λ wf. wf; kept = λ j e. e; others = λ j h. refl; within = λ sets w met. w }

  pub rounds_more : {last ws ws₁ grew ws₂ grew₂ : List ℕ} → Rounds s cs ws ws₁ → Ran s last cs ws₁ grew ws₂ grew₂ → Rounds s cs ws ws₂
  rounds_more x y =
      record {
        as_long = y.as_long ∙ x.as_long;
        fits = λ wf. y.fits (x.fits wf);
        kept = λ j e. y.kept j (x.kept j e);
        others = λ j h. y.others j h ∙ x.others j h;
        within = λ sets w met. y.within sets (x.within sets w met) met;
      }

  -- a bit past the points, in a region's words, is as it was
  pub rounds_unused : {ws ws' : List ℕ} → Rounds s cs ws ws' → s.graph.points ≤ word_bits * s.width → (r : RegionName) (p : Point) → s.graph.points ≤ p → p < word_bits * s.width
      → has ws' (bit_at s.width r p) ≡ has ws (bit_at s.width r p)
  rounds_unused x wide r p lo hi =
      x.others (bit_at s.width r p)
      λ k q lk lq e.
      let z : r ≡ k = bit-region s.width r k p q hi (omega arith) e in
      let e' : bit_at s.width k p ≡ bit_at s.width k q = ap (λ (i : ℕ). bit_at s.width i p) (sym z) ∙ e in
      omega arith

  -- Rounds from words that hold exactly the seeds, after which every constraint is met, end in the least sets.
  pub rounds_least : {ws ws' : List ℕ} (seed : RegionName → Point → Type 0)
      → ((r : RegionName) (q : Point) → r < s.regions → seed r q → T (sets_of s ws r q))
      → ((r : RegionName) (q : Point) → r < s.regions → T (sets_of s ws r q) → seed r q)
      → Rounds s cs ws ws' → ((c : Outlives) → Member c cs → Met s (sets_of s ws') c)
      → LeastSolution s.ends s.graph s.regions seed (λ c. Member c cs) (sets_of s ws')
  rounds_least {ws} {ws'} seed all only x met =
      record {
        solves = record { seeded = λ r q l h. sets-kept s ws ws' x.kept r q (all r q l h); met = met };
        smallest = λ others o. x.within others (λ r q l h. o.seeded r q l (only r q l h)) o.met;
      }

  -- The last round, which marks nothing.
  pub solved : {last ws ws₁ grew ws₂ grew₂ : List ℕ} (seed : RegionName → Point → Type 0)
      → ((r : RegionName) (q : Point) → r < s.regions → seed r q → T (sets_of s ws r q))
      → ((r : RegionName) (q : Point) → r < s.regions → T (sets_of s ws r q) → seed r q)
      → AllNamed s cs
      → Rounds s cs ws ws₁ → AllReady s last ws₁ grew cs → Ran s last cs ws₁ grew ws₂ grew₂ → Quiet s grew₂
      → LeastSolution s.ends s.graph s.regions seed (λ c. Member c cs) (sets_of s ws₂)
  solved seed all only named x ready y quiet = rounds_least seed all only (rounds_more x y) (quiet-met s y ready quiet named)
