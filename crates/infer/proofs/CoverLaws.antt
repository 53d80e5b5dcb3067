-- The laws of `is_covered` and `Covered`: a walk that the words show to stay within the outer set puts nothing new. Assumes nothing.
use mathlib.Core.Path.{◌≡◌, sym, ap, ◌∙◌}
use mathlib.Core.Logic.{inl, inr}
use mathlib.Core.Bool.{Bool, true, false, true≢false}
use mathlib.Core.List.{List}
use Prim.Native.Nat.{ℕ, ◌+◌, ◌*◌, ◌/◌, ◌%◌, ◌^◌, ◌≤◌, ◌<◌, max}
use native.Mathlib.Nat.{le-max_right, div-eq_of_lt}
use native.Mathlib.Decide.{ℕ_discrete}
use native.Mathlib.Omega.{arith}
use lib.ListN.{length, get_or}
use lib.Bits.{bit_or}
use lib.Dec.{eqb, ltb}
use borrow.Author.Tests.{eqb-true, eq-eqb}
use Rattle.nll_spec.specs.Output.{word_bits}
use Rattle.bit_set.specs.Bits.{has, or_word}
use Rattle.bit_set.proofs.BitLaws.{digit, digit_lt, digit_or, place}
use Rattle.bit_set.proofs.RunLaws.{and_true_left, and_true_right}
use Rattle.graph.specs.Tables.{Edge, row_end}
use Rattle.dfs.proofs.ChainLaws.{up_to_le}
use Rattle.dfs.specs.Walk.{in_code, Reach, here, step}
use Rattle.infer.specs.Search.{Linked, Gets, is_covered, Covered}
use Rattle.infer.specs.declared.Setup.{Setup}
use Rattle.dfs.proofs.SearchLaws.{reach_held}

-- ---- Words

-- a digit of b is one of a, where a has all digits of b
digit_in : (a b i : ℕ) → a ≡ bit_or a b → eqb (digit b i) 1 ≡ true → eqb (digit a i) 1 ≡ true
digit_in a b i e h =
    let one : digit b i ≡ 1 = eqb-true _ _ h in
    let d : digit a i ≡ max (digit a i) (digit b i) = ap (λ (w : ℕ). digit w i) e ∙ digit_or a b i in
    eq-eqb (digit a i) 1 (omega (arith, d, one, le-max_right (digit a i) (digit b i), digit_lt a i))

-- number q of the set that starts at word s, by the word that it is in
has-digit : (ws : List ℕ) (s k q : ℕ) → q / word_bits ≡ k → has ws (word_bits * s + q) ≡ eqb (digit (get_or ws (s + k) 0) (q % word_bits)) 1
has-digit ws s k q e = ap (λ (b : ℕ). eqb b 1) (place ws s q) ∙ ap (λ (i : ℕ). eqb (digit (get_or ws (s + i) 0) (q % word_bits)) 1) e

-- a word below 2 ^ 31 lacks its last number
last-missing : (ws : List ℕ) (s k : ℕ) → get_or ws (s + k) 0 < 2147483648 → has ws (word_bits * s + (word_bits * k + 31)) ≡ false
last-missing ws s k l =
    let q : (word_bits * k + 31) / word_bits ≡ k = omega arith in
    let r : (word_bits * k + 31) % word_bits ≡ 31 = omega arith in
    let z : get_or ws (s + k) 0 / 2 ^ 31 ≡ 0 = div-eq_of_lt l in
    has-digit ws s k (word_bits * k + 31) q ∙ ap (λ (i : ℕ). eqb (digit (get_or ws (s + k) 0) i) 1) r ∙ ap (λ (d : ℕ). eqb (d % 2) 1) z

module _ (chain ws : List ℕ) (from to k : ℕ) (e : is_covered chain ws from to k ≡ true) (q : ℕ) (w : q / word_bits ≡ k) (h : has ws (word_bits * from + q) ≡ true) where
  inner : eqb (digit (get_or ws (from + k) 0) (q % word_bits)) 1 ≡ true
  inner = sym (has-digit ws from k q w) ∙ h

  word_held : has ws (word_bits * to + q) ≡ true
  word_held =
      has-digit ws to k q w ∙ digit_in (get_or ws (to + k) 0) (get_or ws (from + k) 0) (q % word_bits) (eqb-true _ _ (and_true_left (eqb (get_or ws (to + k) 0) (or_word ws to ws from k)) _ e)) inner

  word_linked : has chain q ≡ true
  word_linked =
      ap (λ (i : ℕ). eqb (digit (get_or chain i 0) (q % word_bits)) 1) w
      ∙ digit_in (get_or chain k 0) (get_or ws (from + k) 0) (q % word_bits) (eqb-true _ _ (and_true_right (eqb (get_or ws (to + k) 0) (or_word ws to ws from k)) (eqb (get_or chain k 0) (bit_or (get_or chain k 0) (get_or ws (from + k) 0))) e)) inner

-- ---- The loop

-- what holds before word k is looked at, where the first was word `start`
pub record Covering (chain ws : List ℕ) (from to width start k : ℕ) : Type 0 where
  pub up : start ≤ k
  pub into : to + width ≤ length ws
  pub inside : from + width ≤ length ws
  pub linked : (q : ℕ) → start ≤ q / word_bits → q / word_bits < k → has ws (word_bits * from + q) ≡ true → has chain q ≡ true
  pub held : (q : ℕ) → start ≤ q / word_bits → q / word_bits < k → has ws (word_bits * from + q) ≡ true → has ws (word_bits * to + q) ≡ true

module _ (chain ws : List ℕ) (from to width start : ℕ) where
  pub cover_more : (k : ℕ) (b : Bool) → Covering chain ws from to width start k → b ≡ is_covered chain ws from to k → b ≡ true → Covering chain ws from to width start (k + 1)
  cover_more k b c e t =
      let f = sym e ∙ t in
      record {
        up = omega (arith, c.up);
        into = c.into;
        inside = c.inside;
        linked = λ q u v h. elim (ℕ_discrete (q / word_bits) k) [ yes w ↦ word_linked chain ws from to k f q w h | no w ↦ c.linked q u (omega (arith, v, w)) h ];
        held = λ q u v h. elim (ℕ_discrete (q / word_bits) k) [ yes w ↦ word_held chain ws from to k f q w h | no w ↦ c.held q u (omega (arith, v, w)) h ];
      }

  pub cover_done : (k : ℕ) (b : Bool) → Covering chain ws from to width start k → b ≡ is_covered chain ws from to k → b ≡ true → get_or ws (from + k) 0 < 2147483648
      → Covered chain ws from to start
  cover_done k b c e t l =
      let d = cover_more k b c e t in
      record {
        last = k;
        up = c.up;
        linked = λ q u v h. d.linked q u (omega (arith, v)) h;
        held = λ q u v h. d.held q u (omega (arith, v)) h;
        stops = last-missing ws from k l;
      }

-- ---- What a constraint puts

module _ (g : Setup) (ws : List ℕ) (from to p : ℕ) (chained : Linked g) (c : Covered g.chain.now ws from to (p / word_bits)) where
  abbrev Reached : ℕ → Type 0
  Reached = Reach (Edge g.graph.now.first g.graph.now.succ) (in_code ws from g.shape.code) p

  in_set_lem : {q : ℕ} → Reached q → has ws (word_bits * from + q) ≡ true
  in_set_lem {q} r = and_true_right (ltb q g.shape.code) (has ws (word_bits * from + q)) (reach_held r)

  -- a walk stays in the words that were looked at
  reach_near : {q : ℕ} → Reached q → (p / word_bits ≤ q / word_bits) × (q / word_bits ≤ c.last)
  reach_near (here h) = (omega arith, c.up)
  reach_near (step {q = q} {s = s} r e h) =
      let n = reach_near r in
      let t = in_set_lem r in
      let f : s ≡ q + 1 = (chained.links q (c.linked q n.0 n.1 t)).alone s e in
      go f n t (ℕ_discrete q (word_bits * c.last + 31))
    where
      go : s ≡ q + 1 → (p / word_bits ≤ q / word_bits) × (q / word_bits ≤ c.last) → has ws (word_bits * from + q) ≡ true → Dec (q ≡ word_bits * c.last + 31)
          → (p / word_bits ≤ s / word_bits) × (s / word_bits ≤ c.last)
      go f n t (yes w) = absurd (true≢false (sym t ∙ ap (λ (x : ℕ). has ws (word_bits * from + x)) w ∙ c.stops))
      go f n t (no w) = (omega (arith, f, n.0), omega (arith, f, n.1, w))

  pub covered_nothing : (q : ℕ) → Gets g ws from p q → has ws (word_bits * to + q) ≡ true
  covered_nothing q (inl r) = let n = reach_near r in c.held q n.0 n.1 (in_set_lem r)
  covered_nothing q (inr e) =
      let x : ℕ = e.3.0 in
      let r = e.3.1 in
      let n = reach_near r in
      let w = (chained.links x (c.linked x n.0 n.1 (in_set_lem r))).next in
      absurd (omega (arith, w.1, w.2, e.3.2, up_to_le (row_end g.graph.now.first x)))
