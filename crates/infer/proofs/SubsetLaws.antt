-- The laws of `is_subset`, `has_run` and `adds_nothing`: where nothing is put, what a constraint puts into its outer set is there. Assumes nothing.
use mathlib.Core.Path.{◌≡◌, refl, sym, ap, ◌∙◌}
use mathlib.Core.Logic.{inl, inr}
use mathlib.Core.Bool.{Bool, true, false, not, ◌||◌, true≢false}
use mathlib.Core.List.{List, [], ◌∷◌, ◌++◌}
use Prim.Native.Nat.{ℕ, zero, suc, ◌+◌, ◌-◌, ◌*◌, ◌≤◌, ◌<◌}
use native.Mathlib.Decide.{ℕ_discrete}
use native.Mathlib.Omega.{arith}
use lib.ListN.{length, get_or, take, drop, length-take}
use lib.Seq.{get_or-take, get_or-drop}
use lib.Dec.{eqb, ltb}
use Rattle.std.specs.Bool.{MatchBool}
use Rattle.std.specs.Int.Bits.{bit_or}
use Rattle.std.specs.List.{range_with_len, AllWithin, HoldsAt}
use Rattle.std.proofs.lemmas.List.{length-append}
use Rattle.std.proofs.lemmas.List.FromFn.{length-range_with_len, get_or-range_with_len}
use Rattle.nll_spec.specs.Regions.{EndRule, every_end, held_ends, passes_end}
use Rattle.nll_spec.specs.Output.{word_bits}
use Rattle.bit_set.specs.Bits.{has, or_grows, both_fit}
use Rattle.bit_set.proofs.RunLaws.{and_true_left, and_true_right, both_into, both_from, joined_yes}
use Rattle.bit_set.proofs.SetLaws.{new-grows}
use Rattle.infer.specs.Search.{rule_of, Gets, is_subset, has_run, has_ends, adds_nothing}
use Rattle.infer.specs.declared.Setup.{Setup}
use Rattle.dfs.proofs.SearchLaws.{reach_held, code_below}

-- ---- Words

-- what `&words[start..end]` lends
abbrev pub run : List ℕ → ℕ → ℕ → List ℕ
run ws start end = take (end - start) (drop start ws)

-- one turn more: w and v are the next words of the two runs
pub compare_more : {A : Type 0} (ws : List ℕ) (from to n w v : ℕ) (lacks : Bool) (xs : List A) (x : A) → lacks ≡ or_grows ws to ws from (length xs) → length xs < length (run ws from (from + n))
    → length xs < length (run ws to (to + n)) → w ≡ get_or (run ws from (from + n)) (length xs) 0 → v ≡ get_or (run ws to (to + n)) (length xs) 0
    → (lacks || not (eqb v (bit_or v w))) ≡ or_grows ws to ws from (length (xs ++ x ∷ []))
compare_more ws from to n w v lacks xs x e lw lv ew ev =
    let k = length xs in
    let a : w ≡ get_or ws (from + k) 0 = ew ∙ get_or-take (from + n - from) (drop from ws) k 0 (omega (arith, lw, length-take (from + n - from) (drop from ws))) ∙ get_or-drop from ws k 0 in
    let b : v ≡ get_or ws (to + k) 0 = ev ∙ get_or-take (to + n - to) (drop to ws) k 0 (omega (arith, lv, length-take (to + n - to) (drop to ws))) ∙ get_or-drop to ws k 0 in
    let m : length (xs ++ x ∷ []) ≡ suc k = omega (arith, length-append xs (x ∷ [])) in
    rw (a, b, e, m) refl

module _ (ws : List ℕ) (from to n : ℕ) where
  -- each number of the run from `from` is in the run from `to`
  pub subset_has : is_subset ws from to n ≡ true → (p : ℕ) → p < word_bits * n → has ws (word_bits * from + p) ≡ true → has ws (word_bits * to + p) ≡ true
  subset_has e p l h = go (has ws (word_bits * to + p)) refl
    where
      fit : both_fit ws to ws from n ≡ true
      fit = and_true_left (both_fit ws to ws from n) (not (or_grows ws to ws from n)) e

      none : not (or_grows ws to ws from n) ≡ true
      none = and_true_right (both_fit ws to ws from n) (not (or_grows ws to ws from n)) e

      go : (b : Bool) → has ws (word_bits * to + p) ≡ b → has ws (word_bits * to + p) ≡ true
      go true q = q
      go false q =
          let g : or_grows ws to ws from n ≡ true = sym (joined_yes ws to ws from n fit).1 ∙ new-grows ws to ws from n (both_into ws to ws from n fit) (both_from ws to ws from n fit) p l q h in
          absurd (true≢false (sym none ∙ ap not g))

-- ---- Ends

module _ (ws : List ℕ) (to a : ℕ) where
  run_has : (n : ℕ) → has_run ws to a n ≡ true → (x : ℕ) → a ≤ x → x < a + n → has ws (word_bits * to + x) ≡ true
  unfolding has_run
  run_has zero e x l h = absurd (omega arith)
  run_has (suc n) e x l h = go (ℕ_discrete x (a + n)) (run_has n (and_true_left (has_run ws to a n) _ e) x l)
    where
      go : Dec (x ≡ a + n) → (x < a + n → has ws (word_bits * to + x) ≡ true) → has ws (word_bits * to + x) ≡ true
      go (yes q) r = rw q (and_true_right (has_run ws to a n) (has ws (word_bits * to + (a + n))) e)
      go (no q) r = r (omega (arith, q))

  run_holds : (n : ℕ) → ((k : ℕ) → k < n → has ws (word_bits * to + (a + k)) ≡ true) → true ≡ has_run ws to a n
  unfolding has_run
  run_holds zero h = refl
  run_holds (suc n) h = rw (← run_holds n (λ k l. h k (omega (arith, l))), h n (omega arith)) refl

  -- what `all` shows of the numbers from a on
  pub run_all : (n : ℕ) (r : Bool)
      → MatchBool r (AllWithin (λ x. has ws (word_bits * to + x) ≡ true) (range_with_len a n) 0 (length (range_with_len a n))) ((k : ℕ) × (k < length (range_with_len a n)) × HoldsAt (λ x. has ws (word_bits * to + x) ≡ false) (range_with_len a n) k)
      → r ≡ has_run ws to a n
  run_all n true h = run_holds n (λ k l. rw (← get_or-range_with_len a n k 0 l) (h k 0 (omega arith) (omega (arith, l, length-range_with_len a n))))
  run_all n false h = go (has_run ws to a n) refl
    where
      k : ℕ
      k = h.0

      l : k < n
      l = omega (arith, h.1, length-range_with_len a n)

      go : (b : Bool) → has_run ws to a n ≡ b → false ≡ has_run ws to a n
      go true q = absurd (true≢false (sym (run_has n q (a + k) (omega arith) (omega (arith, l))) ∙ rw (← get_or-range_with_len a n k 0 l) (h.2 0)))
      go false q = sym q

-- an end that is passed on is in the outer set
ends-has : (rule : EndRule) (ws : List ℕ) (to code points : ℕ) (held : Bool) → (not (passes_end rule false) || has_run ws to code (points - code)) ≡ true → (e : ℕ) → code ≤ e → e < points
    → passes_end rule held ≡ true → (held ≡ true → has ws (word_bits * to + e) ≡ true) → has ws (word_bits * to + e) ≡ true
ends-has every_end ws to code points held h e lo hi p inner = run_has ws to code (points - code) h e lo (omega arith)
ends-has held_ends ws to code points held h e lo hi p inner = inner p

-- ---- What a constraint puts

pub nothing_new : (g : Setup) (ws : List ℕ) (to from p : ℕ) → adds_nothing g ws to from ≡ true → g.shape.code ≤ g.shape.points → g.shape.points ≤ word_bits * g.shape.width
    → (q : ℕ) → Gets g ws from p q → has ws (word_bits * to + q) ≡ true
nothing_new g ws to from p e lc lw q got = go got
  where
    ends : has_ends g ws to ≡ true
    ends = and_true_right (is_subset ws from to g.shape.width) (has_ends g ws to) e

    inner : (q : ℕ) → q < g.shape.points → has ws (word_bits * from + q) ≡ true → has ws (word_bits * to + q) ≡ true
    inner q l h = subset_has ws from to g.shape.width (and_true_left (is_subset ws from to g.shape.width) (has_ends g ws to) e) q (omega arith) h

    go : Gets g ws from p q → has ws (word_bits * to + q) ≡ true
    go (inl r) =
        let l : q < g.shape.code = code_below ws from g.shape.code q (reach_held r) in
        inner q (omega arith) (and_true_right (ltb q g.shape.code) (has ws (word_bits * from + q)) (reach_held r))
    go (inr r) = ends-has (rule_of g.rule) ws to g.shape.code g.shape.points (has ws (word_bits * from + q)) ends q r.0 r.1 r.2 (inner q r.1)
