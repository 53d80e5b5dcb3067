-- Rows of absent regions: what is put into a row, and a set whose regions are all in it. Assumes nothing.
use mathlib.Core.Path.{◌≡◌, refl, sym, ap, ◌∙◌}
use mathlib.Core.Logic.{◌⊎◌, inl, inr, ⊎_elim}
use mathlib.Core.Bool.{Bool, true, false, ◌&&◌, ◌||◌, true≢false}
use mathlib.Core.List.{List}
use Prim.Native.Nat.{ℕ, zero, suc, ◌+◌, ◌*◌, ◌/◌, ◌%◌, ◌≤◌, ◌<◌}
use native.Mathlib.Omega.{arith}
use native.Mathlib.Decide.{ℕ_discrete, dec_lt}
use lib.ListN.{length, get_or}
use lib.Dec.{eqb}
use lib.Bits.{bit_and}
use borrow.Author.Tests.{eqb-true, eqb-false, eq-eqb, not-true, lt-ltb}
use Rattle.std.specs.List.{list_all, range_with_len}
use Rattle.nll_spec.specs.Syntax.{Point, RegionName}
use Rattle.nll_spec.specs.Output.{word_bits}
use Rattle.nll_spec.specs.Meaning.{bit_of}
use Rattle.bit_set.specs.Bits.{has, joined}
use Rattle.bit_set.proofs.BitLaws.{digit, both_digits, place}
use Rattle.bit_set.proofs.RunLaws.{and_true_left, and_true_right}
use Rattle.bit_set.proofs.SetLaws.{length-joined, has-joined, has-joined_other}
use Rattle.constraint_list.specs.Listed.{count_in}
use Rattle.absent_regions.specs.Absent.{row_bit, has_row, inner_at, Absent, is_absent, words_in, all_in, AbsentBelow, Puts, AllIn}
use Rattle.absent_regions.proofs.MarkLaws.{one_of}

-- ---- What is put into a row

-- what `is_absent` shows
absent : (ls : List ℕ) (n : ℕ) (x : RegionName) → is_absent ls n x ≡ true → (i : ℕ) → i < n → inner_at ls i ≡ x → ⊥
unfolding is_absent
absent ls zero x e i l q = omega arith
absent ls (suc n) x e i l q =
    elim (ℕ_discrete i n) [
      | yes s ↦ eqb-false (inner_at ls n) x (not-true _ (and_true_right (is_absent ls n x) _ e)) (ap (inner_at ls) (sym s) ∙ q)
      | no s ↦ absent ls n x (and_true_left (is_absent ls n x) _ e) i (omega arith) q
    ]

module _ (ls : List ℕ) (p : Point) (t : List ℕ) where
  module _ {set : List ℕ} (a : AbsentBelow ls (count_in ls) set) (l : p < length t / 4) where
    abbrev after : List ℕ
    after = joined t (4 * p) set 0 4

    row : (x : RegionName) → x < 128 → has after (row_bit p x) ≡ (has t (row_bit p x) || is_absent ls (count_in ls) x)
    row x m =
        has-joined t (4 * p) set 0 4 (omega (arith, l)) (omega (arith, a.sized)) x (omega (arith, m))
        ∙ ap (λ (b : Bool). has t (row_bit p x) || b) (ap (has set) (omega arith) ∙ a.is x m)

    only : (q : Point) (x : RegionName) → x < 128 → has after (row_bit q x) ≡ true → Dec (q ≡ p) → (has t (row_bit q x) ≡ true) ⊎ ((q ≡ p) × Absent ls x)
    only q x m h (yes e) =
        ⊎_elim (λ z. inl (rw e z)) (λ z. inr (e, absent ls (count_in ls) x z)) (one_of _ _ (sym (row x m) ∙ ap (λ (y : Point). has after (row_bit y x)) (sym e) ∙ h))
    only q x m h (no n) = inl (sym (has-joined_other t (4 * p) set 0 4 (row_bit q x) (elsewhere (dec_lt q p))) ∙ h)
      where
        elsewhere : Dec (q < p) → (row_bit q x < word_bits * (4 * p)) ⊎ (word_bits * (4 * p + 4) ≤ row_bit q x)
        elsewhere (yes k) = inl (omega (arith, k, m))
        elsewhere (no k) = inr (omega (arith, k, n))

    pub puts : Puts ls p t after
    puts =
        record {
          as_long = length-joined t (4 * p) set 0 4;
          only = λ q x m h. only q x m h (ℕ_discrete q p);
          row = λ e. row;
          others = λ j h. has-joined_other t (4 * p) set 0 4 j (⊎_elim (λ z. inl (omega (arith, z))) (λ z. inr (omega (arith, z))) h);
          past = λ e. absurd (true≢false (sym (lt-ltb p (length t / 4) l) ∙ e));
        }

-- ---- A set whose regions are all in a row

module _ (t : List ℕ) (p : Point) (set : List ℕ) where
  -- word k of the set has no region that the row lacks
  abbrev pub word_in : ℕ → Bool
  word_in k = eqb (bit_and (get_or set k 0) (get_or t (4 * p + k) 0)) (get_or set k 0)

  pub all_words : list_all word_in (range_with_len 0 4) ≡ words_in t p set 4
  unfolding words_in
  all_words = go (word_in 0) (word_in 1) (word_in 2) (word_in 3)
    where
      go : (a b c d : Bool) → (a && (b && (c && (d && true)))) ≡ ((((true && a) && b) && c) && d)
      go false b c d = refl
      go true false c d = refl
      go true true false d = refl
      go true true true false = refl
      go true true true true = refl

  word : (n : ℕ) → words_in t p set n ≡ true → (k : ℕ) → k < n → bit_and (get_or set k 0) (get_or t (4 * p + k) 0) ≡ get_or set k 0
  unfolding words_in
  word zero e k l = absurd (omega arith)
  word (suc n) e k l =
      elim (ℕ_discrete k n) [
        | yes q ↦ rw q (eqb-true _ _ (and_true_right (words_in t p set n) _ e))
        | no q ↦ word n (and_true_left (words_in t p set n) _ e) k (omega arith)
      ]

  is_all : {r : Bool} → r ≡ all_in t p set → AllIn t p set r
  is_all e = record { held = λ y x m h. held (and_true_right (has_row t p) _ (sym e ∙ y)) x m h; is = e }
    where
      held : words_in t p set 4 ≡ true → (x : RegionName) → x < 128 → has set x ≡ true → has t (row_bit p x) ≡ true
      held w x m h =
          let b : digit (get_or set (x / word_bits) 0) (x % word_bits) ≡ 1 = eqb-true (bit_of set x) 1 h in
          let a = word 4 w (x / word_bits) (omega arith) in
          eq-eqb (bit_of t (row_bit p x)) 1
          (place t (4 * p) x ∙ (both_digits (get_or set (x / word_bits) 0) (get_or t (4 * p + x / word_bits) 0) (x % word_bits) (ap (λ (y : ℕ). digit y (x % word_bits)) a ∙ b)).1)

  pub all_in_lem : {r : Bool} → r ≡ words_in t p set 4 → p < length t / 4 → AllIn t p set r
  all_in_lem e l = is_all (e ∙ sym (ap (λ (b : Bool). b && words_in t p set 4) (lt-ltb p (length t / 4) l)))
