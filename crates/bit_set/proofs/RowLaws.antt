-- A run of words as a row: words and row determine each other, and what is done to the run is done to the row. Assumes nothing.
use mathlib.Core.Path.{◌≡◌, refl, sym, ap, ap₂, ◌∙◌}
use mathlib.Core.Bool.{Bool, true, false, ◌||◌, or-false}
use mathlib.Core.List.{List, [], ◌∷◌}
use Prim.Native.Nat.{ℕ, zero, suc, ◌+◌, ◌*◌, ◌/◌, ◌%◌, ◌≤◌, ◌<◌}
use native.Mathlib.Nat.{not-suc-le-zero, le_of_suc-le-suc}
use native.Mathlib.Omega.{arith}
use native.Mathlib.Decide.{ℕ_discrete}
use lib.ListN.{length, get_or, set, take, drop, replicate, length-set, length-map, length-drop, length-replicate, get_or-replicate}
use lib.Seq.{get_or-set_same, get_or-set_other, get_or-take, get_or-drop, length-take-le, ext_get_or}
use lib.Dec.{eqb}
use Rattle.nll_spec.specs.Output.{word_bits, bit, row_words}
use Rattle.nll_spec.proofs.Tests.{length-count_from}
use Rattle.nll_spec.proofs.Lookup.{get_or-map-below}
use Rattle.nll_spec.proofs.WordLaws.{words-bit, bits_of, words-of-bits}
use Rattle.bit_set.specs.Bits.{has, with_bit, without_bit, joined, cleared}
use Rattle.bit_set.specs.Rows.{row_at, or_row}
use Rattle.bit_set.proofs.BitLaws.{digit, place, Words, has_with, has_with_other, has_without, has_without_other}
use Rattle.bit_set.proofs.SetLaws.{has-joined, has-cleared}

pub bit_is : (b : Bool) → eqb (bit b) 1 ≡ b
bit_is true = refl
bit_is false = refl

-- ---- One row

module _ (ws : List ℕ) (s n : ℕ) where
  pub length-row : length (row_at ws s n) ≡ word_bits * n
  length-row = rw (length-map, length-count_from)

  pub row_has : (p : ℕ) → p < word_bits * n → get_or (row_at ws s n) p false ≡ has ws (word_bits * s + p)
  row_has p h = get_or-map-below (λ (i : ℕ). has ws (word_bits * s + i)) false (word_bits * n) p h

-- the words of a set have its numbers
pub has_words : (n : ℕ) (bs : List Bool) (p : ℕ) → p < word_bits * n → has (row_words n bs) p ≡ get_or bs p false
has_words n bs p h = ap (λ (b : ℕ). eqb b 1) (words-bit n bs p h) ∙ bit_is (get_or bs p false)

pub run_has : (ws : List ℕ) (s n p : ℕ) → p < word_bits * n → has (take n (drop s ws)) p ≡ has ws (word_bits * s + p)
run_has ws s n p h =
    ap (λ (w : ℕ). eqb (digit w (p % word_bits)) 1) (get_or-take n (drop s ws) (p / word_bits) 0 (omega arith) ∙ get_or-drop s ws (p / word_bits) 0)
    ∙ sym (ap (λ (b : ℕ). eqb b 1) (place ws s p))

-- and a run of words is those of the set that it says
pub words_row : (ws : List ℕ) (s n : ℕ) → Words ws → s + n ≤ length ws → row_words n (row_at ws s n) ≡ take n (drop s ws)
words_row ws s n wf h = ap (row_words n) same ∙ words-of-bits n (take n (drop s ws)) size (λ i l. rw (get_or-take n (drop s ws) i 0 l, get_or-drop s ws i 0) (wf (s + i)))
  where
    size : length (take n (drop s ws)) ≡ n
    size = length-take-le n (drop s ws) (rw length-drop (omega arith))

    same : row_at ws s n ≡ bits_of n (take n (drop s ws))
    same =
        ext_get_or false (row_at ws s n) (bits_of n (take n (drop s ws))) (length-row ws s n ∙ sym (rw (length-map, length-count_from))) λ p l.
        let hp : p < word_bits * n = omega (arith, length-row ws s n) in
        row_has ws s n p hp ∙ sym (run_has ws s n p hp) ∙ sym (get_or-map-below (λ (i : ℕ). has (take n (drop s ws)) i) false (word_bits * n) p hp)

-- ---- What is done to a run, done to its row

-- a list is a run's row where it has its bits
row_ext : (ws : List ℕ) (s n : ℕ) (bs : List Bool) → length bs ≡ word_bits * n → ((p : ℕ) → p < word_bits * n → has ws (word_bits * s + p) ≡ get_or bs p false) → row_at ws s n ≡ bs
row_ext ws s n bs e h =
    ext_get_or false (row_at ws s n) bs (length-row ws s n ∙ sym e) λ p l.
    let hp : p < word_bits * n = omega (arith, length-row ws s n) in
    row_has ws s n p hp ∙ h p hp

-- a number put in or taken out: its column set
module _ (ws : List ℕ) (s n p : ℕ) (hp : p < word_bits * n) where
  row-set : (vs : List ℕ) (b : Bool) → has vs (word_bits * s + p) ≡ b → ((j : ℕ) → (j ≡ word_bits * s + p → ⊥) → has vs j ≡ has ws j) → row_at vs s n ≡ set (row_at ws s n) p b
  row-set vs b e others = row_ext vs s n (set (row_at ws s n) p b) (length-set (row_at ws s n) p b ∙ length-row ws s n) λ q hq. go q hq (ℕ_discrete q p)
    where
      go : (q : ℕ) → q < word_bits * n → Dec (q ≡ p) → has vs (word_bits * s + q) ≡ get_or (set (row_at ws s n) p b) q false
      go q hq (yes k) = rw k (e ∙ sym (get_or-set_same (row_at ws s n) p b false (rw length-row hp)))
      go q hq (no k) = others (word_bits * s + q) (λ z. k (omega arith)) ∙ sym (get_or-set_other (row_at ws s n) p q b false k ∙ row_has ws s n q hq)

  pub row_with : s + n ≤ length ws → row_at (with_bit ws (word_bits * s + p)) s n ≡ set (row_at ws s n) p true
  row_with h = row-set (with_bit ws (word_bits * s + p)) true (has_with ws (word_bits * s + p) (omega arith)) (has_with_other ws (word_bits * s + p))

  pub row_without : row_at (without_bit ws (word_bits * s + p)) s n ≡ set (row_at ws s n) p false
  row_without = row-set (without_bit ws (word_bits * s + p)) false (has_without ws (word_bits * s + p)) (has_without_other ws (word_bits * s + p))

length-or_row : (xs ys : List Bool) → length (or_row xs ys) ≡ length xs
length-or_row [] ys = refl
length-or_row (x ∷ xs) [] = refl
length-or_row (x ∷ xs) (y ∷ ys) = ap suc (length-or_row xs ys)

get_or-or_row : (xs ys : List Bool) (p : ℕ) → p < length xs → get_or (or_row xs ys) p false ≡ (get_or xs p false || get_or ys p false)
get_or-or_row [] ys p h = absurd (not-suc-le-zero h)
get_or-or_row (x ∷ xs) [] p h = sym (or-false (get_or (x ∷ xs) p false))
get_or-or_row (x ∷ xs) (y ∷ ys) zero h = refl
get_or-or_row (x ∷ xs) (y ∷ ys) (suc p) h = get_or-or_row xs ys p (le_of_suc-le-suc h)

pub row-joined : (ws : List ℕ) (d : ℕ) (fs : List ℕ) (s n : ℕ) → d + n ≤ length ws → s + n ≤ length fs → row_at (joined ws d fs s n) d n ≡ or_row (row_at ws d n) (row_at fs s n)
row-joined ws d fs s n h l =
    row_ext (joined ws d fs s n) d n (or_row (row_at ws d n) (row_at fs s n)) (length-or_row (row_at ws d n) (row_at fs s n) ∙ length-row ws d n) λ p hp.
    has-joined ws d fs s n h l p hp
    ∙ sym (get_or-or_row (row_at ws d n) (row_at fs s n) p (rw length-row hp) ∙ ap₂ (λ (a b : Bool). a || b) (row_has ws d n p hp) (row_has fs s n p hp))

pub row-cleared : (ws : List ℕ) (s n : ℕ) → s + n ≤ length ws → row_at (cleared ws s n) s n ≡ replicate (word_bits * n) false
row-cleared ws s n h =
    row_ext (cleared ws s n) s n (replicate (word_bits * n) false) (length-replicate (word_bits * n) false) λ p hp.
    has-cleared ws s n h p hp ∙ sym (get_or-replicate (word_bits * n) p false false hp)
