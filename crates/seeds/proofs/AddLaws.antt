-- Numbers put into words one after the other. Assumes nothing.
use mathlib.Core.Path.{◌≡◌, refl, sym, ap, ap₂, ◌∙◌}
use mathlib.Core.Bool.{Bool, ◌||◌, or_assoc, or-true, or-false}
use mathlib.Core.List.{List, [], ◌∷◌, ◌++◌}
use Prim.Native.Nat.{ℕ, ◌+◌, ◌*◌, ◌/◌, ◌<◌}
use native.Mathlib.Omega.{arith}
use native.Mathlib.Decide.{ℕ_discrete}
use lib.ListN.{length, take, get_or}
use native.Mathlib.Decide.{dec_lt}
use Rattle.std.proofs.lemmas.List.{take_more}
use Rattle.repr.proofs.ReadLaws.{bytes-at, bytes-short}
use lib.Dec.{eqb}
use borrow.Author.Tests.{eq-eqb, ne_eqb}
use Rattle.nll_spec.specs.Lists.{any, contains}
use Rattle.nll_spec.specs.Output.{word_bits}
use Rattle.bit_set.specs.Bits.{has, with_bit}
use Rattle.bit_set.proofs.BitLaws.{length_with, has_with, has_with_other}
use Rattle.nll_spec.specs.Decode.{read, byte, items}
use Rattle.repr.proofs.SpellLaws.{clash}
use Rattle.seeds.specs.Chosen.{add_all}

-- ---- Numbers that are put in

pub add_append : (ws : List ℕ) (s : ℕ) (xs ys : List ℕ) → add_all ws s (xs ++ ys) ≡ add_all (add_all ws s xs) s ys
add_append ws s [] ys = refl
add_append ws s (x ∷ xs) ys = add_append (with_bit ws (word_bits * s + x)) s xs ys

pub length_add : (ws : List ℕ) (s : ℕ) (xs : List ℕ) → length (add_all ws s xs) ≡ length ws
length_add ws s [] = refl
length_add ws s (x ∷ xs) = length_add (with_bit ws (word_bits * s + x)) s xs ∙ length_with ws (word_bits * s + x)

-- what was there, and the number that is put in
pub has_one : (ws : List ℕ) (j i : ℕ) → i / word_bits < length ws → has (with_bit ws j) i ≡ (has ws i || eqb i j)
has_one ws j i h = go (ℕ_discrete i j)
  where
    go : Dec (i ≡ j) → has (with_bit ws j) i ≡ (has ws i || eqb i j)
    go (yes e) = rw (eq-eqb i j e, e) (has_with ws j (rw e at h) ∙ sym (or-true (has ws j)))
    go (no n) = has_with_other ws j i n ∙ sym (rw (ne_eqb i j n) (or-false (has ws i)))

pub has_add : (ws : List ℕ) (s : ℕ) (xs : List ℕ) (i : ℕ) → i / word_bits < length ws → has (add_all ws s xs) i ≡ (has ws i || any (λ x. eqb i (word_bits * s + x)) xs)
has_add ws s [] i h = sym (or-false (has ws i))
has_add ws s (x ∷ xs) i h =
    has_add (with_bit ws (word_bits * s + x)) s xs i (rw length_with h)
    ∙ ap (λ (b : Bool). b || any (λ x. eqb i (word_bits * s + x)) xs) (has_one ws (word_bits * s + x) i h)
    ∙ or_assoc (has ws i) (eqb i (word_bits * s + x)) (any (λ x. eqb i (word_bits * s + x)) xs)

same_place : (s p : ℕ) (xs : List ℕ) → any (λ x. eqb (word_bits * s + p) (word_bits * s + x)) xs ≡ contains xs p
same_place s p [] = refl
same_place s p (x ∷ xs) = ap₂ (λ (a b : Bool). a || b) (go (ℕ_discrete p x)) (same_place s p xs)
  where
    go : Dec (p ≡ x) → eqb (word_bits * s + p) (word_bits * s + x) ≡ eqb p x
    go (yes e) = eq-eqb (word_bits * s + p) (word_bits * s + x) (omega arith) ∙ sym (eq-eqb p x e)
    go (no n) = ne_eqb (word_bits * s + p) (word_bits * s + x) (λ q. n (omega arith)) ∙ sym (ne_eqb p x n)

-- the numbers of the set
pub has-added : (ws : List ℕ) (s : ℕ) (xs : List ℕ) (p : ℕ) → s + p / word_bits < length ws → has (add_all ws s xs) (word_bits * s + p) ≡ (has ws (word_bits * s + p) || contains xs p)
has-added ws s xs p h = has_add ws s xs (word_bits * s + p) (omega arith) ∙ ap (λ (b : Bool). has ws (word_bits * s + p) || b) (same_place s p xs)

-- ---- Bytes that are put in one by one

pub adding_more : {us vs : List ℕ} {k x y : ℕ} (ws : List ℕ) (r : ℕ) (xs : List ℕ) → k < length xs → us ≡ add_all ws r (take k xs) → x ≡ get_or xs k 0 → y ≡ x → vs ≡ with_bit us (word_bits * r + y) → vs ≡ add_all ws r (take (k + 1) xs)
adding_more {k = k} ws r xs h e i j q =
    q ∙ rw (e, j, i) refl ∙ sym (ap (add_all ws r) (take_more xs k 0 h) ∙ add_append ws r (take k xs) (get_or xs k 0 ∷ []))

-- the bytes that were read
pub bytes-are : (n : ℕ) (bs : List ℕ) {xs end : List ℕ} → items n byte bs ≡ read xs end → take n bs ≡ xs
bytes-are n bs {xs} {end} e = go (dec_lt (length bs) n)
  where
    go : Dec (length bs < n) → take n bs ≡ xs
    go (yes h) = absurd (clash (sym (bytes-short n bs h) ∙ e))
    go (no h) = let i = sym e ∙ bytes-at n bs (omega arith) in cc
