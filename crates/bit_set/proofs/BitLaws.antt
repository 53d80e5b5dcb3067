-- One number: it is put in or taken out and no other changes; words with the same bits are equal. Assumes nothing.
use mathlib.Core.Path.{◌≡◌, refl, sym, ap, ap₂, ◌∙◌}
use mathlib.Core.Bool.{Bool, true, false, not, ◌&&◌, and-false}
use mathlib.Core.List.{List}
use Prim.Native.Nat.{ℕ, zero, suc, ◌+◌, ◌-◌, ◌*◌, ◌/◌, ◌%◌, ◌^◌, ◌≤◌, ◌<◌, max, min}
use native.Mathlib.Nat.{mod-lt, mod-le, zero-max, max-zero, pow-suc, mul-mod_left, mul-div_cancel, mul_comm, mul_assoc, div-eq_of_lt, div_self, zero-div, mul-le-mul_right, zero-mul, one-mul, sub-zero, mod-eq_of_lt}
use native.Mathlib.Numerals.{one-add}
use native.Mathlib.Omega.{arith}
use native.Mathlib.Decide.{ℕ_discrete, dec_lt}
use lib.ListN.{length, get_or, set, replicate, length-set, get_or-eq_default}
use lib.Seq.{get_or-set_same, get_or-set_other, set_out, ext_get_or, set-get_or}
use lib.Dec.{eqb, ltb}
use lib.Pow.{pow_pos, pow-lt, pow-add, shr-shr, split}
use lib.Bits.{bit_and, bit_or, and_shr, and_step, or_shr, or_mod, or_lt}
use borrow.Author.Tests.{eqb-true, eqb-false, eq-eqb, ne_eqb, lt-ltb, le-ltb}
use Rattle.nll_spec.specs.Output.{word_bits}
use Rattle.nll_spec.specs.Meaning.{bit_of}
use Rattle.bit_set.specs.Bits.{has, with_bit, is_new, without_bit}

-- ---- The digits of a number

abbrev pub digit : ℕ → ℕ → ℕ
digit w i = w / 2 ^ i % 2

pub digit_lt : (w i : ℕ) → digit w i < 2
digit_lt w i = mod-lt (w / 2 ^ i) (omega arith)

-- a digit that two numbers share
pub both_digits : (a b i : ℕ) → digit (bit_and a b) i ≡ 1 → (digit a i ≡ 1) × (digit b i ≡ 1)
both_digits a b i e =
    let s : bit_and a b / 2 ^ i ≡ bit_and (a / 2 ^ i / 2) (b / 2 ^ i / 2) * 2 + min (a / 2 ^ i % 2) (b / 2 ^ i % 2) = and_shr a b i ∙ and_step (a / 2 ^ i) (b / 2 ^ i) in
    let m : min (digit a i) (digit b i) ≡ 1 = omega (arith, s, e) in
    (omega (arith, m), omega (arith, m))

pub digit-suc : (x i : ℕ) → digit x (suc i) ≡ digit (x / 2) i
digit-suc x i = ap (λ (y : ℕ). x / 2 ^ y % 2) (sym (one-add i)) ∙ ap (λ (y : ℕ). y % 2) (sym (shr-shr x 1 i))

-- a number of n digits is known by them
digits_same : (n x y : ℕ) → x < 2 ^ n → y < 2 ^ n → ((i : ℕ) → i < n → digit x i ≡ digit y i) → x ≡ y
digits_same zero x y hx hy h = omega arith
digits_same (suc n) x y hx hy h =
    let hx' : x < 2 ^ n * 2 = rw pow-suc at hx in
    let hy' : y < 2 ^ n * 2 = rw pow-suc at hy in
    let low : x / 2 ^ 0 % 2 ≡ y / 2 ^ 0 % 2 = h 0 (omega arith) in
    let rest : x / 2 ≡ y / 2 = digits_same n (x / 2) (y / 2) (omega arith) (omega arith) (λ i l. sym (digit-suc x i) ∙ h (suc i) (omega arith) ∙ digit-suc y i) in
    omega arith

-- a digit is 1 where it is in one of two numbers
or_01 : (x y : ℕ) → x < 2 → y < 2 → bit_or x y ≡ max x y
or_01 zero y hx hy = sym (zero-max y)
or_01 (suc zero) zero hx hy = refl
or_01 (suc zero) (suc zero) hx hy = refl
or_01 (suc zero) (suc (suc y)) hx hy = omega arith
or_01 (suc (suc x)) y hx hy = omega arith

pub digit_or : (a b i : ℕ) → digit (bit_or a b) i ≡ max (digit a i) (digit b i)
digit_or a b i =
    ap (λ (x : ℕ). x % 2) (or_shr a b i) ∙ or_mod (a / 2 ^ i) (b / 2 ^ i) 1 ∙ or_01 (digit a i) (digit b i) (digit_lt a i) (digit_lt b i)

-- a power of 2 has one digit
digit-pow-same : (k : ℕ) → digit (2 ^ k) k ≡ 1
digit-pow-same k = ap (λ (x : ℕ). x % 2) (div_self (pow_pos k))

pow_above : (k i : ℕ) → k < i → digit (2 ^ k) i ≡ 0
pow_above k i h = ap (λ (x : ℕ). x % 2) (div-eq_of_lt (pow-lt h))

pow_below : (d i : ℕ) → digit (2 ^ (i + suc d)) i ≡ 0
pow_below d i =
    ap (λ (x : ℕ). x / 2 ^ i % 2) (pow-add 2 i (suc d) ∙ mul_comm (2 ^ i) (2 ^ suc d))
    ∙ ap (λ (x : ℕ). x % 2) (mul-div_cancel (2 ^ suc d) (pow_pos i) ∙ pow-suc 2 d)
    ∙ mul-mod_left (2 ^ d) 2

digit-pow_other : (k i : ℕ) → (i ≡ k → ⊥) → digit (2 ^ k) i ≡ 0
digit-pow_other k i h = go (dec_lt k i)
  where
    go : Dec (k < i) → digit (2 ^ k) i ≡ 0
    go (yes l) = pow_above k i l
    go (no n) =
        let e : k ≡ i + suc (k - suc i) = omega (arith, n) in
        ap (λ (x : ℕ). digit (2 ^ x) i) e ∙ pow_below (k - suc i) i

-- a number with digit k
put_same : (w k : ℕ) → digit (bit_or w (2 ^ k)) k ≡ 1
put_same w k =
    let h : digit w k < 2 = digit_lt w k in
    let e : digit (bit_or w (2 ^ k)) k ≡ max (digit w k) 1 = digit_or w (2 ^ k) k ∙ ap (λ (x : ℕ). max (digit w k) x) (digit-pow-same k) in
    omega arith

put_other : (w k i : ℕ) → (i ≡ k → ⊥) → digit (bit_or w (2 ^ k)) i ≡ digit w i
put_other w k i h = digit_or w (2 ^ k) i ∙ ap (λ (x : ℕ). max (digit w i) x) (digit-pow_other k i h) ∙ max-zero (digit w i)

-- a number without digit k
digit_le : (w k : ℕ) → digit w k * 2 ^ k ≤ w
digit_le w k = omega (arith, mul-le-mul_right (2 ^ k) (mod-le (w / 2 ^ k) 2), split w k)

abbrev dropped : ℕ → ℕ → ℕ
dropped w k = w - digit w k * 2 ^ k

double : (w k : ℕ) → digit w (suc k) * 2 ^ suc k ≡ digit (w / 2) k * 2 ^ k * 2
double w k = ap₂ (λ (x y : ℕ). x * y) (digit-suc w k) (pow-suc 2 k) ∙ sym (mul_assoc (digit (w / 2) k) (2 ^ k) 2)

half : (w k : ℕ) → dropped w (suc k) / 2 ≡ dropped (w / 2) k
half w k = omega (arith, double w k)

dropped-same : (w k : ℕ) → digit (dropped w k) k ≡ 0
dropped-same w zero = omega arith
dropped-same w (suc k) = digit-suc (dropped w (suc k)) k ∙ ap (λ (x : ℕ). digit x k) (half w k) ∙ dropped-same (w / 2) k

dropped_other : (w k i : ℕ) → (i ≡ k → ⊥) → digit (dropped w k) i ≡ digit w i
dropped_other w zero zero h = absurd (h refl)
dropped_other w zero (suc i) h =
    let e : dropped w zero / 2 ≡ w / 2 = omega arith in
    digit-suc (dropped w zero) i ∙ ap (λ (x : ℕ). digit x i) e ∙ sym (digit-suc w i)
dropped_other w (suc k) zero h = omega (arith, double w k, digit_le w (suc k))
dropped_other w (suc k) (suc i) h =
    digit-suc (dropped w (suc k)) i ∙ ap (λ (x : ℕ). digit x i) (half w k) ∙ dropped_other (w / 2) k i (λ e. h (ap suc e)) ∙ sym (digit-suc w i)

-- ---- Lists of words

-- number p of the set that starts at word s
pub place_word : (s p : ℕ) → (word_bits * s + p) / word_bits ≡ s + p / word_bits
place_word s p = omega arith

pub place_bit : (s p : ℕ) → (word_bits * s + p) % word_bits ≡ p % word_bits
place_bit s p = omega arith

pub place : (ws : List ℕ) (s p : ℕ) → bit_of ws (word_bits * s + p) ≡ digit (get_or ws (s + p / word_bits) 0) (p % word_bits)
place ws s p = ap₂ (λ (k b : ℕ). digit (get_or ws k 0) b) (place_word s p) (place_bit s p)

-- a bit is 0 where it is not 1
pub has-not : (ws : List ℕ) (j : ℕ) → has ws j ≡ false → bit_of ws j ≡ 0
has-not ws j e =
    let n : bit_of ws j ≡ 1 → ⊥ = eqb-false (bit_of ws j) 1 e in
    omega (arith, n, digit_lt (get_or ws (j / word_bits) 0) (j % word_bits))

-- nothing is held past the words
pub has_out : (ws : List ℕ) (j : ℕ) → length ws ≤ j / word_bits → has ws j ≡ false
has_out ws j h = ap (λ (w : ℕ). eqb (digit w (j % word_bits)) 1) (get_or-eq_default ws 0 h) ∙ ap (λ (x : ℕ). eqb (x % 2) 1) (zero-div (2 ^ (j % word_bits)))

-- words that are 0 hold nothing
pub has-zeros : (n j : ℕ) → has (replicate n 0) j ≡ false
has-zeros n j = ap (λ (w : ℕ). eqb (digit w (j % word_bits)) 1) (word n (j / word_bits)) ∙ ap (λ (x : ℕ). eqb (x % 2) 1) (zero-div (2 ^ (j % word_bits)))
  where
    word : (n k : ℕ) → get_or {A = ℕ} (replicate n 0) k 0 ≡ 0
    word zero k = refl
    word (suc n) zero = refl
    word (suc n) (suc k) = word n k

-- every word fits
abbrev pub Words : List ℕ → Type 0
Words ws = (k : ℕ) → get_or ws k 0 < 2 ^ word_bits

pub set-fits : (ws : List ℕ) (k v : ℕ) → Words ws → v < 2 ^ word_bits → Words (set ws k v)
set-fits ws k v wf h i = go (ℕ_discrete i k) (dec_lt k (length ws))
  where
    go : Dec (i ≡ k) → Dec (k < length ws) → get_or (set ws k v) i 0 < 2 ^ word_bits
    go (no n) d = rw (get_or-set_other ws k i v 0 n) (wf i)
    go (yes e) (no n) = rw (set_out ws k v (omega (arith, n))) (wf i)
    go (yes e) (yes l) = rw (e, get_or-set_same ws k v 0 l) h

-- j's word replaced by one that may differ in j's bit
module _ (ws : List ℕ) (j v : ℕ) where
  set-bit : j / word_bits < length ws → bit_of (set ws (j / word_bits) v) j ≡ digit v (j % word_bits)
  set-bit h = ap (λ (w : ℕ). digit w (j % word_bits)) (get_or-set_same ws (j / word_bits) v 0 h)

  set_other : ((b : ℕ) → (b ≡ j % word_bits → ⊥) → digit v b ≡ digit (get_or ws (j / word_bits) 0) b) → (i : ℕ) → (i ≡ j → ⊥)
      → bit_of (set ws (j / word_bits) v) i ≡ bit_of ws i
  set_other same i h = go (ℕ_discrete (i / word_bits) (j / word_bits)) (dec_lt (j / word_bits) (length ws))
    where
      go : Dec (i / word_bits ≡ j / word_bits) → Dec (j / word_bits < length ws) → bit_of (set ws (j / word_bits) v) i ≡ bit_of ws i
      go (no n) d = ap (λ (w : ℕ). digit w (i % word_bits)) (get_or-set_other ws (j / word_bits) (i / word_bits) v 0 n)
      go (yes e) (no n) = ap (λ (l : List ℕ). bit_of l i) (set_out ws (j / word_bits) v (omega (arith, n)))
      go (yes e) (yes l) =
          ap (λ (k : ℕ). digit (get_or (set ws (j / word_bits) v) k 0) (i % word_bits)) e
          ∙ ap (λ (w : ℕ). digit w (i % word_bits)) (get_or-set_same ws (j / word_bits) v 0 l)
          ∙ same (i % word_bits) (λ q. h (omega arith))
          ∙ ap (λ (k : ℕ). digit (get_or ws k 0) (i % word_bits)) (sym e)

-- ---- Two lists of words with the same bits are equal

digit_eq : (a b : ℕ) → a < 2 → b < 2 → eqb a 1 ≡ eqb b 1 → a ≡ b
digit_eq a b ha hb e = go (ℕ_discrete b 1)
  where
    go : Dec (b ≡ 1) → a ≡ b
    go (yes q) = eqb-true a 1 (e ∙ eq-eqb b 1 q) ∙ sym q
    go (no n) = omega (arith, n, eqb-false a 1 (e ∙ ne_eqb b 1 n))

pub words_ext : (a b : List ℕ) → Words a → Words b → length a ≡ length b → ((j : ℕ) → j < word_bits * length a → has a j ≡ has b j) → a ≡ b
words_ext a b wa wb el h =
    ext_get_or 0 a b el λ k hk.
    digits_same word_bits (get_or a k 0) (get_or b k 0) (wa k) (wb k) λ i hi.
    let d : (word_bits * k + i) / word_bits ≡ k = omega arith in
    let m : (word_bits * k + i) % word_bits ≡ i = omega arith in
    let at : (l : List ℕ) → has l (word_bits * k + i) ≡ eqb (digit (get_or l k 0) i) 1 = λ l. ap₂ (λ (x y : ℕ). eqb (digit (get_or l x 0) y) 1) d m in
    digit_eq (digit (get_or a k 0) i) (digit (get_or b k 0) i) (digit_lt (get_or a k 0) i) (digit_lt (get_or b k 0) i)
    (sym (at a) ∙ h (word_bits * k + i) (omega arith) ∙ at b)

-- ---- The set with j

pub length_with : (ws : List ℕ) (j : ℕ) → length (with_bit ws j) ≡ length ws
length_with ws j = simp length-set

-- j is in it
pub has_with : (ws : List ℕ) (j : ℕ) → j / word_bits < length ws → has (with_bit ws j) j ≡ true
has_with ws j h = eq-eqb (bit_of (with_bit ws j) j) 1 (set-bit ws j _ h ∙ put_same (get_or ws (j / word_bits) 0) (j % word_bits))

-- and any other number if it was
pub has_with_other : (ws : List ℕ) (j i : ℕ) → (i ≡ j → ⊥) → has (with_bit ws j) i ≡ has ws i
has_with_other ws j i h = ap (λ (b : ℕ). eqb b 1) (set_other ws j _ (λ b. put_other (get_or ws (j / word_bits) 0) (j % word_bits) b) i h)

pub with_fits : (ws : List ℕ) (j : ℕ) → Words ws → Words (with_bit ws j)
with_fits ws j wf = set-fits ws (j / word_bits) _ wf (or_lt word_bits (get_or ws (j / word_bits) 0) (2 ^ (j % word_bits)) (wf (j / word_bits)) (pow-lt {j = word_bits} (omega arith)))

-- a number without a word is not put in
pub with_out : (ws : List ℕ) (j : ℕ) → length ws ≤ j / word_bits → with_bit ws j ≡ ws
with_out ws j h = set_out ws (j / word_bits) _ h

-- a number that is in the set changes nothing
pub with_held : (ws : List ℕ) (j : ℕ) → Words ws → has ws j ≡ true → with_bit ws j ≡ ws
with_held ws j wf e = words_ext (with_bit ws j) ws (with_fits ws j wf) wf (length_with ws j) λ i h. go i (ℕ_discrete i j) (dec_lt (j / word_bits) (length ws))
  where
    go : (i : ℕ) → Dec (i ≡ j) → Dec (j / word_bits < length ws) → has (with_bit ws j) i ≡ has ws i
    go i (no n) d = has_with_other ws j i n
    go i (yes q) (yes l) = rw q (has_with ws j l ∙ sym e)
    go i (yes q) (no n) = ap (λ (l : List ℕ). has l i) (with_out ws j (omega (arith, n)))

-- where j has a word, it is new if it is not in the set
pub new_in : (ws : List ℕ) (j : ℕ) → j / word_bits < length ws → is_new ws j ≡ not (has ws j)
new_in ws j h = ap (λ (a : Bool). a && not (has ws j)) (lt-ltb (j / word_bits) (length ws) h)

-- j is new where it is in the set with j and not in the set
pub new_change : (ws : List ℕ) (j : ℕ) → is_new ws j ≡ (has (with_bit ws j) j && not (has ws j))
new_change ws j = go (dec_lt (j / word_bits) (length ws))
  where
    go : Dec (j / word_bits < length ws) → is_new ws j ≡ (has (with_bit ws j) j && not (has ws j))
    go (yes l) = ap (λ (a : Bool). a && not (has ws j)) (lt-ltb (j / word_bits) (length ws) l ∙ sym (has_with ws j l))
    go (no n) = ap (λ (a : Bool). a && not (has ws j)) (le-ltb (j / word_bits) (length ws) (omega (arith, n)) ∙ sym (ap (λ (l : List ℕ). has l j) (with_out ws j (omega (arith, n))) ∙ has_out ws j (omega (arith, n))))

-- ---- The set without j

pub length_without : (ws : List ℕ) (j : ℕ) → length (without_bit ws j) ≡ length ws
length_without ws j = simp length-set

-- j is not in it
pub has_without : (ws : List ℕ) (j : ℕ) → has (without_bit ws j) j ≡ false
has_without ws j = go (dec_lt (j / word_bits) (length ws))
  where
    go : Dec (j / word_bits < length ws) → has (without_bit ws j) j ≡ false
    go (yes l) = ap (λ (b : ℕ). eqb b 1) (set-bit ws j _ l ∙ dropped-same (get_or ws (j / word_bits) 0) (j % word_bits))
    go (no n) = has_out (without_bit ws j) j (rw length_without (omega (arith, n)))

-- and any other number if it was
pub has_without_other : (ws : List ℕ) (j i : ℕ) → (i ≡ j → ⊥) → has (without_bit ws j) i ≡ has ws i
has_without_other ws j i h = ap (λ (b : ℕ). eqb b 1) (set_other ws j _ (λ b. dropped_other (get_or ws (j / word_bits) 0) (j % word_bits) b) i h)

pub without_fits : (ws : List ℕ) (j : ℕ) → Words ws → Words (without_bit ws j)
without_fits ws j wf = set-fits ws (j / word_bits) _ wf (omega (arith, wf (j / word_bits)))

-- a number that is not in the set changes nothing
pub without_missing : (ws : List ℕ) (j : ℕ) → has ws j ≡ false → without_bit ws j ≡ ws
without_missing ws j e =
    let w : ℕ = get_or ws (j / word_bits) 0 in
    ap (λ (b : ℕ). set ws (j / word_bits) (w - b * 2 ^ (j % word_bits))) (has-not ws j e)
    ∙ ap (λ (x : ℕ). set ws (j / word_bits) (w - x)) (zero-mul (2 ^ (j % word_bits)))
    ∙ ap (set ws (j / word_bits)) (sub-zero w)
    ∙ set-get_or ws (j / word_bits) 0

-- ---- What the code's tests show

module _ (ws : List ℕ) (s p : ℕ) where
  bit_out : length ws ≤ s + p / word_bits → length ws ≤ (word_bits * s + p) / word_bits
  bit_out h = rw place_word h

  pub test_in : eqb (digit (get_or ws (s + p / word_bits) 0) (p % word_bits)) 1 ≡ has ws (word_bits * s + p)
  test_in = ap (λ (b : ℕ). eqb b 1) (sym (place ws s p))

  pub test_out : length ws ≤ s + p / word_bits → false ≡ has ws (word_bits * s + p)
  test_out h = sym (has_out ws (word_bits * s + p) (bit_out h))

  pub add-out : length ws ≤ s + p / word_bits → (ws ≡ with_bit ws (word_bits * s + p)) × (false ≡ is_new ws (word_bits * s + p))
  add-out h = (
    sym (with_out ws (word_bits * s + p) (bit_out h)),
    sym (ap (λ (a : Bool). a && not (has ws (word_bits * s + p))) (le-ltb ((word_bits * s + p) / word_bits) (length ws) (bit_out h))),
  )

  -- what the test of its word's bit shows of number p
  pub tested : {k : ℕ} {r b : Bool} → k ≡ s + p / word_bits → r ≡ eqb (digit (get_or ws k 0) (p % word_bits)) 1 → r ≡ b → has ws (word_bits * s + p) ≡ b
  tested e t q = sym test_in ∙ sym (rw e at t) ∙ q

  held_bit : has ws (word_bits * s + p) ≡ true → digit (get_or ws (s + p / word_bits) 0) (p % word_bits) ≡ 1
  held_bit h = eqb-true _ 1 (test_in ∙ h)

  pub add_held : Words ws → has ws (word_bits * s + p) ≡ true → (ws ≡ with_bit ws (word_bits * s + p)) × (false ≡ is_new ws (word_bits * s + p))
  add_held wf h = (sym (with_held ws (word_bits * s + p) wf h), sym (rw h (and-false (ltb ((word_bits * s + p) / word_bits) (length ws)))))

  -- the mask as the code computes it
  abbrev mask : ℕ
  mask = 1 * 2 ^ (p % word_bits) % 2 ^ word_bits

  mask_is : mask ≡ 2 ^ (p % word_bits)
  mask_is =
      let low : 2 ^ (p % word_bits) < 2 ^ word_bits = pow-lt {j = word_bits} (omega arith) in
      rw one-mul (mod-eq_of_lt low)

  pub add_new : {k : ℕ} → k ≡ s + p / word_bits → k < length ws → has ws (word_bits * s + p) ≡ false
      → (set ws k (bit_or (get_or ws k 0) mask) ≡ with_bit ws (word_bits * s + p)) × (true ≡ is_new ws (word_bits * s + p))
  add_new e l h = (
    rw (e, place_word, place_bit, mask_is),
    sym (ap₂ (λ (a b : Bool). a && not b) (lt-ltb _ (length ws) (rw (place_word, ← e) l)) h),
  )

  pub kill_none : has ws (word_bits * s + p) ≡ false → (ws ≡ without_bit ws (word_bits * s + p)) × (false ≡ has ws (word_bits * s + p))
  kill_none h = (sym (without_missing ws (word_bits * s + p) h), sym h)

  pub kill_out : length ws ≤ s + p / word_bits → (ws ≡ without_bit ws (word_bits * s + p)) × (false ≡ has ws (word_bits * s + p))
  kill_out h = kill_none (sym (test_out h))

  pub kill_room : {k : ℕ} → k ≡ s + p / word_bits → has ws (word_bits * s + p) ≡ true → mask ≤ get_or ws k 0
  kill_room e h =
      let l : 1 * 2 ^ (p % word_bits) ≤ get_or ws (s + p / word_bits) 0 = rw (held_bit h) at (digit_le (get_or ws (s + p / word_bits) 0) (p % word_bits)) in
      rw (e, mask_is, ← one-mul (2 ^ (p % word_bits))) l

  pub kill_held : {k : ℕ} → k ≡ s + p / word_bits → has ws (word_bits * s + p) ≡ true
      → (set ws k (get_or ws k 0 - mask) ≡ without_bit ws (word_bits * s + p)) × (true ≡ has ws (word_bits * s + p))
  kill_held e h = (rw (e, place_word, place_bit, held_bit h, mask_is, one-mul), sym h)
