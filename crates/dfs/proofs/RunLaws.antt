-- The laws of `Run` and `Mask`: the steps that a walk may take within a word, and the points that they put. Assumes nothing.
use mathlib.Core.Path.{◌≡◌, refl, sym, ap, ◌∙◌}
use mathlib.Core.Logic.{◌⊎◌, inl, inr}
use mathlib.Core.Bool.{Bool, true}
use mathlib.Core.List.{List}
use Prim.Native.Nat.{ℕ, zero, suc, ◌+◌, ◌-◌, ◌*◌, ◌/◌, ◌%◌, ◌^◌, ◌≤◌, ◌<◌, max}
use native.Mathlib.Nat.{pow-suc, mul_assoc, div-eq_of_lt}
use native.Mathlib.Decide.{ℕ_discrete, dec_lt}
use native.Mathlib.Omega.{arith}
use lib.ListN.{length, get_or, set, length-set}
use lib.Seq.{get_or-set_same, get_or-set_other}
use lib.Dec.{eqb}
use lib.Pow.{pow_mono, shl_exact, shl-shr, shr-shr, shr_le, shr_lt}
use lib.Bits.{bit_and, bit_or, and_le_l}
use lib.Count.{count_trailing_zeros, under, trailing_of_zero}
use borrow.Author.Tests.{eqb-true, eq-eqb, lt-ltb}
use Rattle.nll_spec.specs.Output.{word_bits}
use Rattle.bit_set.specs.Bits.{has}
use Rattle.bit_set.proofs.BitLaws.{digit, digit_lt, digit_or, digit-suc, place, both_digits}
use Rattle.dfs.specs.Walk.{in_code, Along, Stopped, Run, Mask}

-- ---- Digits

abbrev full : ℕ
full = 4294967295

digit_shr : (w s i : ℕ) → digit (w / 2 ^ s) i ≡ digit w (s + i)
digit_shr w s i = ap (λ (x : ℕ). x % 2) (shr-shr w s i)

-- the digits of y below the lowest 0 are 1: n is y with each of k digits turned
ones_below : (k y n i : ℕ) → n + y + 1 ≡ 2 ^ k → i < count_trailing_zeros k n → digit y i ≡ 1
unfolding count_trailing_zeros
ones_below zero y n i e l = absurd (omega arith)
ones_below (suc k) y n i e l = go i (n % 2) refl l (λ j t. ones_below k (y / 2) (n / 2) j rest t)
  where
    twice : n + y + 1 ≡ 2 ^ k * 2
    twice = e ∙ pow-suc 2 k

    rest : n / 2 + y / 2 + 1 ≡ 2 ^ k
    rest = omega (arith, twice)

    go : (i r : ℕ) → n % 2 ≡ r → i < under r (count_trailing_zeros k (n / 2)) → ((j : ℕ) → j < count_trailing_zeros k (n / 2) → digit (y / 2) j ≡ 1) → digit y i ≡ 1
    go zero zero z t h = omega (arith, twice, z)
    go (suc i) zero z t h = digit-suc y i ∙ h i (omega arith)
    go i (suc r) z t h = absurd (omega arith)

full_below : (i : ℕ) → i < 32 → digit full i ≡ 1
full_below i l = ones_below 32 full 0 i refl (rw (trailing_of_zero 32) l)

full_above : (i : ℕ) → 32 ≤ i → digit full i ≡ 0
full_above i l =
    let p : 2 ^ 32 ≤ 2 ^ i = pow_mono l in
    let s : full < 2 ^ i = omega (arith, p) in
    ap (λ (x : ℕ). x % 2) (div-eq_of_lt s)

shl_low : (a b i : ℕ) → i < b → digit (a * 2 ^ b) i ≡ 0
shl_low a zero i l = absurd (omega arith)
shl_low a (suc b) i l =
    let e : a * 2 ^ suc b ≡ a * 2 ^ b * 2 = ap (λ (x : ℕ). a * x) (pow-suc 2 b) ∙ sym (mul_assoc a (2 ^ b) 2) in
    rw e (go i l (shl_low a b))
  where
    go : (i : ℕ) → i < suc b → ((j : ℕ) → j < b → digit (a * 2 ^ b) j ≡ 0) → digit (a * 2 ^ b * 2) i ≡ 0
    go zero l h = omega arith
    go (suc i) l h =
        let z : a * 2 ^ b * 2 / 2 ≡ a * 2 ^ b = omega arith in
        digit-suc (a * 2 ^ b * 2) i ∙ ap (λ (x : ℕ). digit x i) z ∙ h i (omega arith)

shl_high : (a b j : ℕ) → digit (a * 2 ^ b) (b + j) ≡ digit a j
shl_high a b j = sym (digit_shr (a * 2 ^ b) b j) ∙ ap (λ (x : ℕ). digit x j) (shl-shr a b)

-- ---- As the code of `run_length` and `mask` goes

pub run_steps : (links inner b : ℕ) → links < 2 ^ 32 → Run links inner b (count_trailing_zeros 32 (4294967295 - bit_and links (inner / 2 ^ 1) / 2 ^ b))
run_steps links inner b l =
    record {
      linked = λ i t. (at i t).0;
      held = λ i t. let e : b + i + 1 ≡ 1 + (b + i) = omega arith in rw e (sym (digit_shr inner 1 (b + i)) ∙ (at i t).1);
    }
  where
    y : ℕ
    y = bit_and links (inner / 2 ^ 1) / 2 ^ b

    small : y ≤ links
    small = omega (arith, shr_le (bit_and links (inner / 2 ^ 1)) b, and_le_l links (inner / 2 ^ 1))

    at : (i : ℕ) → i < count_trailing_zeros 32 (4294967295 - y) → (digit links (b + i) ≡ 1) × (digit (inner / 2 ^ 1) (b + i) ≡ 1)
    at i t = both_digits links (inner / 2 ^ 1) (b + i) (sym (digit_shr (bit_and links (inner / 2 ^ 1)) b i) ∙ ones_below 32 y (4294967295 - y) i (omega (arith, small, l)) t)

pub mask_bits : (b n : ℕ) → b + n < 32 → Mask b n (4294967295 / 2 ^ (31 - n) * 2 ^ b % 2 ^ 32)
mask_bits b n l = rw exact record { inside = inside'; only = only' }
  where
    a : ℕ
    a = full / 2 ^ (31 - n)

    room : n + 1 + (31 - n) ≡ 32
    room = omega arith

    exact : a * 2 ^ b % 2 ^ 32 ≡ a * 2 ^ b
    exact = shl_exact (n + 1) b 32 (shr_lt {n = full} (n + 1) (31 - n) (rw room (omega arith))) (omega arith)

    inside' : (i : ℕ) → b ≤ i → i ≤ b + n → digit (a * 2 ^ b) i ≡ 1
    inside' i u v =
        let e : i ≡ b + (i - b) = omega arith in
        rw e (shl_high a b (i - b) ∙ digit_shr full (31 - n) (i - b) ∙ full_below (31 - n + (i - b)) (omega arith))

    only' : (i : ℕ) → digit (a * 2 ^ b) i ≡ 1 → (b ≤ i) × (i ≤ b + n)
    only' i e = go (dec_lt i b) (dec_lt (b + n) i)
      where
        go : Dec (i < b) → Dec (b + n < i) → (b ≤ i) × (i ≤ b + n)
        go (yes u) d = absurd (omega (arith, e, shl_low a b i u))
        go (no u) (no v) = (omega (arith, u), omega (arith, v))
        go (no u) (yes v) =
            let z : b + (i - b) ≡ i = omega (arith, v) in
            let o : digit (a * 2 ^ b) i ≡ 0 = ap (digit (a * 2 ^ b)) (sym z) ∙ shl_high a b (i - b) ∙ digit_shr full (31 - n) (i - b) ∙ full_above (31 - n + (i - b)) (omega (arith, v)) in
            absurd (omega (arith, e, o))

-- ---- As the code of `advance` goes

module _ (chain ws : List ℕ) (from code : ℕ) (a : List ℕ) (q : ℕ) (sized : length a ≡ 32) (small : code ≤ 1024) (lc : q + 1 < code) where
  -- t and u: q is of the chain, and the set has the next point
  module _ (t u : Bool) (et : t ≡ has chain q) (yt : t ≡ true) (eu : u ≡ has ws (word_bits * from + (q + 1))) (yu : u ≡ true) where
    abbrev k : ℕ
    k = (q + 1) / 32

    abbrev b : ℕ
    b = (q + 1) % 32

    abbrev h : ℕ → Bool
    h = in_code ws from code

    -- the points of a word from q + 1 on are put
    pub one_run : (r n m : ℕ) → Run (get_or chain k 0) (get_or ws (from + k) 0) b r → n ≤ r → n ≤ 31 - b → n ≤ code - 1 - (q + 1) → Mask b n m
        → Along chain h a (set a k (bit_or (get_or a k 0) m)) q (q + 1 + n) × (q + 1 + n ≡ q → Stopped chain h (set a k (bit_or (get_or a k 0) m)) q)
    one_run r n m run nr nb nc mask = (
      record {
        sized = length-set a k v ∙ sized;
        up = omega arith;
        below = omega (arith, nc, lc, small);
        linked = λ x i j. elim (ℕ_discrete x q) [ yes e ↦ rw e (sym et ∙ yt) | no e ↦ linked' x (omega (arith, i, e)) j ];
        held = λ x i j. elim (ℕ_discrete x (q + 1)) [ yes e ↦ rw (e, lt-ltb (q + 1) code lc) (sym eu ∙ yu) | no e ↦ held' x (omega (arith, i, e)) j ];
        kept = λ x e. elim (ℕ_discrete (x / 32) k) [ yes i ↦ in_word_lem x i ∙ eq-eqb _ 1 (or_left (digit (get_or a k 0) (x % 32)) (digit m (x % 32)) (digit_lt m (x % 32)) (eqb-true _ 1 (sym (old_word x i) ∙ e))) | no i ↦ other x i ∙ e ];
        put = λ x i j. in_word_lem x (omega (arith, i, j, nb)) ∙ eq-eqb _ 1 (or_right (digit (get_or a k 0) (x % 32)) (digit m (x % 32)) (digit_lt (get_or a k 0) (x % 32)) (mask.inside (x % 32) (omega (arith, i, j, nb)) (omega (arith, i, j, nb))));
        only = λ x e. elim (ℕ_discrete (x / 32) k) [ yes i ↦ new x i (eqb-true _ 1 (sym (in_word_lem x i) ∙ e)) (ℕ_discrete (digit m (x % 32)) 1) | no i ↦ inl (sym (other x i) ∙ e) ];
      },
      λ z. absurd (omega arith),
    )
      where
        v : ℕ
        v = bit_or (get_or a k 0) m

        or_left : (x y : ℕ) → y < 2 → x ≡ 1 → max x y ≡ 1
        or_left x y l e = omega (arith, l, e)

        or_right : (x y : ℕ) → x < 2 → y ≡ 1 → max x y ≡ 1
        or_right x y l e = omega (arith, l, e)

        lk : k < length a
        lk = omega (arith, sized, lc, small)

        in_word_lem : (x : ℕ) → x / 32 ≡ k → has (set a k v) x ≡ eqb (max (digit (get_or a k 0) (x % 32)) (digit m (x % 32))) 1
        in_word_lem x i =
            ap (λ (j : ℕ). eqb (digit (get_or (set a k v) j 0) (x % 32)) 1) i
            ∙ ap (λ (w : ℕ). eqb (digit w (x % 32)) 1) (get_or-set_same a k v 0 lk)
            ∙ ap (λ (w : ℕ). eqb w 1) (digit_or (get_or a k 0) m (x % 32))

        old_word : (x : ℕ) → x / 32 ≡ k → has a x ≡ eqb (digit (get_or a k 0) (x % 32)) 1
        old_word x i = ap (λ (j : ℕ). eqb (digit (get_or a j 0) (x % 32)) 1) i

        other : (x : ℕ) → (x / 32 ≡ k → ⊥) → has (set a k v) x ≡ has a x
        other x i = ap (λ (w : ℕ). eqb (digit w (x % 32)) 1) (get_or-set_other a k (x / 32) v 0 i)

        linked' : (x : ℕ) → q + 1 ≤ x → x < q + 1 + n → has chain x ≡ true
        linked' x i j =
            let e : x / 32 ≡ k = omega (arith, i, j, nb) in
            let d : x % 32 ≡ b + (x - (q + 1)) = omega (arith, i, j, nb) in
            ap (λ (y : ℕ). eqb (digit (get_or chain y 0) (x % 32)) 1) e ∙ ap (λ (y : ℕ). eqb (digit (get_or chain k 0) y) 1) d
            ∙ eq-eqb _ 1 (run.linked (x - (q + 1)) (omega (arith, i, j, nr)))

        held' : (x : ℕ) → q + 1 < x → x ≤ q + 1 + n → h x ≡ true
        held' x i j =
            let e : x / 32 ≡ k = omega (arith, i, j, nb) in
            let d : x % 32 ≡ b + (x - (q + 2)) + 1 = omega (arith, i, j, nb) in
            let l : x < code = omega (arith, j, nc, lc) in
            rw (lt-ltb x code l)
            (ap (λ (y : ℕ). eqb y 1) (place ws from x) ∙ ap (λ (y : ℕ). eqb (digit (get_or ws (from + y) 0) (x % 32)) 1) e
            ∙ ap (λ (y : ℕ). eqb (digit (get_or ws (from + k) 0) y) 1) d ∙ eq-eqb _ 1 (run.held (x - (q + 2)) (omega (arith, i, j, nr))))

        new : (x : ℕ) → x / 32 ≡ k → max (digit (get_or a k 0) (x % 32)) (digit m (x % 32)) ≡ 1 → Dec (digit m (x % 32) ≡ 1) → (has a x ≡ true) ⊎ ((q < x) × (x ≤ q + 1 + n))
        new x i e (yes d) = let w = mask.only (x % 32) d in inr (omega (arith, i, w.0), omega (arith, i, w.1))
        new x i e (no d) = inl (old_word x i ∙ eq-eqb _ 1 (was (digit (get_or a k 0) (x % 32)) (digit m (x % 32)) (digit_lt m (x % 32)) d e))
          where
            was : (y z : ℕ) → z < 2 → (z ≡ 1 → ⊥) → max y z ≡ 1 → y ≡ 1
            was y z l d e = omega (arith, l, d, e)
