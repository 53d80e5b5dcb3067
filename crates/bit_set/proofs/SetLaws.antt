-- Runs as sets: what the union and the empty run have, number by number, and when the union is new. Assumes nothing.
use mathlib.Core.Path.{◌≡◌, refl, sym, ap, ap₂, ◌∙◌}
use mathlib.Core.Logic.{◌↔◌, ◌⊎◌, inl, inr, ⊎_elim}
use mathlib.Core.Bool.{Bool, true, false, ◌||◌, cond, true≢false}
use mathlib.Core.List.{List}
use Prim.Native.Nat.{ℕ, zero, suc, ◌+◌, ◌*◌, ◌/◌, ◌%◌, ◌^◌, ◌≤◌, ◌<◌, max}
use native.Mathlib.Nat.{pow-suc, zero-div}
use native.Mathlib.Omega.{arith}
use native.Mathlib.Decide.{ℕ_discrete}
use lib.ListN.{length, get_or}
use lib.Dec.{eqb}
use lib.Bits.{bit_or, or_lt}
use borrow.Author.Tests.{eq-eqb, ne_eqb, le-leb}
use Rattle.nll_spec.specs.Output.{word_bits}
use Rattle.bit_set.specs.Bits.{has, fits, or_word, or_run, or_grows, both_fit, joined, grows, read_first, joined_within, zero_run, cleared}
use Rattle.bit_set.proofs.BitLaws.{digit, digit_lt, digit-suc, digit_or, place, Words}
use Rattle.bit_set.proofs.RunLaws.{and_true_right, length_or, or_outside, or_inside, or_fits, or_same, or_differs, both_fit_lem, joined_no, joined_yes, within_yes, length_zero, zero_outside, zero_inside, zero_fits}

-- what holds of both lists holds of the one that is picked
pick : (P : List ℕ → Type 0) (b : Bool) (x y : List ℕ) → P x → P y → P (cond b x y)
pick P true x y px py = px
pick P false x y px py = py

-- ---- Two words

-- the digit is 1 in one or the other
max_or : (a b : ℕ) → a < 2 → b < 2 → eqb (max a b) 1 ≡ (eqb a 1 || eqb b 1)
max_or zero zero ha hb = refl
max_or zero (suc zero) ha hb = refl
max_or (suc zero) zero ha hb = refl
max_or (suc zero) (suc zero) ha hb = refl
max_or zero (suc (suc b)) ha hb = absurd (omega arith)
max_or (suc zero) (suc (suc b)) ha hb = absurd (omega arith)
max_or (suc (suc a)) b ha hb = absurd (omega arith)

or_bit : (a b i : ℕ) → eqb (digit (bit_or a b) i) 1 ≡ (eqb (digit a i) 1 || eqb (digit b i) 1)
or_bit a b i = ap (λ (x : ℕ). eqb x 1) (digit_or a b i) ∙ max_or (digit a i) (digit b i) (digit_lt a i) (digit_lt b i)

-- two numbers of n digits that differ do so at a digit
digit_differs : (n x y : ℕ) → x < 2 ^ n → y < 2 ^ n → (x ≡ y → ⊥) → (i : ℕ) × (i < n) × (digit x i ≡ digit y i → ⊥)
digit_differs zero x y hx hy ne = absurd (ne (omega arith))
digit_differs (suc n) x y hx hy ne = go (ℕ_discrete (x % 2) (y % 2)) (λ q. digit_differs n (x / 2) (y / 2) (omega (arith, hx')) (omega (arith, hy')) q)
  where
    hx' : x < 2 ^ n * 2
    hx' = rw pow-suc at hx

    hy' : y < 2 ^ n * 2
    hy' = rw pow-suc at hy

    go : Dec (x % 2 ≡ y % 2) → ((x / 2 ≡ y / 2 → ⊥) → (i : ℕ) × (i < n) × (digit (x / 2) i ≡ digit (y / 2) i → ⊥)) → (i : ℕ) × (i < suc n) × (digit x i ≡ digit y i → ⊥)
    go (no m) r = (0, omega arith, λ q. let z : x / 2 ^ 0 % 2 ≡ y / 2 ^ 0 % 2 = q in m (omega arith))
    go (yes e) r =
        let w = r (λ q. ne (omega arith)) in
        (suc w.0, omega arith, λ q. w.2 (sym (digit-suc x w.0) ∙ q ∙ digit-suc y w.0))

-- a word that the other one changes lacks a bit that the other one has
word_new : (a b : ℕ) → a < 2 ^ word_bits → b < 2 ^ word_bits → (a ≡ bit_or a b → ⊥) → (i : ℕ) × (i < word_bits) × (eqb (digit a i) 1 ≡ false) × (eqb (digit b i) 1 ≡ true)
word_new a b ha hb ne =
    let w = digit_differs word_bits a (bit_or a b) ha (or_lt word_bits a b ha hb) ne in
    let i : ℕ = w.0 in
    let la : digit a i < 2 = digit_lt a i in
    let lb : digit b i < 2 = digit_lt b i in
    let o : digit (bit_or a b) i ≡ max (digit a i) (digit b i) = digit_or a b i in
    let m : digit a i ≡ digit (bit_or a b) i → ⊥ = w.2 in
    (i, w.1, ne_eqb (digit a i) 1 (λ q. m (omega arith)), eq-eqb (digit b i) 1 (one (digit a i) (digit b i) la lb (λ q. m (q ∙ sym o))))
  where
    one : (x y : ℕ) → x < 2 → y < 2 → (x ≡ max x y → ⊥) → y ≡ 1
    one x zero lx ly n = absurd (n (omega arith))
    one x (suc zero) lx ly n = refl
    one x (suc (suc y)) lx ly n = absurd (omega arith)

-- ---- The union

module _ (ws : List ℕ) (d : ℕ) (fs : List ℕ) (s n : ℕ) where
  pub length-joined : length (joined ws d fs s n) ≡ length ws
  length-joined = pick (λ (l : List ℕ). length l ≡ length ws) (both_fit ws d fs s n) (or_run ws d fs s n) ws (length_or ws d fs s n) refl

  pub joined-fits : Words ws → Words fs → Words (joined ws d fs s n)
  joined-fits wf ff = pick (λ (l : List ℕ). Words l) (both_fit ws d fs s n) (or_run ws d fs s n) ws (or_fits ws d fs s n wf ff) wf

  -- a word outside the run from d is as it was
  pub joined_outside : (k : ℕ) → (k < d) ⊎ (d + n ≤ k) → get_or (joined ws d fs s n) k 0 ≡ get_or ws k 0
  joined_outside k h = pick (λ (l : List ℕ). get_or l k 0 ≡ get_or ws k 0) (both_fit ws d fs s n) (or_run ws d fs s n) ws (or_outside ws d fs s n k h) refl

  pub has-joined_other : (j : ℕ) → (j < word_bits * d) ⊎ (word_bits * (d + n) ≤ j) → has (joined ws d fs s n) j ≡ has ws j
  has-joined_other j h =
      ap (λ (w : ℕ). eqb (digit w (j % word_bits)) 1) (joined_outside (j / word_bits) (⊎_elim (λ q. inl (omega arith)) (λ q. inr (omega arith)) h))

  -- a number of the run from d is in the union where it was in one of the two runs
  pub has-joined : d + n ≤ length ws → s + n ≤ length fs → (p : ℕ) → p < word_bits * n
      → has (joined ws d fs s n) (word_bits * d + p) ≡ (has ws (word_bits * d + p) || has fs (word_bits * s + p))
  has-joined h l p hp =
      let e : get_or (joined ws d fs s n) (d + p / word_bits) 0 ≡ or_word ws d fs s (p / word_bits) = ap (λ (u : List ℕ). get_or u (d + p / word_bits) 0) (joined_yes ws d fs s n (both_fit_lem ws d fs s n h l)).0 ∙ or_inside ws d fs s n (p / word_bits) h (omega arith) in
      ap (λ (b : ℕ). eqb b 1) (place (joined ws d fs s n) d p) ∙ ap (λ (w : ℕ). eqb (digit w (p % word_bits)) 1) e
      ∙ or_bit (get_or ws (d + p / word_bits) 0) (get_or fs (s + p / word_bits) 0) (p % word_bits)
      ∙ sym (ap₂ (λ (a b : ℕ). eqb a 1 || eqb b 1) (place ws d p) (place fs s p))

  -- if it has no new number, nothing changes
  pub grows-not : grows ws d fs s n ≡ false → joined ws d fs s n ≡ ws
  grows-not e = go (both_fit ws d fs s n) refl
    where
      go : (b : Bool) → both_fit ws d fs s n ≡ b → joined ws d fs s n ≡ ws
      go true q = (joined_yes ws d fs s n q).0 ∙ or_same ws d fs s n (sym (joined_yes ws d fs s n q).1 ∙ e)
      go false q = sym (joined_no ws d fs s n q).0

  -- if it has, one is
  pub grows-new : Words ws → Words fs → grows ws d fs s n ≡ true → (p : ℕ) × (p < word_bits * n) × (has ws (word_bits * d + p) ≡ false) × (has fs (word_bits * s + p) ≡ true)
  grows-new wf ff e =
      let w = or_differs ws d fs s n (and_true_right (both_fit ws d fs s n) (or_grows ws d fs s n) e) in
      let i : ℕ = w.0 in
      let v = word_new (get_or ws (d + i) 0) (get_or fs (s + i) 0) (wf (d + i)) (ff (s + i)) w.2 in
      let b : ℕ = v.0 in
      let l : b < word_bits = v.1 in
      let li : i < n = w.1 in
      let q : (word_bits * i + b) / word_bits ≡ i = omega arith in
      let r : (word_bits * i + b) % word_bits ≡ b = omega arith in
      let at : (l : List ℕ) (k : ℕ) → has l (word_bits * k + (word_bits * i + b)) ≡ eqb (digit (get_or l (k + i) 0) b) 1 =
      λ l k. ap (λ (x : ℕ). eqb x 1) (place l k (word_bits * i + b)) ∙ ap₂ (λ (x y : ℕ). eqb (digit (get_or l (k + x) 0) y) 1) q r in
      (word_bits * i + b, omega arith, at ws d ∙ v.2, at fs s ∙ v.3)

  pub new-grows : d + n ≤ length ws → s + n ≤ length fs → (p : ℕ) → p < word_bits * n → has ws (word_bits * d + p) ≡ false → has fs (word_bits * s + p) ≡ true
      → grows ws d fs s n ≡ true
  new-grows h l p hp missing there = go (grows ws d fs s n) refl
    where
      go : (b : Bool) → grows ws d fs s n ≡ b → grows ws d fs s n ≡ true
      go true e = e
      go false e =
          absurd (true≢false (sym (has-joined h l p hp ∙ ap₂ (λ (a b : Bool). a || b) missing there) ∙ ap (λ (u : List ℕ). has u (word_bits * d + p)) (grows-not e) ∙ missing))

  -- both in one
  pub grows_exactly : Words ws → Words fs → d + n ≤ length ws → s + n ≤ length fs
      → (grows ws d fs s n ≡ true) ↔ ((p : ℕ) × (p < word_bits * n) × (has ws (word_bits * d + p) ≡ false) × (has fs (word_bits * s + p) ≡ true))
  grows_exactly wf ff h l = (grows-new wf ff, λ w. new-grows h l w.0 w.1 w.2 w.3)

-- ---- The union of two runs of one list

module _ (ws : List ℕ) (d s n : ℕ) where
  pub length-within : length (joined_within ws d s n) ≡ length ws
  length-within = pick (λ (l : List ℕ). length l ≡ length ws) (read_first d s n) (joined ws d ws s n) ws (length-joined ws d ws s n) refl

  pub within-fits : Words ws → Words (joined_within ws d s n)
  within-fits wf = pick (λ (l : List ℕ). Words l) (read_first d s n) (joined ws d ws s n) ws (joined-fits ws d ws s n wf wf) wf

  pub has-within_other : (j : ℕ) → (j < word_bits * d) ⊎ (word_bits * (d + n) ≤ j) → has (joined_within ws d s n) j ≡ has ws j
  has-within_other j h = pick (λ (l : List ℕ). has l j ≡ has ws j) (read_first d s n) (joined ws d ws s n) ws (has-joined_other ws d ws s n j h) refl

  pub has_within : read_first d s n ≡ true → d + n ≤ length ws → s + n ≤ length ws → (p : ℕ) → p < word_bits * n
      → has (joined_within ws d s n) (word_bits * d + p) ≡ (has ws (word_bits * d + p) || has ws (word_bits * s + p))
  has_within e h l p hp = ap (λ (u : List ℕ). has u (word_bits * d + p)) (within_yes ws d s n e).0 ∙ has-joined ws d ws s n h l p hp

-- ---- The empty run

module _ (ws : List ℕ) (s n : ℕ) where
  pub length-cleared : length (cleared ws s n) ≡ length ws
  length-cleared = pick (λ (l : List ℕ). length l ≡ length ws) (fits (length ws) s n) (zero_run ws s n) ws (length_zero ws s n) refl

  pub cleared-fits : Words ws → Words (cleared ws s n)
  cleared-fits wf = pick (λ (l : List ℕ). Words l) (fits (length ws) s n) (zero_run ws s n) ws (zero_fits ws s n wf) wf

  pub cleared_outside : (k : ℕ) → (k < s) ⊎ (s + n ≤ k) → get_or (cleared ws s n) k 0 ≡ get_or ws k 0
  cleared_outside k h = pick (λ (l : List ℕ). get_or l k 0 ≡ get_or ws k 0) (fits (length ws) s n) (zero_run ws s n) ws (zero_outside ws s n k h) refl

  pub has-cleared_other : (j : ℕ) → (j < word_bits * s) ⊎ (word_bits * (s + n) ≤ j) → has (cleared ws s n) j ≡ has ws j
  has-cleared_other j h =
      ap (λ (w : ℕ). eqb (digit w (j % word_bits)) 1) (cleared_outside (j / word_bits) (⊎_elim (λ q. inl (omega arith)) (λ q. inr (omega arith)) h))

  -- no number is in the run
  pub has-cleared : s + n ≤ length ws → (p : ℕ) → p < word_bits * n → has (cleared ws s n) (word_bits * s + p) ≡ false
  has-cleared h p hp =
      let f : fits (length ws) s n ≡ true = le-leb (s + n) (length ws) h in
      let e : get_or (cleared ws s n) (s + p / word_bits) 0 ≡ 0 = rw f (zero_inside ws s n (p / word_bits) h (omega arith)) in
      ap (λ (b : ℕ). eqb b 1) (place (cleared ws s n) s p) ∙ ap (λ (w : ℕ). eqb (digit w (p % word_bits)) 1) e ∙ ap (λ (x : ℕ). eqb (x % 2) 1) (zero-div (2 ^ (p % word_bits)))
