-- The number of 0 bits falls where a bit is added and none is lost. Assumes nothing.
use mathlib.Core.Path.{◌≡◌, refl, sym, ap, ◌∙◌}
use mathlib.Core.Bool.{Bool, true, false, cond, true≢false}
use mathlib.Core.List.{List}
use Prim.Native.Nat.{ℕ, zero, suc, ◌*◌, ◌/◌, ◌≤◌, ◌<◌}
use native.Mathlib.Decide.{ℕ_discrete, dec_lt}
use native.Mathlib.Omega.{arith}
use lib.ListN.{length}
use Rattle.nll_spec.specs.Output.{word_bits}
use Rattle.bit_set.specs.Bits.{has}
use Rattle.bit_set.proofs.BitLaws.{has_out}
use Rattle.bit_set.specs.Missing.{falses, missing}

module _ (f g : ℕ → Bool) (h : (j : ℕ) → f j ≡ true → g j ≡ true) where
  falses_le : (n : ℕ) → falses g n ≤ falses f n
  unfolding falses
  falses_le zero = omega arith
  falses_le (suc n) = go (f n) (g n) (h n) (falses_le n)
    where
      go : (a b : Bool) → (a ≡ true → b ≡ true) → falses g n ≤ falses f n → cond b (falses g n) (suc (falses g n)) ≤ cond a (falses f n) (suc (falses f n))
      go true true e r = r
      go true false e r = absurd (true≢false (sym (e refl)))
      go false true e r = omega arith
      go false false e r = omega arith

  falses_lt : (n j : ℕ) → j < n → f j ≡ false → g j ≡ true → falses g n < falses f n
  unfolding falses
  falses_lt zero j l ef eg = absurd (omega arith)
  falses_lt (suc n) j l ef eg = go (ℕ_discrete j n) (f n) (g n) refl refl (h n) (falses_le n) (λ k. falses_lt n j k ef eg)
    where
      go : Dec (j ≡ n) → (a b : Bool) → f n ≡ a → g n ≡ b → (a ≡ true → b ≡ true) → falses g n ≤ falses f n → (j < n → falses g n < falses f n)
          → cond b (falses g n) (suc (falses g n)) < cond a (falses f n) (suc (falses f n))
      go (yes q) true b ea eb e r s = absurd (true≢false (sym ea ∙ ap f (sym q) ∙ ef))
      go (yes q) false false ea eb e r s = absurd (true≢false (sym eg ∙ ap g q ∙ eb))
      go (yes q) false true ea eb e r s = omega arith
      go (no q) true true ea eb e r s = s (omega arith)
      go (no q) true false ea eb e r s = absurd (true≢false (sym (e refl)))
      go (no q) false true ea eb e r s = let t = s (omega arith) in omega arith
      go (no q) false false ea eb e r s = let t = s (omega arith) in omega arith

module _ (a b : List ℕ) (el : length b ≡ length a) (h : (j : ℕ) → has a j ≡ true → has b j ≡ true) where
  pub missing_le : missing b ≤ missing a
  unfolding missing
  missing_le = rw el (falses_le (has a) (has b) h (word_bits * length a))

  pub missing_lt : (j : ℕ) → has a j ≡ false → has b j ≡ true → missing b < missing a
  unfolding missing
  missing_lt j ea eb = rw el (falses_lt (has a) (has b) h (word_bits * length a) j (inside (dec_lt (j / word_bits) (length b))) ea eb)
    where
      inside : Dec (j / word_bits < length b) → j < word_bits * length a
      inside (yes l) = omega (arith, el)
      inside (no n) = absurd (true≢false (sym eb ∙ has_out b j (omega (arith, n))))
