-- The bits of a word, one after the other: `rest` is the word without those below a place. Assumes nothing.
use mathlib.Core.Path.{◌≡◌, sym, ap, ◌∙◌}
use mathlib.Core.Bool.{false}
use Prim.Native.Nat.{ℕ, ◌+◌, ◌-◌, ◌/◌, ◌%◌, ◌^◌, ◌≤◌}
use native.Mathlib.Nat.{zero-div}
use native.Mathlib.Omega.{arith}
use lib.Dec.{eqb}
use lib.Pow.{shr-shr}

pub shift_none : (w from : ℕ) → w ≡ w / 2 ^ (from - from)
shift_none w from = let e : from - from ≡ 0 = omega arith in let y : w / 1 ≡ w = omega arith in sym (ap (λ (x : ℕ). w / 2 ^ x) e ∙ y)

module _ (w from : ℕ) {p rest : ℕ} (l : from ≤ p) (r : rest ≡ w / 2 ^ (p - from)) where
  pub shift_more : rest / 2 ≡ w / 2 ^ (p + 1 - from)
  shift_more = let e : p - from + 1 ≡ p + 1 - from = omega arith in ap (λ (x : ℕ). x / 2) r ∙ shr-shr w (p - from) 1 ∙ ap (λ (x : ℕ). w / 2 ^ x) e

  -- nothing is left of the word
  pub shift_done : rest ≡ 0 → (q : ℕ) → p ≤ q → eqb (w / 2 ^ (q - from) % 2) 1 ≡ false
  shift_done z q n =
      let e : (p - from) + (q - p) ≡ q - from = omega (arith, l) in
      ap (λ (x : ℕ). eqb (x % 2) 1) (ap (λ (x : ℕ). w / 2 ^ x) (sym e) ∙ sym (shr-shr w (p - from) (q - p)) ∙ ap (λ (x : ℕ). x / 2 ^ (q - p)) (sym r ∙ z) ∙ zero-div (2 ^ (q - p)))
