-- The union with a run of words that is lent as a slice of its own. Assumes nothing.
use mathlib.Core.Path.{◌≡◌, refl, ap, ap₂, ◌∙◌}
use mathlib.Core.Bool.{Bool, true, not, ◌||◌}
use mathlib.Core.List.{List}
use Prim.Native.Nat.{ℕ, zero, suc, ◌+◌, ◌-◌, ◌≤◌, ◌<◌}
use native.Mathlib.Omega.{arith}
use lib.ListN.{length, get_or, set, drop, length-take, length-drop}
use lib.Dec.{eqb}
use lib.Bits.{bit_or}
use borrow.Author.Tests.{leb-true, le-leb}
use Rattle.bit_set.specs.Bits.{fits, or_word, or_run, or_grows, joined, grows}
use Rattle.bit_slice.specs.Union.{JoinsAll}
use Rattle.bit_slice.proofs.SomeLaws.{run, run_word}

module _ (ws : List ℕ) (d : ℕ) (fs : List ℕ) (s n : ℕ) where
  -- the run of n words from s
  abbrev lent : List ℕ
  lent = run fs s (s + n)

  or_word_run : (i : ℕ) → i < n → or_word ws d lent 0 i ≡ or_word ws d fs s i
  or_word_run i l =
      let z : 0 + i ≡ i = omega arith in
      ap (λ (w : ℕ). bit_or (get_or ws (d + i) 0) w) (ap (λ (k : ℕ). get_or lent k 0) z ∙ run_word fs s (s + n) i (omega arith))

  or_run_run : (i : ℕ) → i ≤ n → or_run ws d lent 0 i ≡ or_run ws d fs s i
  or_run_run zero l = refl
  or_run_run (suc i) l = ap₂ (λ (u : List ℕ) (w : ℕ). set u (d + i) w) (or_run_run i (omega arith)) (or_word_run i (omega arith))

  or_grows_run : (i : ℕ) → i ≤ n → or_grows ws d lent 0 i ≡ or_grows ws d fs s i
  or_grows_run zero l = refl
  or_grows_run (suc i) l = ap₂ (λ (c : Bool) (w : ℕ). c || not (eqb (get_or ws (d + i) 0) w)) (or_grows_run i (omega arith)) (or_word_run i (omega arith))

  -- the union with a run that fits
  pub joined_run : (u : List ℕ) (r : Bool) → fits (length fs) s n ≡ true → JoinsAll ws d lent u r → (u ≡ joined ws d fs s n) × (r ≡ grows ws d fs s n)
  joined_run u r f j =
      let h = leb-true (s + n) (length fs) f in
      let k : length lent ≡ n = omega (arith, h, length-take (s + n - s) (drop s fs), length-drop s fs) in
      let g : fits n 0 n ≡ true = le-leb (0 + n) n (omega arith) in
      rw f (rw (k, g, or_run_run n (omega arith), or_grows_run n (omega arith)) at j)
