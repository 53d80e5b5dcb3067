-- A run of words with or without a number. Assumes nothing.
use mathlib.Core.Path.{◌≡◌, sym, ◌∙◌}
use mathlib.Core.Logic.{inr}
use mathlib.Core.Bool.{Bool, true, false, true≢false}
use mathlib.Core.List.{List}
use Prim.Native.Nat.{ℕ, ◌+◌, ◌-◌, ◌*◌, ◌/◌, ◌%◌, ◌^◌, ◌≤◌, ◌<◌}
use native.Mathlib.Omega.{arith}
use native.Mathlib.Nat.{zero-div}
use lib.ListN.{length, get_or, take, drop, length-take, length-drop}
use lib.Seq.{get_or-take, get_or-drop}
use Rattle.std.proofs.Common.{MatchBool}
use Rattle.std.specs.List.{HoldsAt, AllWithin}
use Rattle.nll_spec.specs.Output.{word_bits}
use Rattle.bit_set.specs.Bits.{has}
use Rattle.bit_slice.specs.Some.{SomeSet}

-- a word that is 0 has no number
blank_bit : (words : List ℕ) (i : ℕ) → get_or words (i / word_bits) 0 ≡ 0 → has words i ≡ false
blank_bit words i e = rw (e, zero-div (2 ^ (i % word_bits)))

-- what `&words[start..end]` lends
abbrev pub run : List ℕ → ℕ → ℕ → List ℕ
run words start end = take (end - start) (drop start words)

pub run_word : (words : List ℕ) (start end k : ℕ) → k < end - start → get_or (run words start end) k 0 ≡ get_or words (start + k) 0
run_word words start end k l = get_or-take (end - start) (drop start words) k 0 l ∙ get_or-drop start words k 0

-- what `any` shows of the run
pub some_any : (words : List ℕ) (start n end : ℕ) (r : Bool) → end ≡ start + n → end ≤ length words
    → MatchBool r ((k : ℕ) × (k < length (run words start end)) × HoldsAt (λ w. w ≡ 0 → ⊥) (run words start end) k) (AllWithin (λ w. w ≡ 0) (run words start end) 0 (length (run words start end)))
    → SomeSet words start n r
some_any words start n end true e l h =
    let k : h.0 < end - start = omega (arith, h.1, length-take (end - start) (drop start words)) in
    record { none = λ f. absurd (true≢false f); some = λ f. inr (h.0, omega (arith, k, e), λ z. h.2 0 (run_word words start end h.0 k ∙ z)) }
some_any words start n end false e l h = record {
  none = λ f i o.
      let k : i / word_bits < end - start = omega (arith, e, o) in
      let w : (word_bits * start + i) / word_bits ≡ start + i / word_bits = omega arith in
      let m : i / word_bits < length (run words start end) = omega (arith, l, k, length-take (end - start) (drop start words), length-drop start words) in
      blank_bit words (word_bits * start + i) (rw w (sym (run_word words start end (i / word_bits) k) ∙ h (i / word_bits) 0 (omega arith) m));
  some = λ f. absurd (true≢false (sym f));
}
