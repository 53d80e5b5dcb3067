-- Whether a run of words has a number.
use Rattle.std.specs.Prelude.{◌≡◌, ◌⊎◌, Bool, true, false, List, ℕ, ◌+◌, ◌*◌, ◌<◌, length, get_or}
use Rattle.nll_spec.specs.Output.{word_bits}
use Rattle.bit_set.specs.Bits.{has}

-- Where the answer is no, the n words from start on have no number. Where it is yes, one of them is not 0, or lies past the words.
pub record SomeSet (words : List ℕ) (start n : ℕ) (r : Bool) : Type 0 where
  pub none : r ≡ false → (i : ℕ) → i < word_bits * n → has words (word_bits * start + i) ≡ false
  pub some : r ≡ true → (length words < start + n) ⊎ ((k : ℕ) × (k < n) × (get_or words (start + k) 0 ≡ 0 → ⊥))
