-- The union of a run with all of the words of another list, by `bit_set`'s definitions.
use Rattle.std.specs.Prelude.{◌≡◌, Bool, List, ℕ, length}
use Rattle.bit_set.specs.Bits.{joined, grows}

-- The words afterwards are ws with the numbers of fs in the run from start, and the answer is whether that run grew.
abbrev pub JoinsAll : List ℕ → ℕ → List ℕ → List ℕ → Bool → Type 0
JoinsAll ws start fs after answer = (after ≡ joined ws start fs 0 (length fs)) × (answer ≡ grows ws start fs 0 (length fs))
