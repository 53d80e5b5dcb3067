-- How many bits of a list of words are 0.
use Rattle.std.specs.Prelude.{Bool, cond, List, ℕ, zero, suc, ◌*◌, length}
use Rattle.nll_spec.specs.Output.{word_bits}
use Rattle.bit_set.specs.Bits.{has}

-- how many numbers below n fail the test
unfoldable pub falses : (ℕ → Bool) → ℕ → ℕ
falses f zero = 0
falses f (suc n) = cond (f n) (falses f n) (suc (falses f n))

unfoldable pub missing : List ℕ → ℕ
unfolding falses
missing ws = falses (has ws) (word_bits * length ws)
