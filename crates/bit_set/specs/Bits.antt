-- Sets of numbers in words: j is in a list of words where bit j is 1, as `nll_spec` counts bits. The set that starts at word s has the number p where
-- the list has word_bits * s + p. Each definition is total: a number past the words is in no set, and a number or a run past the words changes nothing.
use Rattle.std.specs.Prelude.{Bool, false, not, ◌&&◌, ◌||◌, cond, List, ℕ, zero, suc, ◌+◌, ◌-◌, ◌*◌, ◌/◌, ◌%◌, ◌^◌, length, get_or, set, eqb, leb, ltb}
use Rattle.std.specs.Int.Bits.{bit_or}
use Rattle.nll_spec.specs.Output.{word_bits}
use Rattle.nll_spec.specs.Meaning.{bit_of}

-- ---- One number

-- j is in the set
abbrev pub has : List ℕ → ℕ → Bool
has ws j = eqb (bit_of ws j) 1

-- the set with j
abbrev pub with_bit : List ℕ → ℕ → List ℕ
with_bit ws j = set ws (j / word_bits) (bit_or (get_or ws (j / word_bits) 0) (2 ^ (j % word_bits)))

-- j has a word and is not in the set
abbrev pub is_new : List ℕ → ℕ → Bool
is_new ws j = ltb (j / word_bits) (length ws) && not (has ws j)

-- the set without j
abbrev pub without_bit : List ℕ → ℕ → List ℕ
without_bit ws j = set ws (j / word_bits) (get_or ws (j / word_bits) 0 - bit_of ws j * 2 ^ (j % word_bits))

-- ---- Runs of words

-- the n words from s on are among the first `count`
abbrev pub fits : ℕ → ℕ → ℕ → Bool
fits count s n = leb (s + n) count

-- word i of the run from d in ws, with the bits of word i of the run from s in fs
abbrev pub or_word : List ℕ → ℕ → List ℕ → ℕ → ℕ → ℕ
or_word ws d fs s i = bit_or (get_or ws (d + i) 0) (get_or fs (s + i) 0)

-- the first n words of the run from d replaced by these
abbrev pub or_run : List ℕ → ℕ → List ℕ → ℕ → ℕ → List ℕ
or_run ws d fs s zero = ws
or_run ws d fs s (suc n) = set (or_run ws d fs s n) (d + n) (or_word ws d fs s n)

-- one of them differs
abbrev pub or_grows : List ℕ → ℕ → List ℕ → ℕ → ℕ → Bool
or_grows ws d fs s zero = false
or_grows ws d fs s (suc n) = or_grows ws d fs s n || not (eqb (get_or ws (d + n) 0) (or_word ws d fs s n))

-- both runs fit
abbrev pub both_fit : List ℕ → ℕ → List ℕ → ℕ → ℕ → Bool
both_fit ws d fs s n = fits (length ws) d n && fits (length fs) s n

-- the union: the run of n words from d in ws with the numbers of that from s in fs
abbrev pub joined : List ℕ → ℕ → List ℕ → ℕ → ℕ → List ℕ
joined ws d fs s n = cond (both_fit ws d fs s n) (or_run ws d fs s n) ws

-- the union has a number that the run from d has not
abbrev pub grows : List ℕ → ℕ → List ℕ → ℕ → ℕ → Bool
grows ws d fs s n = both_fit ws d fs s n && or_grows ws d fs s n

-- going up, each word of the run from s is read before it is written, as part of the run from d: s is not below d, or the run from s ends there
abbrev pub read_first : ℕ → ℕ → ℕ → Bool
read_first d s n = leb d s || fits d s n

-- the union, of two runs of one list
abbrev pub joined_within : List ℕ → ℕ → ℕ → ℕ → List ℕ
joined_within ws d s n = cond (read_first d s n) (joined ws d ws s n) ws

-- that union has a number that the run from d has not
abbrev pub grows_within : List ℕ → ℕ → ℕ → ℕ → Bool
grows_within ws d s n = read_first d s n && grows ws d ws s n

-- zeros in the first n words of the run from s
abbrev pub zero_run : List ℕ → ℕ → ℕ → List ℕ
zero_run ws s zero = ws
zero_run ws s (suc n) = set (zero_run ws s n) (s + n) 0

-- the empty set in the run of n words from s
abbrev pub cleared : List ℕ → ℕ → ℕ → List ℕ
cleared ws s n = cond (fits (length ws) s n) (zero_run ws s n) ws
