-- Boundary cases, as a file of recorded answers.
use Rattle.std.specs.Prelude.{List, [], ◌∷◌, ◌++◌, ℕ, ◌+◌, ◌/◌, ◌%◌, length, replicate}

-- a number in two bytes
abbrev pub in_two : ℕ → List ℕ
in_two n = n / 256 ∷ n % 256 ∷ []

-- an entry of a record: the number, the words' bytes and the bytes
abbrev pub entry : List ℕ → ℕ → List ℕ → List ℕ → List ℕ
entry input n words bytes = in_two (length input) ++ input ++ n ∷ in_two (length words / 4) ++ words ++ in_two (length bytes) ++ bytes

-- a block of n actions Noop, and the length that goes before it
abbrev pub noops : ℕ → List ℕ
noops n = 1 ∷ in_two (n + 7) ++ 0 ∷ 0 ∷ 0 ∷ 0 ∷ 1 ∷ 0 ∷ n ∷ replicate n 0

-- case 9 where 1 outlives 0, and a third declared region
abbrev pub third_declared : List ℕ
third_declared = 1 ∷ 0 ∷ 29 ∷ 0 ∷ 3 ∷ 3 ∷ 2 ∷ 1 ∷ 0 ∷ 1 ∷ 0 ∷ 0 ∷ 1 ∷ 1 ∷ 0 ∷ 0 ∷ 0 ∷ 1 ∷ 1 ∷ 0 ∷ 1 ∷ 0 ∷ 0 ∷ 2 ∷ 3 ∷ 0 ∷ 0 ∷ 0 ∷ 1 ∷ 5 ∷ 0 ∷ 0 ∷ []

-- the length n, and n bytes
abbrev pub of_length : ℕ → List ℕ
of_length n = 1 ∷ in_two n ++ replicate n 0

-- 64 actions pass: 65 points without a fault
unfoldable pub most_actions : List ℕ
most_actions = entry (noops 64) 0 [] (replicate 130 0)

-- 65 give 4
unfoldable pub too_many_actions : List ℕ
too_many_actions = entry (noops 65) 4 [] []

-- the sets of three regions, no fault at six points, and 1 is grown
unfoldable pub third_grows : List ℕ
third_grows = entry third_declared 0 (0 ∷ 0 ∷ 0 ∷ 15 ∷ 0 ∷ 0 ∷ 0 ∷ 63 ∷ 0 ∷ 0 ∷ 0 ∷ 39 ∷ []) (replicate 13 0 ++ 1 ∷ 0 ∷ [])

-- a length of 16,385 gives 2
unfoldable pub too_long : List ℕ
too_long = entry (of_length 16385) 2 [] []

abbrev pub run_file : List ℕ
run_file = in_two 4 ++ most_actions ++ too_many_actions ++ third_grows ++ too_long
