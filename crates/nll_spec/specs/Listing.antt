-- The program `nll-list`: from the text on standard input to the text that it prints, both as ASCII codes.
use Rattle.std.specs.Prelude.{Bool, true, false, ◌&&◌, ◌||◌, not, List, [], ◌∷◌, ◌++◌, ℕ, zero, suc, ◌+◌, ◌-◌, ◌*◌, ◌/◌, ◌%◌, length, get_or, leb, ltb, eqb}
use Rattle.std.proofs.Math.Option.{Option, none, some}
use Prim.Native.Char.{code}
use Prim.Native.String.{String, [] as empty, ◌∷◌ as then}
use Rattle.nll_spec.specs.Lists.{select, gather, below}
use Rattle.nll_spec.specs.Fixpoint.{holds}
use Rattle.nll_spec.specs.Syntax.{Job, Point}
use Rattle.nll_spec.specs.Decode.{rejected, decoded}
use Rattle.nll_spec.specs.Regions.{every_end}
use Rattle.nll_spec.specs.Access.{Verdict, no_fault}
use Rattle.nll_spec.specs.Output.{Answer, answer, judge}

-- the codes of a text
unfoldable pub ascii : String → List ℕ
ascii empty = []
ascii (then c cs) = code c ∷ ascii cs

-- ---- Hexadecimal in

-- a space, a line feed or a carriage return
abbrev pub is_skipped : ℕ → Bool
is_skipped c = eqb c 0x20 || eqb c 0x0A || eqb c 0x0D

abbrev pub between : ℕ → ℕ → ℕ → Bool
between low high c = leb low c && leb c high

-- the value of a digit, in either case of its letters
unfoldable pub digit : ℕ → Option ℕ
digit c =
    elim (between 0x30 0x39 c) [
      | true ↦ some (c - 0x30)
      | false ↦ elim (between 0x41 0x46 c) [ true ↦ some (c - 0x37) | false ↦ elim (between 0x61 0x66 c) [ true ↦ some (c - 0x57) | false ↦ none ] ]
    ]

-- the bytes of the digits in a text, two digits a byte, or none for other text or an odd digit; `high` is a first digit that waits for its second
unfoldable pub bytes_from : Option ℕ → List ℕ → Option (List ℕ)
bytes_from high [] = elim high [ none ↦ some [] | some h ↦ none ]
bytes_from high (c ∷ cs) =
    elim (is_skipped c) [
      | true ↦ bytes_from high cs
      | false ↦ elim (digit c) [
        | none ↦ none
        | some d ↦ elim high [ none ↦ bytes_from (some d) cs | some h ↦ elim (bytes_from none cs) [ none ↦ none | some bs ↦ some ((h * 16 + d) ∷ bs) ] ]
      ]
    ]

-- The record that a text stands for; other text, and an odd digit, are read as an empty record.
unfoldable pub hex_bytes : List ℕ → List ℕ
hex_bytes text = elim (bytes_from none text) [ none ↦ [] | some bs ↦ bs ]

-- ---- Decimal lines out

-- the decimal digits of a number; it has at most `most` of them
unfoldable pub digits_of : ℕ → ℕ → List ℕ
digits_of zero n = []
digits_of (suc most) n = elim (ltb n 10) [ true ↦ (0x30 + n) ∷ [] | false ↦ digits_of most (n / 10) ++ ((0x30 + n % 10) ∷ []) ]

-- a space and a number in decimal
abbrev pub spaced : ℕ → List ℕ
spaced n = 0x20 ∷ digits_of (suc n) n

-- a line: a word and numbers
unfoldable pub line : String → List ℕ → List ℕ
line word ns = ascii word ++ gather spaced ns ++ (0x0A ∷ [])

-- the verdict of a point
abbrev pub verdict_of : Answer → Point → Verdict
verdict_of a p = get_or a.verdicts p no_fault

-- the point count; each region's points; each fault's point, kind and operand; each grown region
unfoldable pub answer_lines : Job → Answer → List ℕ
answer_lines j a =
    line "points" (a.points ∷ [])
    ++ gather (λ r. line "region" (r ∷ select (holds a.sets r) (below a.points))) (below j.regions)
    ++ gather (λ p. line "access" (p ∷ (verdict_of a p).kind ∷ (verdict_of a p).operand ∷ [])) (select (λ p. not (eqb (verdict_of a p).kind 0)) (below a.points))
    ++ gather (λ r. line "grown" (r ∷ [])) (select (λ r. get_or a.grown r false) (below (length j.outlives)))

-- All that `nll-list` prints, from all of its input. A refusal is one line.
unfoldable pub listing : List ℕ → List ℕ
listing text = elim (judge (hex_bytes text)) [ rejected n ↦ line "refused" (n ∷ []) | decoded j ↦ answer_lines j (answer every_end j) ]
