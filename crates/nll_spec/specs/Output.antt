-- What the call returns and leaves in the two lent buffers.
use Rattle.std.specs.Prelude.{Bool, true, false, ◌&&◌, List, [], ◌∷◌, ◌++◌, map, ℕ, zero, suc, ◌+◌, ◌-◌, ◌*◌, ◌/◌, length, take, drop, leb}
use Rattle.nll_spec.specs.Lists.{gather, below}
use Rattle.nll_spec.specs.Fixpoint.{Table}
use Rattle.nll_spec.specs.Syntax.{Job}
use Rattle.nll_spec.specs.Decode.{Decoded, rejected, decoded, decode, point_count}
use Rattle.nll_spec.specs.WellFormed.{refusal}
use Rattle.nll_spec.specs.Graph.{graph_of}
use Rattle.nll_spec.specs.Constraints.{constraints_of}
use Rattle.nll_spec.specs.Regions.{EndRule, seed_table, solve, is_grown}
use Rattle.nll_spec.specs.Loans.{loans_of, scope_table}
use Rattle.nll_spec.specs.Access.{Verdict, verdict_at}

-- ---- The answer to a job: its number of points, the regions' sets, the verdicts by point, and which declared regions are grown

pub record Answer : Type 0 where
  pub points : ℕ
  pub sets : Table
  pub verdicts : List Verdict
  pub grown : List Bool

-- what is computed of an accepted job
unfoldable pub answer : EndRule → Job → Answer
answer ends j =
    let g = graph_of j in
    let seeds = seed_table j g in
    let sets = solve ends j g seeds (constraints_of j g) in
    let loans = loans_of g in
    let scope = scope_table j g sets loans in
    record {
      points = g.points;
      sets = sets;
      verdicts = map (verdict_at j g scope loans) (below g.points);
      grown = map (is_grown g seeds sets) (below (length j.outlives));
    }

-- ---- Words and bytes

-- how many bits a word has
abbrev pub word_bits : ℕ
word_bits = 32

abbrev pub bit : Bool → ℕ
bit true = 1
bit false = 0

-- the number with these bits, the lowest first
unfoldable pub from_bits : List Bool → ℕ
from_bits [] = 0
from_bits (b ∷ bs) = bit b + 2 * from_bits bs

-- a set as n words
unfoldable pub row_words : ℕ → List Bool → List ℕ
row_words zero bs = []
row_words (suc n) bs = from_bits (take word_bits bs) ∷ row_words n (drop word_bits bs)

-- how many words a set of n points takes
abbrev pub word_count : ℕ → ℕ
word_count n = (n + (word_bits - 1)) / word_bits

unfoldable pub words_of : Answer → List ℕ
words_of a = gather (row_words (word_count a.points)) a.sets

-- how many bytes a point's verdict takes
abbrev pub verdict_bytes : ℕ
verdict_bytes = 2

unfoldable pub bytes_of : Answer → List ℕ
bytes_of a = gather (λ v. v.kind ∷ v.operand ∷ []) a.verdicts ++ map bit a.grown

-- how many words and bytes a job's answer takes
unfoldable pub words_needed : Job → ℕ
words_needed j = j.regions * word_count (point_count j)

unfoldable pub bytes_needed : Job → ℕ
bytes_needed j = verdict_bytes * point_count j + length j.outlives

-- ---- The call

-- The number returned, 0 or a refusal, and both buffers afterwards.
pub record Outcome : Type 0 where
  pub number : ℕ
  pub words : List ℕ
  pub bytes : List ℕ

-- the buffer with its first elements overwritten
abbrev pub overwrite : List ℕ → List ℕ → List ℕ
overwrite new old = new ++ drop (length new) old

-- a refusal changes neither buffer
abbrev pub unchanged : ℕ → List ℕ → List ℕ → Outcome
unchanged n ws bs = record { number = n; words = ws; bytes = bs }

-- an accepted job's answer, if both buffers have room for it; else refusal 10
unfoldable pub write : EndRule → Job → List ℕ → List ℕ → Outcome
write ends j ws bs = elim (leb (words_needed j) (length ws) && leb (bytes_needed j) (length bs)) [
  | true ↦ record { number = 0; words = overwrite (words_of (answer ends j)) ws; bytes = overwrite (bytes_of (answer ends j)) bs }
  | false ↦ unchanged 10 ws bs
]

-- Refusals 6 to 9 of a job that was read.
unfoldable pub judge_job : Job → Decoded
judge_job j = elim (refusal j) [ zero ↦ decoded j | suc n ↦ rejected (suc n) ]

-- Refusals 1 to 9 of a record, or its job.
unfoldable pub judge : List ℕ → Decoded
judge input = elim (decode input) [ rejected n ↦ rejected n | decoded j ↦ judge_job j ]

-- The whole call: a record, the words and the bytes before.
unfoldable pub analyse : EndRule → List ℕ → List ℕ → List ℕ → Outcome
analyse ends input ws bs = elim (judge input) [ rejected n ↦ unchanged n ws bs | decoded j ↦ write ends j ws bs ]
