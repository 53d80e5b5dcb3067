-- What each step of an accepting call leaves.
use Rattle.std.specs.Prelude.{◌≡◌, Bool, ◌&&◌, List, [], ◌∷◌, map, ℕ, ◌+◌, ◌*◌, ◌≤◌, length, take, leb}
use Rattle.nll_spec.specs.Lists.{gather}
use Rattle.nll_spec.specs.Syntax.{Job}
use Rattle.nll_spec.specs.Decode.{point_count, borrow_count}
use Rattle.nll_spec.specs.WellFormed.{refusal}
use Rattle.nll_spec.specs.Graph.{graph_of}
use Rattle.nll_spec.specs.Regions.{every_end}
use Rattle.nll_spec.specs.Output.{Answer, answer, bit, word_count, words_of, bytes_of, verdict_bytes, words_needed, overwrite}
use Rattle.nll_spec.specs.Meaning.{Room}
use Rattle.bit_set.specs.Rows.{Says}
use Rattle.record.specs.Layout.{Holds}
use Rattle.record.specs.declared.Head.{Head}
use Rattle.record.specs.declared.Record.{Record}
use Rattle.graph.specs.Tables.{Edges}
use Rattle.graph.specs.Search.{WalkedIn}
use Rattle.graph.specs.declared.tables.FuncGraph.{FuncGraph}
use Rattle.infer.specs.declared.Shape.{Shape}
use Rattle.seeds.specs.Seeded.{Seeded}

-- ---- Sizes

-- how many words a set takes and how many points there are, by a job's head
abbrev pub shape_of : Head → Shape
shape_of h = record { width = word_count (h.code + h.declared); code = h.code; points = h.code + h.declared }

-- so many words and bytes have room for the answer
abbrev pub room_for : Head → ℕ → ℕ → Bool
room_for h words bytes = leb (h.regions * (shape_of h).width) words && leb (verdict_bytes * (shape_of h).points + h.declared) bytes

-- ---- The job

-- A job of the record that 1 to 9 let pass.
pub record JobAt (input : Record) (j : Job) : Type 0 where
  pub layout : Holds input j
  pub accepted : refusal j ≡ 0
  pub points : point_count j ≤ 1024
  pub loans : borrow_count j ≤ 128

-- The tables say what follows each point, and the words which points are walked.
pub record Mapped (g : FuncGraph) (j : Job) : Type 0 where
  pub edges : Edges (graph_of j) g.first g.succ
  pub walks : WalkedIn j g.walked

-- ---- The words

-- The words become the regions' seeds.
pub record Seeds (g : FuncGraph) (width : ℕ) (ws ws' : List ℕ) : Type 0 where
  pub seeded : (j : Job) → JobAt g.input j → Mapped g j → width ≡ word_count (point_count j) → j.regions * width ≤ length ws → Seeded j width ws ws'

-- The words are the answer's, and the marks say which declared regions are grown.
pub record Answered (j : Job) (ws ws' grown : List ℕ) : Type 0 where
  pub says : Says (word_count (point_count j)) (answer every_end j).sets ws'
  pub words : ws' ≡ overwrite (words_of (answer every_end j)) ws
  pub marks : take (length j.outlives) grown ≡ map bit (answer every_end j).grown

pub record Solves (g : FuncGraph) (ws ws' grown : List ℕ) : Type 0 where
  pub size : length grown ≡ 128
  pub solved : (j : Job) → JobAt g.input j → Mapped g j → words_needed j ≤ length ws → Answered j ws ws' grown

-- ---- The bytes

-- the bytes of the verdicts
abbrev pub verdicts_of : Answer → List ℕ
verdicts_of a = gather (λ v. v.kind ∷ v.operand ∷ []) a.verdicts

-- The verdicts are written.
pub record Judges (g : FuncGraph) (ws bs bs' : List ℕ) : Type 0 where
  pub size : length bs' ≡ length bs
  pub judged : (j : Job) → JobAt g.input j → Mapped g j → Says (word_count (point_count j)) (answer every_end j).sets ws
      → verdict_bytes * point_count j ≤ length bs → bs' ≡ overwrite (verdicts_of (answer every_end j)) bs

-- ---- Both

-- The answer is written.
pub record Writes (input : Record) (ws bs ws' bs' : List ℕ) : Type 0 where
  pub words : (j : Job) → JobAt input j → Room j ws bs → ws' ≡ overwrite (words_of (answer every_end j)) ws
  pub bytes : (j : Job) → JobAt input j → Room j ws bs → bs' ≡ overwrite (bytes_of (answer every_end j)) bs
