-- The loans in scope at each point, in four words a point.
use Rattle.std.specs.Prelude.{◌≡◌, Bool, not, ◌&&◌, List, [], ◌∷◌, ℕ, ◌*◌, ◌+◌, ◌<◌, ◌≤◌, length, T, eqb, Option, Some, None}
use Rattle.nll_spec.specs.Lists.{any}
use Rattle.nll_spec.specs.Fixpoint.{Table, holds}
use Rattle.nll_spec.specs.Syntax as syntax
use Rattle.nll_spec.specs.Syntax.{Job, Point}
use Rattle.nll_spec.specs.Decode.{code_count, point_count}
use Rattle.nll_spec.specs.WellFormed.{named}
use Rattle.nll_spec.specs.Types.{is_prefix}
use Rattle.nll_spec.specs.Graph.{graph_of, action_at}
use Rattle.nll_spec.specs.Loans.{loans_of, loan_number, overwritten, scope_table}
use Rattle.nll_spec.specs.Loans as loans
use Rattle.nll_spec.specs.Output.{word_bits}
use Rattle.bit_set.specs.Bits.{has}
use Rattle.bit_set.specs.Rows.{Says}
use Rattle.repr.specs.Reading.{path_of}
use Rattle.repr.specs.declared.Action.{Action}
use Rattle.repr.specs.declared.Action.TheVariants.{Noop, Init, Borrow, Assign, Constraint, Use, Drop, StorageDead}
use Rattle.repr.specs.declared.Path.{Path}
use Rattle.record.specs.Layout.{Holds}
use Rattle.record.specs.declared.Record.{Record}
use Rattle.graph.specs.Tables.{Edges}
use Rattle.graph.specs.declared.tables.FuncGraph.{FuncGraph}
use Rattle.loans.specs.Loans.{LoansAt}
use Rattle.loans.specs.declared.Loan.{Loan}
use Rattle.loans_in_scope.specs.Gains.{Bits}

-- ---- What is overwritten

abbrev pub overwritten_by : Action → Option Path
overwritten_by Noop = None
overwritten_by (Init dest n) = Some dest
overwritten_by (Borrow dest r k source) = Some dest
overwritten_by (Assign dest source) = Some dest
overwritten_by (Constraint sup sub) = None
overwritten_by (Use p) = None
overwritten_by (Drop p) = None
overwritten_by (StorageDead v) = None

-- the paths of an answer, as `overwritten` has them
abbrev pub paths_of : List ℕ → Option Path → List syntax.Path
paths_of s (Some d) = path_of s d ∷ []
paths_of s None = []

-- ---- A loan at a point

-- one of these paths is a prefix of the loan's
abbrev pub killed : Job → List syntax.Path → loans.Loan → Bool
killed j ds loan = any (λ d. is_prefix j d loan.path) ds

-- The bits of a loan at a point that overwrites ds, where `inside` says whether its region holds the point: it starts there, or may pass, unless it is
-- killed.
abbrev pub bits_of : Job → List syntax.Path → Bool → loans.Loan → Point → Bits
bits_of j ds inside loan p =
    record { start = eqb loan.point p && not (killed j ds loan); pass = inside && not (killed j ds loan); region = inside }

-- region r's set in the words holds p
abbrev pub inside_of : List ℕ → ℕ → ℕ → Point → Bool
inside_of words width r p = has words (word_bits * (r * width) + p)

-- a loan starts at a point that overwrites ds
abbrev pub starts : Job → List syntax.Path → loans.Loan → Point → Bool
starts j ds loan p = eqb loan.point p && not (killed j ds loan)

-- the bits of loan i of a job with these sets
abbrev pub job_bits : Job → Table → Point → ℕ → Bits
job_bits j sets p i =
    bits_of j (overwritten (action_at (graph_of j) p)) (holds sets (loan_number (loans_of (graph_of j)) i).region p) (loan_number (loans_of (graph_of j)) i) p

-- ---- What is handed over

-- A job of the record, its loans, and the regions' sets in so many words each.
pub record Given (input : Record) (words : List ℕ) (width : ℕ) (lent : List Loan) (count : ℕ) (j : Job) (sets : Table) : Type 0 where
  pub layout : Holds input j
  pub names : T (named j)
  pub loans : LoansAt input.bytes.now j lent count
  pub rows : length sets ≡ j.regions
  pub says : Says width sets words
  pub narrow : width ≤ 32
  pub room : point_count j ≤ word_bits * width

-- The words have the loans in scope: loan i at point p is number i of the four words from 4 * p on.
pub record ScopeSays (graph : FuncGraph) (words : List ℕ) (width : ℕ) (lent : List Loan) (count : ℕ) (scope : List ℕ) : Type 0 where
  pub bits : (j : Job) (sets : Table) → Given graph.input words width lent count j sets → Edges (graph_of j) graph.first graph.succ → (p : Point) (i : ℕ) → p < code_count j.blocks → i < count
      → has scope (word_bits * (4 * p) + i) ≡ holds (scope_table j (graph_of j) sets (loans_of (graph_of j))) i p
