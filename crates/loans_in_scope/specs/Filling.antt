-- How the tables are filled that the loans in scope are computed from.
use Rattle.std.specs.Prelude.{◌≡◌, Bool, true, not, ◌&&◌, List, ℕ, ◌<◌, ◌≤◌}
use Rattle.nll_spec.specs.Fixpoint.{Table}
use Rattle.nll_spec.specs.Syntax as syntax
use Rattle.nll_spec.specs.Syntax.{Job, Point}
use Rattle.nll_spec.specs.Decode.{code_count}
use Rattle.nll_spec.specs.Graph.{graph_of, action_at}
use Rattle.nll_spec.specs.Loans.{overwritten}
use Rattle.nll_spec.specs.Loans as loans
use Rattle.bit_set.specs.Bits.{has}
use Rattle.record.specs.Layout.{Holds}
use Rattle.flow.specs.Flows.{bit_at}
use Rattle.loans.specs.Loans.{nth_loan, loan_of}
use Rattle.loans.specs.declared.Loan.{Loan}
use Rattle.loans_in_scope.specs.Gains.{Tables, Gains, Filled, Cells, Column, Below}
use Rattle.loans_in_scope.specs.Scope.{killed, inside_of, starts, job_bits, Given, ScopeSays}
use Rattle.loans_in_scope.specs.declared.Setup.{Setup}

abbrev pub given_to : Setup → Job → Table → Type 0
given_to u j sets = Given u.graph.now.input u.words.now u.width u.loans.now.loans u.loans.now.count j sets

abbrev pub says_of : Setup → List ℕ → Type 0
says_of u scope = ScopeSays u.graph.now u.words.now u.width u.loans.now.loans u.loans.now.count scope

-- loan i, as `nll_spec` has it
abbrev pub loan_in : Setup → ℕ → loans.Loan
loan_in u i = loan_of u.graph.now.input.bytes.now (nth_loan u.loans.now.loans i)

-- number i of the points that region r has
abbrev pub RegionTo : Setup → ℕ → ℕ → Point → ℕ → Type 0
RegionTo u r i p k = Column u.code i p k × (inside_of u.words.now u.width r p ≡ true)

-- the first c loans at the points that their regions have
abbrev pub RegionsTo : Setup → ℕ → Point → ℕ → Type 0
RegionsTo u c p i = Below u.code c p i × (inside_of u.words.now u.width (loan_in u i).region p ≡ true)

-- the set of a point that overwrites ds has loan i, which is not killed there
abbrev pub keeps : Job → Setup → List ℕ → List syntax.Path → Point → ℕ → Bool
keeps j u region ds p i = has region (bit_at p i) && not (killed j ds (loan_in u i))

-- those of the first n loans at point p
abbrev pub KeptOf : Job → Setup → List ℕ → List syntax.Path → Point → ℕ → Point → ℕ → Type 0
KeptOf j u region ds p n q i = Cells p n q i × (keeps j u region ds q i ≡ true)

-- Loan i came to the set of the point where it starts, if that is a point of a block.
pub record Begins (u : Setup) (loan : Loan) (i : ℕ) (ws ws' : List ℕ) : Type 0 where
  pub bits : (j : Job) → Holds u.graph.now.input j → u.code ≤ code_count j.blocks
      → Gains (λ p k. Column u.code i p k × (starts j (overwritten (action_at (graph_of j) p)) (loan_of u.graph.now.input.bytes.now loan) p ≡ true)) ws ws'

-- The same for the first c loans.
pub record Begun (u : Setup) (c : ℕ) (ws ws' : List ℕ) : Type 0 where
  pub bits : (j : Job) → Holds u.graph.now.input j → u.code ≤ code_count j.blocks
      → Gains (λ p i. Below u.code c p i × (starts j (overwritten (action_at (graph_of j) p)) (loan_in u i) p ≡ true)) ws ws'

-- The loans that may pass point p came to its set.
pub record Kept (u : Setup) (region : List ℕ) (p : Point) (ws ws' : List ℕ) : Type 0 where
  pub bits : (j : Job) → Holds u.graph.now.input j → p < code_count j.blocks → Gains (KeptOf j u region (overwritten (action_at (graph_of j) p)) p u.loans.now.count) ws ws'

-- The bits of each loan at each point came to the tables.
pub record PointsFilled (u : Setup) (a b : Tables) : Type 0 where
  pub bits : (j : Job) (sets : Table) → given_to u j sets → u.code ≤ code_count j.blocks → Filled (Below u.code u.loans.now.count) (job_bits j sets) a b
