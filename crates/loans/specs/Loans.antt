-- The loans of a job, as the table has them.
use Rattle.std.specs.Prelude.{◌≡◌, List, ℕ, ◌+◌, ◌≤◌, ◌<◌, length, get_or, T}
use Rattle.nll_spec.specs.Lists.{gather, select, below}
use Rattle.nll_spec.specs.Syntax.{Point, Job}
use Rattle.nll_spec.specs.Decode.{code_count}
use Rattle.nll_spec.specs.WellFormed.{named, paths_fit}
use Rattle.nll_spec.specs.Graph.{Graph, graph_of, action_at, is_walked}
use Rattle.nll_spec.specs.Loans as spec
use Rattle.nll_spec.specs.Loans.{loan_at, loans_of, loan_number}
use Rattle.repr.specs.Reading.{borrow_kind_of, path_of}
use Rattle.record.specs.Layout.{Holds}
use Rattle.env.specs.Prefixes.{ShortestOf}
use Rattle.graph.specs.Search.{WalkedIn}
use Rattle.graph.specs.declared.tables.FuncGraph.{FuncGraph}
use Rattle.repr.specs.declared.BorrowKind.TheVariants.{Mut}
use Rattle.loans.specs.declared.Loan.{Loan}
use Rattle.loans.specs.declared.LoanTable.{LoanTable}

-- what is read past the end of a list of loans
abbrev pub no_loan : Loan
no_loan =
    record {
      point = 0;
      region = record { 0 = 0 };
      kind = Mut;
      path = record { base = record { 0 = 0 }; steps = 0; from = record { at = 0 } };
      shortest = record { supporting = 0; frozen = 0 };
    }

-- loan number i of a list
abbrev pub nth_loan : List Loan → ℕ → Loan
nth_loan loans i = get_or loans i no_loan

-- a loan of the record s
abbrev pub loan_of : List ℕ → Loan → spec.Loan
loan_of s x = record { point = x.point; region = x.region.0; kind = borrow_kind_of x.kind; path = path_of s x.path }

-- The first n loans are the job's, each with the shortest prefixes of its path.
pub record LoansAt (s : List ℕ) (j : Job) (loans : List Loan) (n : ℕ) : Type 0 where
  pub count : n ≡ length (loans_of (graph_of j))
  pub few : n ≤ 128
  pub same : (i : ℕ) → i < n → loan_of s (nth_loan loans i) ≡ loan_number (loans_of (graph_of j)) i
  pub shortest : (i : ℕ) → i < n → ShortestOf j (loan_number (loans_of (graph_of j)) i).path (nth_loan loans i).shortest

-- ---- Point by point

-- the loans of the points below p
abbrev pub loans_below : Graph → Point → List spec.Loan
loans_below g p = gather (λ q. loan_at q (action_at g q)) (select (is_walked g) (below p))

-- The first n loans are these.
pub record Listed (s : List ℕ) (j : Job) (xs : List spec.Loan) (loans : List Loan) (n : ℕ) : Type 0 where
  pub count : n ≡ length xs
  pub same : (i : ℕ) → i < n → loan_of s (nth_loan loans i) ≡ loan_number xs i
  pub shortest : (i : ℕ) → i < n → ShortestOf j (loan_number xs i).path (nth_loan loans i).shortest

-- A job of the graph's record whose paths may be taken, its walked points, and not too many loans.
pub record Given (graph : FuncGraph) (j : Job) : Type 0 where
  pub layout : Holds graph.input j
  pub names : T (named j)
  pub paths : T (paths_fit j)
  pub walks : WalkedIn j graph.walked
  pub few : length (loans_of (graph_of j)) ≤ 128

-- The loan of point p is in the table, where those of the points below it were.
pub record Lends (graph : FuncGraph) (p : ℕ) (before after : LoanTable) : Type 0 where
  pub size : length after.loans ≡ 128
  pub few : after.count ≤ 128
  pub more : (j : Job) → Given graph j → p < code_count j.blocks → Listed graph.input.bytes.now j (loans_below (graph_of j) p) before.loans before.count
      → Listed graph.input.bytes.now j (loans_below (graph_of j) (p + 1)) after.loans after.count
