-- Faults, as `nll_spec` has the verdicts.
use Rattle.std.specs.Prelude.{◌≡◌, Bool, true, false, List, [], ◌∷◌, map, ℕ, ◌+◌, ◌*◌, ◌<◌, Option, Some, None}
use Rattle.nll_spec.specs.Lists.{any, gather, below}
use Rattle.nll_spec.specs.Fixpoint.{Table, holds}
use Rattle.nll_spec.specs.Syntax.{Point, Job}
use Rattle.nll_spec.specs.Decode.{code_count}
use Rattle.nll_spec.specs.Graph.{graph_of}
use Rattle.nll_spec.specs.Loans.{loans_of}
use Rattle.nll_spec.specs.Access.{Verdict, verdict_at}
use Rattle.repr.specs.Reading.{path_of}
use Rattle.record.specs.Layout.{Holds}
use Rattle.record.specs.declared.Record.{Record}
use Rattle.bit_set.specs.Bits.{has}
use Rattle.env.specs.Prefixes.{ShortestOf}
use Rattle.loans.specs.Loans.{nth_loan, loan_of, LoansAt}
use Rattle.loans.specs.declared.Loan.{Loan}
use Rattle.loans.specs.declared.LoanTable.{LoanTable}
use Rattle.std.specs.Option.{unwrap_or}
use Rattle.borrowck.specs.Search.{meets, nth_access}
use Rattle.borrowck.specs.Accesses.{kind_number}
use Rattle.borrowck.specs.Scope.{held_loans}
use Rattle.borrowck.specs.declared.Access.{Access}
use Rattle.borrowck.specs.declared.Fault.{Fault}
use Rattle.borrowck.specs.declared.accesses.Accesses.{Accesses}

-- a fault as a verdict, by numbers; both 0 without a fault
abbrev pub verdict_of : Option Fault → Verdict
verdict_of (Some f) = record { kind = kind_number f.kind; operand = f.operand }
verdict_of None = record { kind = 0; operand = 0 }

-- The table has the job's loans, and the words say which of them t has in scope at point p.
pub record Scoped (s : List ℕ) (j : Job) (lent : LoanTable) (scope : List ℕ) (p : Point) (t : Table) : Type 0 where
  pub loans : LoansAt s j lent.loans lent.count
  pub bits : (i : ℕ) → i < lent.count → has scope (128 * p + i) ≡ holds t i p

-- an access conflicts with the loan
abbrev pub hits : Job → List ℕ → Access → Loan → Bool
hits j s x loan = meets j x.depth x.mode (path_of s x.path) (loan_of s loan)

-- the shortest prefixes of the first n loans of the table are known
abbrev pub Known : Job → List ℕ → List Loan → ℕ → Type 0
Known j s table n = (i : ℕ) → i < n → ShortestOf j (path_of s (nth_loan table i).path) (nth_loan table i).shortest

-- The answer is the first of the accesses that conflicts with a loan in scope at p of the first n; or there is none.
pub record Checked (s : List ℕ) (table : List Loan) (scope : List ℕ) (p : Point) (accesses : Accesses) (n : ℕ) (r : Option ℕ) : Type 0 where
  pub before : (j : Job) → Known j s table n → (k : ℕ) → k < unwrap_or r accesses.count → any (hits j s (nth_access accesses.list k)) (held_loans table scope p 0 n) ≡ false
  pub most : (k : ℕ) → r ≡ Some k → k < accesses.count
  pub here : (k : ℕ) → r ≡ Some k → (j : Job) → Known j s table n → any (hits j s (nth_access accesses.list k)) (held_loans table scope p 0 n) ≡ true

-- The answer is the verdict at point p, which may be past the points of the blocks.
pub record Judged (input : Record) (lent : LoanTable) (scope : List ℕ) (p : Point) (r : Option Fault) : Type 0 where
  pub says : (j : Job) (t : Table) → Holds input j → (p < code_count j.blocks → Scoped input.bytes.now j lent scope p t) → verdict_of r ≡ verdict_at j (graph_of j) t (loans_of (graph_of j)) p

-- the bytes of the verdicts of the points below n
abbrev pub bytes_to : (Point → Verdict) → ℕ → List ℕ
bytes_to v n = gather (λ x. x.kind ∷ x.operand ∷ []) (map v (below n))
