-- The search for a loan that conflicts with an access.
use Rattle.std.specs.Prelude.{◌≡◌, Bool, true, false, ◌&&◌, ◌||◌, List, ℕ, ◌≤◌, ◌<◌, length, get_or, eqb, Option, Some, None}
use Rattle.nll_spec.specs.Syntax.{BorrowKind, Path, Job}
use Rattle.nll_spec.specs.Syntax as syntax
use Rattle.nll_spec.specs.Types.{is_prefix, is_supporting, is_frozen, same_kind}
use Rattle.nll_spec.specs.Loans as spec
use Rattle.repr.specs.Reading.{borrow_kind_of, path_of}
use Rattle.repr.specs.declared.Path as repr
use Rattle.env.specs.Prefixes.{ShortestOf}
use Rattle.loans.specs.Loans.{no_loan, nth_loan, loan_of}
use Rattle.loans.specs.declared.Loan.{Loan}
use Rattle.borrowck.specs.declared.Access.{Access}
use Rattle.borrowck.specs.declared.Conflict.{Conflict}
use Rattle.borrowck.specs.declared.Depth.{Depth}
use Rattle.borrowck.specs.declared.Depth.TheVariants.{Shallow, Deep}
use Rattle.borrowck.specs.declared.Mode.{Mode}
use Rattle.borrowck.specs.declared.Mode.TheVariants.{Read, Write}
use Rattle.borrowck.specs.declared.FaultKind.TheVariants as fault_kinds

-- ---- One loan

-- an access minds loans of this kind: reading minds Mut loans only
abbrev pub counts : Mode → BorrowKind → Bool
counts Read k = same_kind k syntax.Mut
counts Write k = true

-- q is a supporting prefix of p, or for a shallow access a frozen one
abbrev pub near : Job → Depth → Path → Path → Bool
near j Deep q p = is_supporting j q p
near j Shallow q p = is_frozen j q p

-- an access to the path conflicts with the loan
abbrev pub meets : Job → Depth → Mode → Path → spec.Loan → Bool
meets j depth mode q loan = counts mode loan.kind && (is_prefix j loan.path q || near j depth q loan.path)

-- the prefix of k steps of the path q is the loan's path
abbrev pub lent_at : Job → List ℕ → Loan → repr.Path → ℕ → Bool
lent_at j s loan q k = eqb k loan.path.steps && is_prefix j (path_of s loan.path) (path_of s q)

-- the prefix of k steps of the loan's path is the path q, and is near
abbrev pub own_at : Job → List ℕ → Depth → Loan → repr.Path → ℕ → Bool
own_at j s depth loan q k = eqb k q.steps && near j depth (path_of s q) (path_of s loan.path)

-- The answer is whether one of the two prefixes of k steps conflicts.
pub record Touches (s : List ℕ) (loan : Loan) (x : Access) (k : ℕ) (r : Bool) : Type 0 where
  pub says : (j : Job) → ShortestOf j (path_of s loan.path) loan.shortest → r ≡ lent_at j s loan x.path k || own_at j s x.depth loan x.path k

-- How many prefixes are to be looked at: all of both paths where the access minds the loan and they have one base.
pub record Prefixes (loan : Loan) (x : Access) (n : ℕ) : Type 0 where
  pub none : counts x.mode (borrow_kind_of loan.kind) ≡ false → n ≡ 0
  pub some : 0 < n → counts x.mode (borrow_kind_of loan.kind) ≡ true
  pub lent : counts x.mode (borrow_kind_of loan.kind) ≡ true → loan.path.base.0 ≡ x.path.base.0 → loan.path.steps < n
  pub own : counts x.mode (borrow_kind_of loan.kind) ≡ true → loan.path.base.0 ≡ x.path.base.0 → x.path.steps < n
  pub few : n ≤ 256

-- ---- All loans

-- the first number below n that passes the test, or none
abbrev pub FirstIs : (ℕ → Bool) → ℕ → Option ℕ → Type 0
FirstIs f n (Some i) = (i < n) × (f i ≡ true) × ((k : ℕ) → k < i → f k ≡ false)
FirstIs f n None = (k : ℕ) → k < n → f k ≡ false

-- The answer is the first of the loans that conflicts with the access, where each loan's shortest prefixes are known.
pub record FoundIn (s : List ℕ) (x : Access) (loans : List Loan) (r : Option ℕ) : Type 0 where
  pub says : (j : Job) → ((i : ℕ) → i < length loans → ShortestOf j (path_of s (nth_loan loans i).path) (nth_loan loans i).shortest)
      → FirstIs (λ i. meets j x.depth x.mode (path_of s x.path) (loan_of s (nth_loan loans i))) (length loans) r

-- ---- All accesses

-- what is read past the end of a list of accesses
abbrev pub no_access : Access
no_access = record { depth = Shallow; mode = Read; path = no_loan.path; fault = fault_kinds.Read }

-- access number k of a list
abbrev pub nth_access : List Access → ℕ → Access
nth_access accesses k = get_or accesses k no_access

-- how many accesses there are before the one that conflicts; all where none does
abbrev pub before_conflict : ℕ → Option Conflict → ℕ
before_conflict many (Some c) = c.access
before_conflict many None = many

-- The answer is the first of so many accesses that conflicts with one of the loans, and the first loan that it conflicts with; or there is none.
pub record FirstIn (s : List ℕ) (accesses : List Access) (many : ℕ) (loans : List Loan) (r : Option Conflict) : Type 0 where
  pub before : (k : ℕ) → k < before_conflict many r → FoundIn s (nth_access accesses k) loans None
  pub most : (c : Conflict) → r ≡ Some c → c.access < many
  pub here : (c : Conflict) → r ≡ Some c → FoundIn s (nth_access accesses c.access) loans (Some c.loan)
