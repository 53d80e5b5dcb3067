-- The accesses of an action, as `nll_spec` has them.
use Rattle.std.specs.Prelude.{◌≡◌, List, [], ◌∷◌, map, ℕ, ◌≤◌, length, take, drop, Ok}
use Rattle.nll_spec.specs.Syntax as syntax
use Rattle.nll_spec.specs.Syntax.{Path, Job}
use Rattle.nll_spec.specs.Decode.{read, items, path}
use Rattle.nll_spec.specs.Loans as spec
use Rattle.nll_spec.specs.Access.{Access, Read, Write, accesses, conflicts, fault_kind}
use Rattle.repr.specs.Reading.{path_of}
use Rattle.repr.specs.Parts.{action_says}
use Rattle.repr.specs.declared.Cursor.{Cursor}
use Rattle.repr.specs.declared.Variable.{Variable}
use Rattle.repr.specs.declared.BorrowKind.{BorrowKind}
use Rattle.repr.specs.declared.BorrowKind.TheVariants as kinds
use Rattle.repr.specs.declared.Path as repr
use Rattle.repr.specs.declared.Action.{Action}
use Rattle.borrowck.specs.Search.{meets}
use Rattle.borrowck.specs.declared.Access as own
use Rattle.borrowck.specs.declared.accesses.Accesses.{Accesses}
use Rattle.borrowck.specs.declared.Depth.TheVariants.{Shallow, Deep}
use Rattle.borrowck.specs.declared.Mode.TheVariants as modes
use Rattle.borrowck.specs.declared.FaultKind.{FaultKind}
use Rattle.borrowck.specs.declared.FaultKind.TheVariants as faults

-- ---- One access

-- the number of a kind of fault
abbrev pub kind_number : FaultKind → ℕ
kind_number faults.Read = 1
kind_number faults.Write = 2
kind_number faults.Move = 3
kind_number faults.StorageDead = 4

abbrev pub reading : repr.Path → own.Access
reading q = record { depth = Deep; mode = modes.Read; path = q; fault = faults.Read }

abbrev pub writing : repr.Path → own.Access
writing q = record { depth = Shallow; mode = modes.Write; path = q; fault = faults.Write }

abbrev pub borrowing : repr.Path → own.Access
borrowing q = record { depth = Deep; mode = modes.Write; path = q; fault = faults.Write }

abbrev pub moving : repr.Path → own.Access
moving q = record { depth = Deep; mode = modes.Write; path = q; fault = faults.Move }

abbrev pub dying : Variable → own.Access
dying v = record { depth = Shallow; mode = modes.Write; path = record { base = v; steps = 0; from = record { at = 0 } }; fault = faults.StorageDead }

-- what a Borrow does to its source
abbrev pub lending : BorrowKind → repr.Path → own.Access
lending kinds.Mut q = borrowing q
lending kinds.Shared q = reading q

-- The access is this one of `nll_spec`: it conflicts with the same loans, as the same kind of fault.
pub record Means (s : List ℕ) (x : own.Access) (a : Access) : Type 0 where
  pub same : (j : Job) (loan : spec.Loan) → conflicts j a loan ≡ meets j x.depth x.mode (path_of s x.path) loan
  pub kind : kind_number x.fault ≡ fault_kind a

-- ---- All accesses

abbrev pub accesses_in : Accesses → List own.Access
accesses_in x = take x.count x.list

-- The accesses are these, one by one.
pub data Mean (s : List ℕ) : List own.Access → List Access → Type 0 where
  none : Mean s [] []
  more : {x : own.Access} {a : Access} {xs : List own.Access} {bs : List Access} → Means s x a → Mean s xs bs → Mean s (x ∷ xs) (a ∷ bs)

-- The answer is the write of the destination and a read of each path that is read there, where there are at most 8.
pub record WithSources (s : List ℕ) (dest : repr.Path) (from many : ℕ) (r : Accesses) : Type 0 where
  pub all : length (accesses_in r) ≡ r.count
  pub says : (qs : List Path) (over : List ℕ) → items many path (drop from s) ≡ read qs over → many ≤ 8 → Mean s (accesses_in r) (Write (path_of s dest) ∷ map Read qs)

-- The answer is the accesses of the action, where there are at most 9.
pub record AccessesOf (s : List ℕ) (a : Action) (next : Cursor) (r : Accesses) : Type 0 where
  pub all : length (accesses_in r) ≡ r.count
  pub says : (x : syntax.Action) (over : List ℕ) → action_says s (Ok (a, next)) ≡ read x over → length (accesses x) ≤ 9 → Mean s (accesses_in r) (accesses x)
