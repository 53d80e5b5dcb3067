-- What an action does to its operands, which loans that conflicts with, and the verdict at a point.
use Rattle.std.specs.Prelude.{Bool, true, false, ◌||◌, ◌&&◌, List, [], ◌∷◌, map, ℕ, suc, length}
use Rattle.nll_spec.specs.Lists.{any, select, below}
use Rattle.nll_spec.specs.Fixpoint.{Table, holds}
use Rattle.nll_spec.specs.Syntax.{Point, Mut, Shared, Path, Job}
use Rattle.nll_spec.specs.Syntax.{Action, Noop, Init, Borrow, Assign, Constraint, Use, Drop, StorageDead}
use Rattle.nll_spec.specs.Types.{is_prefix, is_supporting, is_frozen, same_kind}
use Rattle.nll_spec.specs.Graph.{Graph, action_at}
use Rattle.nll_spec.specs.Loans.{Loan, loan_number}

-- What is done to an operand.
pub data Access : Type 0 where
  Read Write MutBorrow Move Dead : Path → Access

-- The accesses of an action, by operand: the destination first, then the sources.
unfoldable pub accesses : Action → List Access
accesses Noop = []
accesses (Init d qs) = Write d ∷ map Read qs
accesses (Borrow d r Mut q) = Write d ∷ MutBorrow q ∷ []
accesses (Borrow d r Shared q) = Write d ∷ Read q ∷ []
accesses (Assign d q) = Write d ∷ Read q ∷ []
accesses (Constraint sup sub) = []
accesses (Use q) = Read q ∷ []
accesses (Drop q) = Move q ∷ []
accesses (StorageDead v) = Dead (record { base = v; steps = [] }) ∷ []

-- The loan's path is a prefix of the path, or the path a supporting prefix of the loan's.
unfoldable pub intersects : Job → Loan → Path → Bool
intersects j loan p = is_prefix j loan.path p || is_supporting j p loan.path

-- The loan's path is a prefix of the path, or the path a frozen prefix of the loan's.
unfoldable pub freezes : Job → Loan → Path → Bool
freezes j loan p = is_prefix j loan.path p || is_frozen j p loan.path

-- Reading conflicts with Mut loans only.
unfoldable pub conflicts : Job → Access → Loan → Bool
conflicts j (Read p) loan = same_kind loan.kind Mut && intersects j loan p
conflicts j (Write p) loan = freezes j loan p
conflicts j (MutBorrow p) loan = intersects j loan p
conflicts j (Move p) loan = intersects j loan p
conflicts j (Dead p) loan = freezes j loan p

-- An action conflicts with a loan if one of its operands does.
unfoldable pub action_conflicts : Job → Action → Loan → Bool
action_conflicts j a loan = any (λ x. conflicts j x loan) (accesses a)

-- ---- Verdicts

-- The numbers of the kinds of fault: read, write, move, storage dead.
abbrev pub fault_kind : Access → ℕ
fault_kind (Read p) = 1
fault_kind (Write p) = 2
fault_kind (MutBorrow p) = 2
fault_kind (Move p) = 3
fault_kind (Dead p) = 4

-- A kind and an operand; both 0 without a fault.
pub record Verdict : Type 0 where
  pub kind : ℕ
  pub operand : ℕ

abbrev pub no_fault : Verdict
no_fault = record { kind = 0; operand = 0 }

-- the first access that conflicts with a loan; the first of them is operand i
unfoldable pub first_fault : Job → List Loan → ℕ → List Access → Verdict
first_fault j loans i [] = no_fault
first_fault j loans i (x ∷ xs) =
    elim (any (conflicts j x) loans) [ true ↦ record { kind = fault_kind x; operand = i } | false ↦ first_fault j loans (suc i) xs ]

-- the loans in scope at a point
unfoldable pub in_scope_at : Table → List Loan → Point → List Loan
in_scope_at scope loans p = map (loan_number loans) (select (λ i. holds scope i p) (below (length loans)))

unfoldable pub verdict_at : Job → Graph → Table → List Loan → Point → Verdict
verdict_at j g scope loans p = first_fault j (in_scope_at scope loans p) 0 (accesses (action_at g p))
