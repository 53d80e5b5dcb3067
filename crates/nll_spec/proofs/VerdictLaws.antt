-- The computed verdict at a point is that of document 01's words: a loan of a walked borrow, in scope by a path, that conflicts. `verdict_judged`,
-- `judged_fault`.
-- Assumes nothing.
use mathlib.Core.Path.{◌≡◌, refl, sym, subst}
use mathlib.Core.Logic.{◌↔◌}
use mathlib.Core.Bool.{Bool, true, false, ◌&&◌}
use mathlib.Core.List.{List, [], ◌∷◌}
use Prim.Native.Nat.{ℕ, suc, ◌<◌}
use native.Mathlib.Omega.{arith}
use lib.ListN.{length}
use lib.Dec.{T, ltb→lt}
use Rattle.nll_spec.specs.Lists.{any, select, contains, below, Member, here, there}
use Rattle.nll_spec.specs.Fixpoint.{Table, holds}
use Rattle.nll_spec.specs.Syntax.{RegionName, Point, Path, Job}
use Rattle.nll_spec.specs.Syntax.{Action, Borrow}
use Rattle.nll_spec.specs.WellFormed.{action_named, path_named, is_region}
use Rattle.nll_spec.specs.Graph.{graph_of, action_at}
use Rattle.nll_spec.specs.Loans.{Loan, loan_at, loans_of, loan_number, scope_table}
use Rattle.nll_spec.specs.Access.{Access, Read, Write, MutBorrow, Move, Dead, accesses, conflicts, fault_kind, Verdict, first_fault, in_scope_at, verdict_at}
use Rattle.nll_spec.specs.Meaning.{Sets, Reached, LoanOf, ScopePath, first, more, Faulted, Judged, clean, this, pass}
use Rattle.nll_spec.proofs.Tests.{and_left, and_right, contains-below, below-contains}
use Rattle.nll_spec.proofs.Lookup.{contains-select, select-contains}
use Rattle.nll_spec.proofs.Members.{member_place, place_member, any_member, any_element, member_map, map_member}
use Rattle.nll_spec.proofs.AcceptedLaws.{Accepted}
use Rattle.nll_spec.proofs.WalkedLaws.{walked_member, member_walked}
use Rattle.nll_spec.proofs.ScopeLaws.{scope_path, path_scope}

-- ---- Judging

-- a fault has a kind other than 0
fault_kind_lem : (x : Access) → fault_kind x ≡ 0 → ⊥
fault_kind_lem (Read p) e = omega arith
fault_kind_lem (Write p) e = omega arith
fault_kind_lem (MutBorrow p) e = omega arith
fault_kind_lem (Move p) e = omega arith
fault_kind_lem (Dead p) e = omega arith

-- the kind is other than 0 exactly if some access is faulted
pub judged_fault : (fault : Access → Type 0) (i : ℕ) (xs : List Access) (v : Verdict) → Judged fault i xs v → (v.kind ≡ 0 → ⊥) ↔ ((x : Access) × Member x xs × fault x)
judged_fault fault i xs v h = (some_fault i xs v h, λ f e. kind-set i xs v h f.0 f.1 f.2 e)
  where
    some_fault : (i : ℕ) (xs : List Access) (v : Verdict) → Judged fault i xs v → (v.kind ≡ 0 → ⊥) → (x : Access) × Member x xs × fault x
    some_fault i xs v clean e = absurd (e refl)
    some_fault i xs v (this {x = x} f) e = (x, here, f)
    some_fault i (x ∷ xs) v (pass calm rest) e = let r = some_fault (suc i) xs v rest e in (r.0, there r.1, r.2)

    kind-set : (i : ℕ) (xs : List Access) (v : Verdict) → Judged fault i xs v → (x : Access) → Member x xs → fault x → v.kind ≡ 0 → ⊥
    kind-set i xs v (this {x = y} f) x m g e = fault_kind_lem y e
    kind-set _ _ _ clean x m g e = elim m [ ]
    kind-set i (y ∷ xs) v (pass calm rest) x here g e = calm g
    kind-set i (y ∷ xs) v (pass calm rest) x (there m) g e = kind-set (suc i) xs v rest x m g e

-- the first fault is the verdict, where a computed test says what is faulted
first-judged : (j : Job) (loans : List Loan) (fault : Access → Type 0) → ((x : Access) → T (any (conflicts j x) loans) → fault x) → ((x : Access) → fault x → T (any (conflicts j x) loans))
    → (i : ℕ) (xs : List Access) → Judged fault i xs (first_fault j loans i xs)
unfolding first_fault
first-judged j loans fault yes-if if_yes i [] = clean
first-judged j loans fault yes-if if_yes i (x ∷ xs) = go (any (conflicts j x) loans) refl (first-judged j loans fault yes-if if_yes (suc i) xs)
  where
    go : (b : Bool) → any (conflicts j x) loans ≡ b → Judged fault (suc i) xs (first_fault j loans (suc i) xs)
        → Judged fault i (x ∷ xs) (elim b as (λ c. Verdict) [ true ↦ record { kind = fault_kind x; operand = i } | false ↦ first_fault j loans (suc i) xs ])
    go true e rest = this (yes-if x (subst T (sym e) tt))
    go false e rest = pass (λ f. subst T e (if_yes x f)) rest

-- ---- Loans

-- a loan's action is its borrow
loan-borrow : (p : Point) (a : Action) (loan : Loan) → Member loan (loan_at p a) → (d : Path) × (a ≡ Borrow d loan.region loan.kind loan.path) × (loan.point ≡ p)
unfolding loan_at
loan-borrow p (Borrow d r k q) loan here = (d, refl, refl)
loan-borrow p Rattle.nll_spec.specs.Syntax.Noop loan x' = elim x' [ ]
loan-borrow p (Rattle.nll_spec.specs.Syntax.Init _ _) loan x4 = elim x4 [ ]
loan-borrow p (Borrow d r k q) loan (there x6) = elim x6 [ ]
loan-borrow p (Rattle.nll_spec.specs.Syntax.Assign _ _) loan x6 = elim x6 [ ]
loan-borrow p (Rattle.nll_spec.specs.Syntax.Constraint _ _) loan x7 = elim x7 [ ]
loan-borrow p (Rattle.nll_spec.specs.Syntax.Use _) loan x7 = elim x7 [ ]
loan-borrow p (Rattle.nll_spec.specs.Syntax.Drop _) loan x8 = elim x8 [ ]
loan-borrow p (Rattle.nll_spec.specs.Syntax.StorageDead _) loan x9 = elim x9 [ ]

module _ (j : Job) where
  abbrev lent : Point → List Loan
  lent p = loan_at p (action_at (graph_of j) p)

  -- the loans of a job are those of its walked borrows
  loan-of : (loan : Loan) → Member loan (loans_of (graph_of j)) → LoanOf j loan
  unfolding loans_of
  loan-of loan m =
      let (p, at, borrowed) = walked_member j lent m in
      let (d, borrow, same) = loan-borrow p (action_at (graph_of j) p) loan borrowed in
      record {
        into = d;
        borrow = subst (λ (q : Point). action_at (graph_of j) q ≡ Borrow d loan.region loan.kind loan.path) (sym same) borrow;
        walked = subst (λ (q : Point). Reached j q) (sym same) at;
      }

  of-loan : Accepted j → (loan : Loan) → LoanOf j loan → Member loan (loans_of (graph_of j))
  unfolding loans_of loan_at
  of-loan ok loan l = member_walked j lent ok loan.point l.walked (subst (λ (a : Action). Member loan (loan_at loan.point a)) (sym l.borrow) here)

  -- a loan's region is one of the job's
  pub loan-region : Accepted j → (loan : Loan) → LoanOf j loan → loan.region < j.regions
  unfolding action_named
  loan-region ok loan l =
      ltb→lt loan.region j.regions
      (and_right (path_named j l.into) (is_region j loan.region)
      (and_left (path_named j l.into && is_region j loan.region) (path_named j loan.path) (subst (λ (a : Action). T (action_named j a)) l.borrow (ok.actions-named loan.point))))

  -- a loan is in scope only at points of walked blocks
  pub scope_reached : (region : Point → Bool) (loan : Loan) → LoanOf j loan → (p : Point) → ScopePath j region loan p → Reached j p
  scope_reached region loan l p (first next inside kept) = Reached.next l.walked next
  scope_reached region loan l p (more path next inside kept) = Reached.next (scope_reached region loan l _ path) next

-- ---- Verdicts

module _ (j : Job) (ok : Accepted j) (table : Table) (sets : Sets) (same : (r : RegionName) → r < j.regions → holds table r ≡ sets r) where
  abbrev loans : List Loan
  loans = loans_of (graph_of j)

  abbrev scope : Table
  scope = scope_table j (graph_of j) table loans

  found : (p : Point) (x : Access) → T (any (conflicts j x) (in_scope_at scope loans p)) → Faulted j sets p x
  unfolding in_scope_at
  found p x t =
      record {
        loan = loan;
        of-job = of-job;
        in_scope = subst (λ (s : Point → Bool). ScopePath j s loan p) (same loan.region (loan-region j ok loan of-job)) path;
        conflict = e.2;
      }
    where
      e : (l : Loan) × Member l (in_scope_at scope loans p) × T (conflicts j x l)
      e = any_element (conflicts j x) (in_scope_at scope loans p) t

      loan : Loan
      loan = e.0

      n : (i : ℕ) × T (contains (select (λ (k : ℕ). holds scope k p) (below (length loans))) i) × (loan_number loans i ≡ loan)
      n = map_member (loan_number loans) (select (λ (i : ℕ). holds scope i p) (below (length loans))) e.1

      at : T (contains (below (length loans)) n.0) × T (holds scope n.0 p)
      at = select-contains (λ (i : ℕ). holds scope i p) (below (length loans)) n.0 n.1

      of-job : LoanOf j loan
      of-job = loan-of j loan (subst (λ (l : Loan). Member l loans) n.2 (place_member _ loans n.0 (below-contains (length loans) n.0 at.0)))

      path : ScopePath j (holds table loan.region) loan p
      path = subst (λ (l : Loan). ScopePath j (holds table l.region) l p) n.2 (scope_path j ok.successors-named table loans n.0 p at.1)

  finds : (p : Point) (x : Access) → Faulted j sets p x → T (any (conflicts j x) (in_scope_at scope loans p))
  unfolding in_scope_at
  finds p x f =
      any_member (conflicts j x)
      (subst (λ (l : Loan). Member l (in_scope_at scope loans p)) i.2
      (member_map (loan_number loans) (select (λ (k : ℕ). holds scope k p) (below (length loans))) i.0
      (contains-select (λ (k : ℕ). holds scope k p) (below (length loans)) i.0 (contains-below (length loans) i.0 i.1) held)))
      f.conflict
    where
      i : (k : ℕ) × (k < length loans) × (loan_number loans k ≡ f.loan)
      i = member_place _ (of-loan j ok f.loan f.of-job)

      path : ScopePath j (holds table f.loan.region) f.loan p
      path = subst (λ (s : Point → Bool). ScopePath j s f.loan p) (sym (same f.loan.region (loan-region j ok f.loan f.of-job))) f.in_scope

      held : T (holds scope i.0 p)
      held = path_scope j ok.successors-named table loans i.0 p i.1 (subst (λ (l : Loan). ScopePath j (holds table l.region) l p) (sym i.2) path)

  pub verdict_judged : (p : Point) → Judged (Faulted j sets p) 0 (accesses (action_at (graph_of j) p)) (verdict_at j (graph_of j) scope loans p)
  unfolding verdict_at
  verdict_judged p = first-judged j (in_scope_at scope loans p) (Faulted j sets p) (found p) (finds p) 0 (accesses (action_at (graph_of j) p))
