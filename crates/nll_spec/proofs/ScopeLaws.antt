-- A loan is in scope exactly where a path from its borrow says so: `scope_path` and `path_scope`.
-- Assumes nothing.
use mathlib.Core.Path.{◌≡◌, refl, sym, subst}
use mathlib.Core.Logic.{◌⊎◌, inl, inr}
use mathlib.Core.Bool.{Bool, ◌&&◌, ◌||◌, not}
use mathlib.Core.List.{List}
use Prim.Native.Nat.{ℕ, ◌<◌}
use lib.ListN.{length}
use lib.Dec.{T, eqb, eqb→eq, eqb_refl}
use Rattle.nll_spec.specs.Lists.{any, contains, below}
use Rattle.nll_spec.specs.Fixpoint.{Table, holds}
use Rattle.nll_spec.specs.Syntax.{Job, Point}
use Rattle.nll_spec.specs.WellFormed.{successors_named}
use Rattle.nll_spec.specs.Graph.{graph_of, action_at, next_of, preds_of}
use Rattle.nll_spec.specs.Loans.{Loan, loan_number, kills, scope_rule, scope_table}
use Rattle.nll_spec.specs.Meaning.{ScopePath, first, more}
use Rattle.nll_spec.proofs.Tests.{and_intro, and_left, and_right, or_left, or_right, or_cases, contains-below, length-count_from, any_of, any_found}
use Rattle.nll_spec.proofs.Least.{least-closed, least_ind}
use Rattle.nll_spec.proofs.GraphLaws.{next→preds, preds→next, next_in_code}

module _ (j : Job) (sets : Table) (loans : List Loan) (i : ℕ) (loan : Loan) (hi : i < length loans) (ei : loan_number loans i ≡ loan) where
  -- one step of a path on which the loan stays in scope
  pub scope_step : (p q : Point) → T (eqb p loan.point || holds (scope_table j (graph_of j) sets loans) i p) → T (not (kills j (action_at (graph_of j) p) loan)) → T (contains (next_of (graph_of j) p) q)
      → q < (graph_of j).code → T (holds sets loan.region q) → T (holds (scope_table j (graph_of j) sets loans) i q)
  unfolding scope_table
  scope_step p q from kept next hq region =
      least-closed (scope_rule j (graph_of j) sets loans) (length loans) (below (graph_of j).code) i q hi (contains-below (graph_of j).code q hq) (rw length-count_from hq)
      (subst (λ (x : Loan). T (holds sets x.region q && any (test x) (preds_of (graph_of j) q))) (sym ei)
      (and_intro (holds sets loan.region q) (any (test loan) (preds_of (graph_of j) q)) region
      (any_of (test loan) (preds_of (graph_of j) q) p (next→preds j p q next hq)
      (and_intro (eqb p loan.point || holds (scope_table j (graph_of j) sets loans) i p) (not (kills j (action_at (graph_of j) p) loan)) from kept))))
    where
      test : Loan → Point → Bool
      test x p = (eqb p x.point || holds (scope_table j (graph_of j) sets loans) i p) && not (kills j (action_at (graph_of j) p) x)

module _ (j : Job) (valid : T (successors_named j)) (sets : Table) (loans : List Loan) where
  pub scope_path : (i : ℕ) (q : Point) → T (holds (scope_table j (graph_of j) sets loans) i q) → ScopePath j (holds sets (loan_number loans i).region) (loan_number loans i) q
  unfolding scope_table
  scope_path =
      least_ind (scope_rule j (graph_of j) sets loans) (λ i q. ScopePath j (holds sets (loan_number loans i).region) (loan_number loans i) q) (length loans) (below (graph_of j).code) keeps
    where
      keeps : (t : Table) → ((i q : ℕ) → T (holds t i q) → ScopePath j (holds sets (loan_number loans i).region) (loan_number loans i) q) → (i q : ℕ) → i < length loans
          → T (contains (below (graph_of j).code) q) → T (scope_rule j (graph_of j) sets loans t i q) → ScopePath j (holds sets (loan_number loans i).region) (loan_number loans i) q
      keeps t inside i q hi hq h = go (or_cases (eqb p.0 loan.point) (holds t i p.0) (and_left (from p.0) (kept p.0) p.2))
        where
          loan : Loan
          loan = loan_number loans i

          from : Point → Bool
          from x = eqb x loan.point || holds t i x

          kept : Point → Bool
          kept x = not (kills j (action_at (graph_of j) x) loan)

          region : T (holds sets loan.region q)
          region = and_left (holds sets loan.region q) (any (λ x. from x && kept x) (preds_of (graph_of j) q)) h

          p : (x : Point) × T (contains (preds_of (graph_of j) q) x) × T (from x && kept x)
          p = any_found (λ x. from x && kept x) (preds_of (graph_of j) q) (and_right (holds sets loan.region q) (any (λ x. from x && kept x) (preds_of (graph_of j) q)) h)

          next : T (contains (next_of (graph_of j) p.0) q)
          next = preds→next j p.0 q p.1

          survives : T (kept p.0)
          survives = and_right (from p.0) (kept p.0) p.2

          go : T (eqb p.0 loan.point) ⊎ T (holds t i p.0) → ScopePath j (holds sets loan.region) loan q
          go (inl e) =
              first (subst (λ (x : Point). T (contains (next_of (graph_of j) x) q)) (eqb→eq p.0 loan.point e) next) region (subst (λ (x : Point). T (kept x)) (eqb→eq p.0 loan.point e) survives)
          go (inr w) = more (inside i p.0 w) next region survives

  pub path_scope : (i : ℕ) (q : Point) → i < length loans → ScopePath j (holds sets (loan_number loans i).region) (loan_number loans i) q → T (holds (scope_table j (graph_of j) sets loans) i q)
  unfolding successors_named scope_table
  path_scope i q hi (first next region kept) =
      scope_step j sets loans i (loan_number loans i) hi refl (loan_number loans i).point q
      (or_left (eqb (loan_number loans i).point (loan_number loans i).point) (holds (scope_table j (graph_of j) sets loans) i (loan_number loans i).point) (eqb_refl (loan_number loans i).point)) kept next
      (next_in_code j valid (loan_number loans i).point q next) region
  path_scope i q hi (more {p = p} path next region kept) =
      scope_step j sets loans i (loan_number loans i) hi refl p q
      (or_right (eqb p (loan_number loans i).point) (holds (scope_table j (graph_of j) sets loans) i p) (path_scope i p hi path)) kept next (next_in_code j valid p q next) region
