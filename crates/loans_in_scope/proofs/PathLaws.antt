-- The loans that leave a point, as `flow` has them, and the paths on which a loan stays in scope. Assumes nothing.
use mathlib.Core.Path.{◌≡◌, sym, ◌∙◌, subst}
use mathlib.Core.Logic.{◌⊎◌, inl, inr, ◌↔◌}
use mathlib.Core.Bool.{Bool, true, not, ◌&&◌}
use mathlib.Core.List.{List}
use Prim.Native.Nat.{ℕ, ◌<◌}
use lib.ListN.{length}
use lib.Dec.{T, eqb, eqb→eq, eqb_refl}
use Rattle.nll_spec.specs.Fixpoint.{Table, holds}
use Rattle.nll_spec.specs.Syntax.{Job, Point}
use Rattle.nll_spec.specs.WellFormed.{successors_named}
use Rattle.nll_spec.specs.Graph.{graph_of, action_at}
use Rattle.nll_spec.specs.Loans.{Loan, loan_number, kills, scope_table}
use Rattle.nll_spec.specs.Meaning.{Next, ScopePath, first, more}
use Rattle.nll_spec.proofs.Tests.{is_true, and_intro, and_left, and_right}
use Rattle.nll_spec.proofs.Least.{same_bool}
use Rattle.nll_spec.proofs.GraphLaws.{next-is-code, next_in_code}
use Rattle.nll_spec.proofs.ScopeLaws.{scope_path, path_scope}
use Rattle.bit_set.specs.Bits.{has}
use Rattle.flow.specs.Flows.{bit_at, Flows, given, along, FlowSays}
use Rattle.flow.specs.declared.Direction.TheVariants.{Forward}

true_T : {b : Bool} → b ≡ true → T b
true_T e = subst T (sym e) tt

module _ (j : Job) (valid : T (successors_named j)) (region : Point → Bool) (loan : Loan) where
  -- the action of a point leaves the loan as it is
  abbrev kept : Point → Bool
  kept p = not (kills j (action_at (graph_of j) p) loan)

  -- the loan leaves a point, where it was borrowed or is in scope
  abbrev Leaves : Point → Type 0
  Leaves p = ((p ≡ loan.point) ⊎ ScopePath j region loan p) × T (kept p)

  leaves-next : (p q : Point) → Leaves p → Next (graph_of j) p q → T (region q) → ScopePath j region loan q
  leaves-next p q (inl e, k) n r = first (subst (λ (x : Point). Next (graph_of j) x q) e n) r (subst (λ (x : Point). T (kept x)) e k)
  leaves-next p q (inr s, k) n r = more s n r k

  module _ (i : ℕ) (start pass : List ℕ) (starts : (p : Point) → p < (graph_of j).code → has start (bit_at p i) ≡ (eqb loan.point p && kept p))
      (passes : (p : Point) → p < (graph_of j).code → has pass (bit_at p i) ≡ (region p && kept p)) where
    flows_leaves : {p : Point} → Flows (graph_of j) Forward pass start i p → Leaves p
    flows_leaves (given {p = p} l h) =
        let t : T (eqb loan.point p && kept p) = true_T (sym (starts p l) ∙ h) in
        (inl (sym (eqb→eq loan.point p (and_left (eqb loan.point p) (kept p) t))), and_right (eqb loan.point p) (kept p) t)
    flows_leaves (along {p = p} {q = q} f s h) =
        let t : T (region q && kept q) = true_T (sym (passes q (next_in_code j valid p q s)) ∙ h) in
        (inr (leaves-next p q (flows_leaves f) s (and_left (region q) (kept q) t)), and_right (region q) (kept q) t)

    -- a point before the last one of a path, which the loan leaves
    record Before (q : Point) : Type 0 where
      pub from : Point
      pub leaves : Flows (graph_of j) Forward pass start i from
      pub next : Next (graph_of j) from q
      pub inside : T (region q)

    path-before : {q : Point} → ScopePath j region loan q → Before q
    path-before (first {q = q} n r k) =
        let l : loan.point < (graph_of j).code = next-is-code j loan.point q n in
        record { from = loan.point; leaves = given l (starts loan.point l ∙ is_true _ (and_intro (eqb loan.point loan.point) (kept loan.point) (eqb_refl loan.point) k)); next = n; inside = r }
    path-before (more {p = p} {q = q} s n r k) =
        let b = path-before s in
        record {
          from = p;
          leaves = along b.leaves b.next (passes p (next-is-code j p q n) ∙ is_true _ (and_intro (region p) (kept p) b.inside k));
          next = n;
          inside = r;
        }

    before-path : {q : Point} → Before q → ScopePath j region loan q
    before-path {q} b = leaves-next b.from q (flows_leaves b.leaves) b.next b.inside

    module _ (after scope : List ℕ) (flows : FlowSays (graph_of j) Forward pass start after) (few : i < 128)
        (scoped : (q : Point) → q < (graph_of j).code
        → (has scope (bit_at q i) ≡ true) ↔ (((p : Point) × (p < (graph_of j).code) × Next (graph_of j) p q × (has after (bit_at p i) ≡ true)) × T (region q))) where
      pub scope_to : (q : Point) → q < (graph_of j).code → has scope (bit_at q i) ≡ true → ScopePath j region loan q
      scope_to q l h =
          let ((p, m, n, a), r) = (scoped q l).0 h in
          before-path (record { from = p; leaves = (flows.sets p i m few).0 a; next = n; inside = r })

      pub to_scope : (q : Point) → q < (graph_of j).code → ScopePath j region loan q → has scope (bit_at q i) ≡ true
      to_scope q l s =
          let b = path-before s in
          let m : b.from < (graph_of j).code = next-is-code j b.from q b.next in
          (scoped q l).1 ((b.from, m, b.next, (flows.sets b.from i m few).1 b.leaves), b.inside)

module _ (j : Job) (valid : T (successors_named j)) (sets : Table) (loans : List Loan) (i : ℕ) (hi : i < length loans) where
  -- what is written is what the table has
  pub scope_same : (scope : List ℕ) (q : Point) → (has scope (bit_at q i) ≡ true → ScopePath j (holds sets (loan_number loans i).region) (loan_number loans i) q)
      → (ScopePath j (holds sets (loan_number loans i).region) (loan_number loans i) q → has scope (bit_at q i) ≡ true)
      → has scope (bit_at q i) ≡ holds (scope_table j (graph_of j) sets loans) i q
  scope_same scope q to from =
      same_bool (has scope (bit_at q i)) (holds (scope_table j (graph_of j) sets loans) i q) (λ h. path_scope j valid sets loans i q hi (to (is_true _ h)))
      (λ h. true_T (from (scope_path j valid sets loans i q h)))
