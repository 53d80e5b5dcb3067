-- The tables, the flow and the last step give the loans in scope. Assumes nothing.
use mathlib.Core.Path.{◌≡◌, refl, sym, ap, ap₂, ◌∙◌, subst}
use mathlib.Core.Logic.{◌⊎◌, inl, inr}
use mathlib.Core.Bool.{Bool, true, not, ◌&&◌, true≢false}
use mathlib.Core.List.{List}
use Prim.Native.Nat.{ℕ, ◌+◌, ◌*◌, ◌<◌, ◌≤◌}
use native.Mathlib.Omega.{arith}
use lib.ListN.{length, replicate}
use lib.Dec.{T, eqb}
use Rattle.nll_spec.specs.Fixpoint.{Table, holds}
use Rattle.nll_spec.specs.Syntax.{Job, Point}
use Rattle.nll_spec.specs.Graph.{Graph, graph_of, action_at}
use Rattle.nll_spec.specs.Loans.{loans_of, loan_number, kills, overwritten, scope_table}
use Rattle.nll_spec.specs.Loans as loans
use Rattle.nll_spec.specs.Output.{word_bits}
use Rattle.nll_spec.specs.Meaning.{Next}
use Rattle.nll_spec.proofs.Tests.{is_true}
use Rattle.nll_spec.proofs.GraphLaws.{code-count}
use Rattle.bit_set.specs.Bits.{has, cleared}
use Rattle.bit_set.proofs.BitLaws.{has-zeros}
use Rattle.bit_set.proofs.RunLaws.{and_true_left, and_true_right}
use Rattle.bit_set.proofs.SetLaws.{has-cleared}
use Rattle.graph.specs.Tables.{Edges}
use Rattle.flow.specs.Flows.{bit_at, FlowSays}
use Rattle.flow.specs.declared.Direction.TheVariants.{Forward}
use Rattle.graph.proofs.EntryLaws.{edge_next, next_edge}
use Rattle.loans_in_scope.specs.Gains.{Gains, Tables, tables, Empty, Filled, Below, Rows, Masked}
use Rattle.loans_in_scope.specs.Scope.{killed, job_bits}
use Rattle.loans_in_scope.specs.Filling.{given_to, PointsFilled, says_of}
use Rattle.loans_in_scope.specs.declared.Setup.{Setup}
use Rattle.loans_in_scope.proofs.GainsLaws.{filled-has, masked_has}
use Rattle.loans_in_scope.proofs.LoanLaws.{successors-of}
use Rattle.loans_in_scope.proofs.PathLaws.{scope_to, to_scope, scope_same}

-- ---- Sets that were empty

-- three tables of n words
abbrev zeros : ℕ → Tables
zeros n = tables (replicate n 0) (replicate n 0) (replicate n 0)

pub zeros_empty : (n : ℕ) → Empty (zeros n)
zeros_empty n = record { start = λ p i l. has-zeros n (bit_at p i); pass = λ p i l. has-zeros n (bit_at p i); region = λ p i l. has-zeros n (bit_at p i) }

-- ---- All of it

killed-is : (j : Job) (p : Point) (loan : loans.Loan) → kills j (action_at (graph_of j) p) loan ≡ killed j (overwritten (action_at (graph_of j) p)) loan
unfolding kills
killed-is j p loan = refl

module _ {v : Setup} {blank : Tables} {start pass region leaves none u scope : List ℕ} (blanks : Empty blank) (filled : PointsFilled v blank (tables start pass region))
    (flows : (g : Graph) → Edges g v.graph.now.first v.graph.now.succ → v.code ≡ g.code → FlowSays g Forward pass start leaves) (ws : List ℕ) (size : 4 * v.code ≤ length ws) (empty : none ≡ cleared ws 0 (4 * v.code))
    (gathered : Gains (Rows leaves v.code v.graph.now.first v.graph.now.succ v.code) none u) (masked : Masked region u (4 * v.code) scope) where
  module _ (j : Job) (sets : Table) (g : given_to v j sets) (e : Edges (graph_of j) v.graph.now.first v.graph.now.succ) (i : ℕ) (l : i < v.loans.now.count) where
    same_code : v.code ≡ (graph_of j).code
    same_code = v.whole ∙ g.layout.code ∙ sym (code-count j)

    few : i < 128
    few = omega (arith, g.loans.few)

    bits : Filled (Below v.code v.loans.now.count) (job_bits j sets) blank (tables start pass region)
    bits = filled.bits j sets g (omega (arith, v.whole, g.layout.code))

    starts : (p : Point) → p < (graph_of j).code → has start (bit_at p i) ≡ (eqb (loan_number (loans_of (graph_of j)) i).point p && not (kills j (action_at (graph_of j) p) (loan_number (loans_of (graph_of j)) i)))
    starts p m = filled-has {f = λ p i. (job_bits j sets p i).start} blanks.start bits.start p i (omega (arith, same_code)) l few
        ∙ ap (λ (b : Bool). eqb (loan_number (loans_of (graph_of j)) i).point p && not b) (sym (killed-is j p (loan_number (loans_of (graph_of j)) i)))

    passes : (p : Point) → p < (graph_of j).code → has pass (bit_at p i) ≡ (holds sets (loan_number (loans_of (graph_of j)) i).region p && not (kills j (action_at (graph_of j) p) (loan_number (loans_of (graph_of j)) i)))
    passes p m = filled-has {f = λ p i. (job_bits j sets p i).pass} blanks.pass bits.pass p i (omega (arith, same_code)) l few
        ∙ ap (λ (b : Bool). holds sets (loan_number (loans_of (graph_of j)) i).region p && not b) (sym (killed-is j p (loan_number (loans_of (graph_of j)) i)))

    regions : (p : Point) → p < (graph_of j).code → has region (bit_at p i) ≡ holds sets (loan_number (loans_of (graph_of j)) i).region p
    regions p m = filled-has {f = λ p i. (job_bits j sets p i).region} blanks.region bits.region p i (omega (arith, same_code)) l few

    abbrev Reached : Point → Type 0
    Reached q = ((p : Point) × (p < (graph_of j).code) × Next (graph_of j) p q × (has leaves (bit_at p i) ≡ true)) × T (holds sets (loan_number (loans_of (graph_of j)) i).region q)

    both : (q : Point) → q < (graph_of j).code → has scope (bit_at q i) ≡ (has u (bit_at q i) && has region (bit_at q i))
    both q m = masked_has region u masked q i (omega (arith, same_code)) few

    scoped_to : (q : Point) → q < (graph_of j).code → has scope (bit_at q i) ≡ true → Reached q
    scoped_to q m k =
        let w : (has u (bit_at q i) && has region (bit_at q i)) ≡ true = sym (both q m) ∙ k in (
          from (gathered.only q i few (and_true_left (has u (bit_at q i)) (has region (bit_at q i)) w)),
          subst T (sym (sym (regions q m) ∙ and_true_right (has u (bit_at q i)) (has region (bit_at q i)) w)) tt,
        )
      where
        from : (has none (bit_at q i) ≡ true) ⊎ Rows leaves v.code v.graph.now.first v.graph.now.succ v.code q i → (p : Point) × (p < (graph_of j).code) × Next (graph_of j) p q × (has leaves (bit_at p i) ≡ true)
        from (inl z) =
            let y : word_bits * 0 + bit_at q i ≡ bit_at q i = omega arith in
            absurd (true≢false (sym z ∙ ap₂ has empty (sym y) ∙ has-cleared ws 0 (4 * v.code) (omega (arith, size)) (bit_at q i) (omega (arith, same_code, few))))
        from (inr (p, m, (k, lo, hi, (c, x, a)))) =
            let n : p < (graph_of j).code = omega (arith, same_code) in
            (p, n, edge_next (graph_of j) v.graph.now.first v.graph.now.succ e p q n (k, lo, hi, sym x), a)

    to_scoped : (q : Point) → q < (graph_of j).code → Reached q → has scope (bit_at q i) ≡ true
    to_scoped q m ((p, n, next, a), r) =
        let (k, lo, hi, x) = next_edge (graph_of j) v.graph.now.first v.graph.now.succ e p q n next in
        let w : has u (bit_at q i) ≡ true = gathered.new q i few (p, omega (arith, same_code), (k, lo, hi, (omega (arith, x, same_code), sym x, a))) in
        both q m ∙ ap₂ (λ (x y : Bool). x && y) w (regions q m ∙ is_true _ r)

    scope_is : (q : Point) → q < (graph_of j).code → has scope (bit_at q i) ≡ holds (scope_table j (graph_of j) sets (loans_of (graph_of j))) i q
    scope_is q m =
        scope_same j (successors-of j g.names) sets (loans_of (graph_of j)) i (omega (arith, g.loans.count)) scope q
        (scope_to j (successors-of j g.names) region-of loan i start pass starts passes leaves scope flow few (λ x y. (scoped_to x y, to_scoped x y)) q m)
        (to_scope j (successors-of j g.names) region-of loan i start pass starts passes leaves scope flow few (λ x y. (scoped_to x y, to_scoped x y)) q m)
      where
        loan : loans.Loan
        loan = loan_number (loans_of (graph_of j)) i

        region-of : Point → Bool
        region-of = holds sets loan.region

        flow : FlowSays (graph_of j) Forward pass start leaves
        flow = flows (graph_of j) e same_code

  pub scope_says : says_of v scope
  scope_says = record { bits = λ j sets g e p i l m. scope_is j sets g e i m p (omega (arith, code-count j)) }
