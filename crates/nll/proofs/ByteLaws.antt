-- The bytes of the verdicts. Assumes nothing.
use mathlib.Core.Path.{◌≡◌, refl, ap, ◌∙◌}
use mathlib.Core.List.{List}
use Prim.Native.Nat.{ℕ, ◌+◌, ◌*◌, ◌<◌, ◌≤◌}
use native.Mathlib.Omega.{arith}
use lib.ListN.{length}
use lib.Dec.{T}
use Rattle.nll_spec.specs.Fixpoint.{Table, holds}
use Rattle.nll_spec.specs.Syntax.{Job, Point}
use Rattle.nll_spec.specs.Decode.{code_count, point_count}
use Rattle.nll_spec.specs.WellFormed.{named, paths_fit}
use Rattle.nll_spec.specs.Graph.{graph_of}
use Rattle.nll_spec.specs.Regions.{every_end}
use Rattle.nll_spec.specs.Loans.{loans_of, scope_table}
use Rattle.nll_spec.specs.Access.{verdict_at}
use Rattle.nll_spec.specs.Output.{answer, word_bits, word_count, verdict_bytes, overwrite}
use Rattle.nll_spec.proofs.OutputLaws.{sized-sets}
use Rattle.bit_set.specs.Bits.{has}
use Rattle.bit_set.specs.Rows.{Says}
use Rattle.record.specs.Layout.{Holds}
use Rattle.graph.specs.declared.tables.FuncGraph.{FuncGraph}
use Rattle.infer.specs.declared.Shape.{Shape}
use Rattle.loans.specs.Loans.{LoansAt}
use Rattle.loans.specs.declared.Loan.{Loan}
use Rattle.loans.proofs.CountLaws.{loans-few}
use Rattle.loans_in_scope.specs.Scope.{Given, ScopeSays}
use Rattle.borrowck.specs.Faults.{bytes_to}
use Rattle.graph.specs.Search.{WalkedIn}
use Rattle.nll.specs.Steps.{shape_of, JobAt, Mapped, verdicts_of, Judges}
use Rattle.nll.proofs.JobLaws.{names_and_paths, points-are, width_is}

-- the verdicts' bytes are the answer's
same_bytes : (j : Job) → bytes_to (verdict_at j (graph_of j) (scope_table j (graph_of j) (answer every_end j).sets (loans_of (graph_of j))) (loans_of (graph_of j))) (point_count j) ≡ verdicts_of (answer every_end j)
unfolding answer graph_of
same_bytes j = refl

sets_rows : (j : Job) → length (answer every_end j).sets ≡ j.regions
unfolding answer
sets_rows j = (sized-sets every_end j).rows

module _ {g : FuncGraph} {ws : List ℕ} {lent : List Loan} {many : ℕ} {scope : List ℕ} (bs bs' : List ℕ) {shape : Shape} (e : shape ≡ shape_of g.input.head)
    (found : (j : Job) → Holds g.input j → T (named j) → T (paths_fit j) → WalkedIn j g.walked → length (loans_of (graph_of j)) ≤ 128
    → LoansAt g.input.bytes.now j lent many)
    {room : ℕ} (enough : g.input.head.code ≤ 1024 → 4 * g.input.head.code ≤ room)
    (scoped : 4 * g.input.head.code ≤ room → ScopeSays g ws shape.width lent many scope)
    (checked : (length bs' ≡ length bs)
    × ((j : Job) (u : Table) → Holds g.input j → LoansAt g.input.bytes.now j lent many
    → ((p : Point) → p < code_count j.blocks → (i : ℕ) → i < many → has scope (128 * p + i) ≡ holds u i p)
    → 2 * point_count j ≤ length bs
    → bs' ≡ overwrite (bytes_to (verdict_at j (graph_of j) u (loans_of (graph_of j))) (point_count j)) bs)) where
  module _ (j : Job) (a : JobAt g.input j) (m : Mapped g j) (says : Says (word_count (point_count j)) (answer every_end j).sets ws) where
    loans-at : LoansAt g.input.bytes.now j lent many
    loans-at = let n = names_and_paths j a.accepted in found j a.layout n.0 n.1 m.walks (let x = loans-few j in omega (arith, a.loans))

    given : Given g.input ws shape.width lent many j (answer every_end j).sets
    given =
        let w = ap (λ (x : Shape). x.width) e ∙ width_is a.layout in
        record {
          layout = a.layout;
          names = (names_and_paths j a.accepted).0;
          loans = loans-at;
          rows = sets_rows j;
          says = rw w says;
          narrow = omega (arith, w, a.points);
          room = omega (arith, w, a.points);
        }

    scope_table_lem : Table
    scope_table_lem = scope_table j (graph_of j) (answer every_end j).sets (loans_of (graph_of j))

    in_scope : (p : Point) → p < code_count j.blocks → (i : ℕ) → i < many → has scope (128 * p + i) ≡ holds scope_table_lem i p
    unfolding scope_table_lem
    in_scope p hp i hi =
        let e : 128 * p + i ≡ word_bits * (4 * p) + i = omega arith in
        let k : g.input.head.code ≤ 1024 = omega (arith, points-are a.layout, a.points) in
        ap (has scope) e ∙ (scoped (enough k)).bits j (answer every_end j).sets given m.edges p i hp hi

    judged : verdict_bytes * point_count j ≤ length bs → bs' ≡ overwrite (verdicts_of (answer every_end j)) bs
    unfolding scope_table_lem
    judged k = checked.1 j scope_table_lem a.layout loans-at in_scope k ∙ ap (λ (x : List ℕ). overwrite x bs) (same_bytes j)

  pub judges : Judges g ws bs bs'
  judges = record { size = checked.0; judged = judged }
