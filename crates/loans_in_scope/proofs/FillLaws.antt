-- The loans that may pass a point, and the three tables together. Assumes nothing.
use mathlib.Core.Path.{◌≡◌, sym, ap, ap₂, ◌∙◌, subst}
use mathlib.Core.Bool.{Bool, true, false, not, ◌&&◌}
use mathlib.Core.List.{List}
use Prim.Native.Nat.{ℕ, ◌+◌, ◌*◌, ◌≤◌, ◌<◌}
use native.Mathlib.Omega.{arith}
use Rattle.nll_spec.specs.Fixpoint.{Table}
use Rattle.nll_spec.specs.Syntax as syntax
use Rattle.nll_spec.specs.Syntax.{Job, Point}
use Rattle.nll_spec.specs.Decode.{code_count}
use Rattle.nll_spec.specs.Graph.{graph_of, action_at}
use Rattle.nll_spec.specs.Loans.{overwritten}
use Rattle.nll_spec.specs.Loans as loans
use Rattle.nll_spec.specs.Output.{word_bits}
use Rattle.bit_set.specs.Bits.{has}
use Rattle.repr.specs.declared.Path.{Path}
use Rattle.record.specs.Layout.{Holds}
use Rattle.std.specs.Prelude.{Option}
use Rattle.loans.specs.Loans.{nth_loan, loan_of}
use Rattle.loans.specs.declared.Loan.{Loan}
use Rattle.loans_in_scope.specs.Gains.{Gains, tables, Empty, Cell, If, Below}
use Rattle.loans_in_scope.specs.Scope.{paths_of, killed, inside_of, starts, job_bits}
use Rattle.loans_in_scope.specs.Filling.{loan_in, given_to, RegionsTo, keeps, KeptOf, Begun, Kept, PointsFilled}
use Rattle.loans_in_scope.specs.declared.Setup.{Setup}
use Rattle.loans_in_scope.proofs.GainsLaws.{on_as, cells_more, points-more, filled-has}
use Rattle.loans_in_scope.proofs.LoanLaws.{inside_is}

-- ---- One loan

module _ (v : Setup) (region : List ℕ) (ds : List syntax.Path) (p i : ℕ) {b kept : Bool} (e : b ≡ has region (word_bits * (4 * p) + i)) where
  pub keep_not : b ≡ false → kept ≡ b → (j : Job) → kept ≡ keeps j v region ds p i
  keep_not n k j = k ∙ n ∙ sym (ap (λ (c : Bool). c && not (killed j ds (loan_in v i))) (sym e ∙ n))

  pub keep_yes : {x : Loan} {dead : Bool} → b ≡ true → x ≡ nth_loan v.loans.now.loans i → ((j : Job) → dead ≡ killed j ds (loan_of v.graph.now.input.bytes.now x)) → kept ≡ not dead
      → (j : Job) → kept ≡ keeps j v region ds p i
  keep_yes y is kill k j =
      k ∙ ap not (kill j ∙ ap (λ (z : Loan). killed j ds (loan_of v.graph.now.input.bytes.now z)) is)
      ∙ sym (ap (λ (c : Bool). c && not (killed j ds (loan_in v i))) (sym e ∙ y))

-- ---- Each loan

module _ (v : Setup) (region : List ℕ) (ds : List syntax.Path) (p : ℕ) {ws : List ℕ} where
  pub each_more : {a b : List ℕ} (i : ℕ) {kept : Bool} → ((j : Job) → Gains (KeptOf j v region ds p i) ws a) → ((j : Job) → kept ≡ keeps j v region ds p i) → Gains (If (Cell p i) kept) a b
      → (j : Job) → Gains (KeptOf j v region ds p (i + 1)) ws b
  each_more i a e b j =
      cells_more (keeps j v region ds) ws p i (a j) (on_as {g = keeps j v region ds} b (λ q k w. w) (λ q k w. w) (λ q k w. rw (w.0, w.1) (e j)))

-- ---- One point

module _ (v : Setup) (region : List ℕ) (p : Point) {ws : List ℕ} where
  module _ (d : Option Path) (over : (j : Job) → Holds v.graph.now.input j → p < code_count j.blocks → paths_of v.graph.now.input.bytes.now d ≡ overwritten (action_at (graph_of j) p)) where
    pub kept_each : {ws' : List ℕ} → ((j : Job) → Gains (KeptOf j v region (paths_of v.graph.now.input.bytes.now d) p v.loans.now.count) ws ws') → Kept v region p ws ws'
    kept_each {ws'} a = record { bits = λ j o m. subst (λ (ds : List syntax.Path). Gains (KeptOf j v region ds p v.loans.now.count) ws ws') (over j o m) (a j) }

-- ---- Each point

-- Those that may pass the first n points came to their sets.
pub record KeptTo (v : Setup) (region : List ℕ) (n : ℕ) (ws ws' : List ℕ) : Type 0 where
  pub bits : (j : Job) → Holds v.graph.now.input j → n ≤ code_count j.blocks
      → Gains (λ p i. Below n v.loans.now.count p i × (keeps j v region (overwritten (action_at (graph_of j) p)) p i ≡ true)) ws ws'

module _ (v : Setup) (region : List ℕ) {ws : List ℕ} where
  pub kept_to_more : {a b : List ℕ} (p : ℕ) → KeptTo v region p ws a → Kept v region p a b → KeptTo v region (p + 1) ws b
  kept_to_more p a b = record {
    bits = λ j o m.
        points-more (λ q i. keeps j v region (overwritten (action_at (graph_of j) q)) q i) ws v.loans.now.count p (a.bits j o (omega arith))
        (on_as {g = λ q i. keeps j v region (overwritten (action_at (graph_of j) q)) q i} (b.bits j o (omega arith)) (λ q i w. w) (λ q i w. w) (λ q i w. rw w.0));
  }

-- ---- The tables

module _ {v : Setup} {start₀ pass₀ region₀ start pass region : List ℕ} (empty : Empty (tables start₀ pass₀ region₀)) where
  pub all-filled : Begun v v.loans.now.count start₀ start → Gains (RegionsTo v v.loans.now.count) region₀ region → KeptTo v region v.code pass₀ pass
      → PointsFilled v (tables start₀ pass₀ region₀) (tables start pass region)
  all-filled a b c = record {
    bits = λ j sets g n.
        record {
          start = on_as {g = λ q i. (job_bits j sets q i).start} (a.bits j g.layout n) (λ q i w. w) (λ q i w. w) (λ q i w. ap (λ (x : loans.Loan). starts j (overwritten (action_at (graph_of j) q)) x q) (g.loans.same i w.1));
          pass = on_as {g = λ q i. (job_bits j sets q i).pass} (c.bits j g.layout n) (λ q i w. w) (λ q i w. w) (λ q i w. passing g q i w.0 w.1 (omega (arith, n, w.0)));
          region = on_as {g = λ q i. (job_bits j sets q i).region} b (λ q i w. w) (λ q i w. w) (λ q i w. inside_is v g i q w.1 (omega (arith, n, w.0)));
        };
  }
    where
      passing : {j : Job} {sets : Table} → given_to v j sets → (q i : ℕ) → q < v.code → i < v.loans.now.count → q < code_count j.blocks
          → keeps j v region (overwritten (action_at (graph_of j) q)) q i ≡ (job_bits j sets q i).pass
      passing {j} {sets} g q i l m n =
          ap₂ (λ (x : Bool) (y : loans.Loan). x && not (killed j (overwritten (action_at (graph_of j) q)) y))
          (filled-has {f = λ p k. inside_of v.words.now v.width (loan_in v k).region p} empty.region b q i l m (omega (arith, m, v.most)) ∙ inside_is v g i q m n) (g.loans.same i m)
