-- Constraints of a job that are run more often. Assumes nothing.
use mathlib.Core.Path.{◌≡◌, sym, ◌∙◌, subst}
use mathlib.Core.Logic.{inl, inr, ⊎_elim}
use mathlib.Core.Bool.{true≢false}
use mathlib.Core.List.{List, []}
use Prim.Native.Nat.{ℕ}
use lib.ListN.{length, length-replicate}
use Rattle.nll_spec.specs.Lists.{Member}
use Rattle.nll_spec.specs.Syntax.{Job}
use Rattle.nll_spec.specs.Graph.{graph_of}
use Rattle.nll_spec.specs.Constraints.{Outlives, constraints_of}
use Rattle.nll_spec.proofs.Members.{member_right}
use Rattle.bit_set.proofs.BitLaws.{has-zeros}
use Rattle.constraint_list.specs.Listed.{constraints_in, Draws}
use Rattle.absent_regions.specs.Absent.{Marks}
use Rattle.infer.specs.Search.{rule_of}
use Rattle.infer.specs.Ran.{Setting, Given, Runs}
use Rattle.infer.specs.declared.Setup.{Setup}
use Rattle.infer.proofs.RanLaws.{no_member, Joined, ran_again}
use Rattle.rerun.specs.Rerun.{setting_of, no_marks, constraints_below, Known, Holding, Own, OwnKept, RunsAgain, RunsMore}
use Rattle.rerun.proofs.NamedLaws.{own_below, all_named}

-- ---- Lists whose constraints are the job's

module _ {g : Setup} where
  pub own_same : {ls : List ℕ} → OwnKept g ls ls
  own_same = record { kept = λ j k o. o }

  pub own_then : {ls ls₁ ls₂ : List ℕ} → OwnKept g ls ls₁ → OwnKept g ls₁ ls₂ → OwnKept g ls ls₂
  own_then x y = record { kept = λ j k o. y.kept j k (x.kept j k o) }

  -- nothing comes to it
  pub own-fewer : {ls ls₁ : List ℕ} → Draws [] ls ls₁ → OwnKept g ls ls₁
  own-fewer x = record { kept = λ j k o c m. ⊎_elim (o c) (λ z. absurd (no_member z)) (x.drawn c m) }

  -- the constraints of points
  pub own_held : {ls : List ℕ} {n m : ℕ} → Holding g ls n m → (j : Job) → Known g.graph.now g.shape.code j → Own j ls
  own_held {ls} {n} {m} held j k c y = own_below j m c (subst (λ (cs : List Outlives). Member c cs) (held.holds j k) (member_right (constraints_below j n) (constraints_in ls) y))

  -- constraints of points come to it
  pub own-drawn : {ls recent recent₁ : List ℕ} {n m : ℕ} → Holding g ls n m → Draws (constraints_in ls) recent recent₁ → OwnKept g recent recent₁
  own-drawn held x = record { kept = λ j k o c z. ⊎_elim (o c) (own_held held j k c) (x.drawn c z) }

-- ---- Constraints that are run more often

given_again : {s : Setting} {g : Setup} {ws ws' marks : List ℕ} → Given s g ws marks → length ws' ≡ length ws → Given s g ws' marks
given_again given e =
    record {
      edges = given.edges;
      code = given.code;
      points = given.points;
      width = given.width;
      linked = given.linked;
      ends = given.ends;
      wide = given.wide;
      narrow = given.narrow;
      few = given.few;
      room = rw e given.room;
      marks = given.marks;
    }

-- the marks of both
marks_joined : {a b ab : List ℕ} → length a ≡ 4 → Marks a b ab → Joined a b ab
marks_joined e m =
    record {
      as_long = m.sized ∙ sym e;
      left = λ r h. m.all r (inl h);
      right = λ r h. m.all r (inr h);
      either = λ r h. (m.only r h).1;
    }

module _ {g : Setup} {cs : List Outlives} {ws grew : List ℕ} where
  pub again_none : RunsAgain g cs ws grew ws grew
  again_none = record { ran = λ s last ds ws₀ given named among x. x }

  pub again_more : {last ws₁ grew₁ ws₂ next grew₂ : List ℕ} → RunsAgain g cs ws grew ws₁ grew₁ → Runs g last cs ws₁ no_marks ws₂ next
      → Marks grew₁ next grew₂ → RunsAgain g cs ws grew ws₂ grew₂
  again_more {last} {ws₁} {grew₁} {ws₂} {next} {grew₂} x y marks = record {
    ran = λ s last' ds ws₀ given named among z.
        let a = x.ran s last' ds ws₀ given named among z in
        let b = y.ran s (given_again given a.as_long) (λ c m. named c (among c m)) in
        ran_again a b (λ r m. true≢false (sym m ∙ has-zeros 4 r)) among (marks_joined (a.as_many ∙ length-replicate {A = ℕ} 4 0) marks);
  }

-- ---- More of the job's constraints

module _ {g : Setup} where
  pub more_then : {recent ws grew recent₁ ws₁ grew₁ recent₂ ws₂ grew₂ : List ℕ} → RunsMore g recent ws grew recent₁ ws₁ grew₁
      → RunsMore g recent₁ ws₁ grew₁ recent₂ ws₂ grew₂ → RunsMore g recent ws grew recent₂ ws₂ grew₂
  more_then x y = record { ran = λ j k o last ws₀ given z. y.ran j k (x.own.kept j k o) last ws₀ given (x.ran j k o last ws₀ given z); own = own_then x.own y.own }

  -- nothing is run, and nothing comes to `recent`
  pub more-fewer : {recent recent₁ ws grew : List ℕ} → Draws [] recent recent₁ → RunsMore g recent ws grew recent₁ ws grew
  more-fewer x = record { ran = λ j k o last ws₀ given z. z; own = own-fewer x }

  -- those of a list that has only constraints of the job
  more-own : (ls : List ℕ) {recent recent₁ ws grew ws₁ grew₁ : List ℕ} → ((j : Job) → Known g.graph.now g.shape.code j → Own j recent → Own j ls) → OwnKept g recent recent₁
      → RunsAgain g (constraints_in ls) ws grew ws₁ grew₁ → RunsMore g recent ws grew recent₁ ws₁ grew₁
  more-own ls own kept x = record { ran = λ j k o last ws₀ given. x.ran (setting_of (rule_of g.rule) j) last (constraints_of j (graph_of j)) ws₀ given (all_named (rule_of g.rule) j k.accepted) (own j k o); own = kept }

  -- those of `recent`
  pub more_recent : {recent ws grew ws₁ grew₁ : List ℕ} → RunsAgain g (constraints_in recent) ws grew ws₁ grew₁ → RunsMore g recent ws grew recent ws₁ grew₁
  more_recent {recent} = more-own recent (λ j k o. o) own_same

  -- those of points, which come to `recent`
  pub more-held : {ls recent recent₁ last ws grew ws₁ next grew₁ : List ℕ} {n m : ℕ} → Holding g ls n m
      → Runs g last (constraints_in ls) ws no_marks ws₁ next × Marks grew next grew₁ × Draws (constraints_in ls) recent recent₁
      → RunsMore g recent ws grew recent₁ ws₁ grew₁
  more-held {ls} held x = more-own ls (λ j k o. own_held held j k) (own-drawn held x.2) (again_more again_none x.0 x.1)
