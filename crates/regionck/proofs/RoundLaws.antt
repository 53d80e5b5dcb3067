-- A round: the constraints of the points of walked blocks are run. Assumes nothing.
use mathlib.Core.Path.{◌≡◌, sym, ap, ◌∙◌, subst}
use mathlib.Core.Logic.{inl, ⊎_elim}
use mathlib.Core.Bool.{Bool, true, false, true≢false}
use mathlib.Core.List.{List}
use Prim.Native.Nat.{ℕ, ◌+◌, ◌≤◌, ◌<◌}
use native.Mathlib.Omega.{arith}
use Rattle.nll_spec.specs.Lists.{Member}
use Rattle.nll_spec.specs.Syntax.{Job, Point}
use Rattle.nll_spec.specs.Regions.{every_end}
use Rattle.nll_spec.specs.Graph.{graph_of, action_at, is_walked}
use Rattle.nll_spec.specs.Constraints.{Outlives, constraints_at, constraints_of}
use Rattle.nll_spec.proofs.Members.{member_right}
use Rattle.bit_set.specs.Bits.{has}
use Rattle.graph.specs.declared.tables.FuncGraph.{FuncGraph}
use Rattle.constraint_list.specs.Listed.{count_in, room_in, constraints_in}
use Rattle.constraint_list.proofs.ListLaws.{first_place}
use Rattle.absent_regions.specs.Absent.{row_bit, Puts, Marks, AllIn}
use Rattle.infer.specs.Search.{rule_of}
use Rattle.infer.specs.Ran.{Ran, Runs}
use Rattle.infer.specs.declared.Setup.{Setup}
use Rattle.infer.proofs.RanLaws.{ran-none, ran-passed, ran_append, given-kept}
use Rattle.constraints.proofs.ListLaws.{select-below}
use Rattle.rerun.specs.Rerun.{setting_of, no_marks, walked_at, constraints_below, Known, PointAdds, Holding, OwnKept, RunsMore}
use Rattle.rerun.proofs.NamedLaws.{named-below}
use Rattle.rerun.proofs.PointLaws.{few-at}
use Rattle.regionck.specs.Rounds.{Sound, RunsBelow, RoundRuns}

-- ---- Regions that are inner ones of no constraint of a point

inner_small : {graph : FuncGraph} {code : ℕ} (j : Job) → Known graph code j → (n : ℕ) {c : Outlives} → Member c (constraints_below j n) → c.sub < 128
inner_small j k n {c} m = omega (arith, (named-below every_end j k.accepted n c m).sub, k.layout.regions, k.layout.region_limit)

module _ {g : Setup} where
  pub sound_none : {absent : List ℕ} → ((i : ℕ) → has absent i ≡ false) → Sound g absent
  sound_none e = record { none = λ j k p c l m z. true≢false (sym z ∙ e (row_bit p c.sub)) }

  -- those of the constraints of a point, which the list has, are put into its row
  pub sound_more : {ls ls' absent absent' : List ℕ} {p : Point} → Sound g absent → count_in ls ≡ 0 → 264 ≤ room_in ls → PointAdds g.graph.now p ls ls' → p < g.shape.code → Puts ls' p absent absent'
      → Sound g absent'
  sound_more {ls} {ls'} {absent} {absent'} {p} sound e room y l puts = record {
    none = λ j k q c i m z.
        let next = select-below (λ (x : ℕ). constraints_at j x (action_at (graph_of j) x)) (is_walked (graph_of j)) q in
        let w = inner_small j k (q + 1) (subst (λ (cs : List Outlives). Member c cs) (sym next) (member_right (constraints_below j q) (walked_at j q) m)) in
        ⊎_elim (sound.none j k q c i m)
        (λ o.
        let there = subst (λ (x : Point). Member c (walked_at j x)) o.0 m in
        let has = (y.adds j g.shape.code k l).adds (omega (arith, few-at j k l, room)) in
        let at = first_place ls' (count_in ls') (subst (λ (cs : List Outlives). Member c cs) (sym has) (member_right (constraints_in ls) (walked_at j p) there)) in
        o.1 at.0 at.1 (ap (λ (d : Outlives). d.sub) at.2))
        (puts.only q c.sub w z);
  }

-- ---- A round

module _ {g : Setup} {last ws : List ℕ} where
  pub below_none : RunsBelow g last ws ws no_marks 0
  below_none = record { ran = λ j k given. ran-none (setting_of (rule_of g.rule) j) last ws no_marks }

  -- the constraints of the list, which begin with those of the next point
  pub below_more : {ls : List ℕ} {n m : ℕ} {ws₁ grew₁ ws₂ grew₂ : List ℕ} → RunsBelow g last ws ws₁ grew₁ n
      → Holding g ls n m → Runs g last (constraints_in ls) ws₁ grew₁ ws₂ grew₂
      → RunsBelow g last ws ws₂ grew₂ m
  below_more {ls} {n} {m} {ws₁} {grew₁} {ws₂} {grew₂} x held y =
      record {
        ran = λ j k given.
            let a = x.ran j k given in
            let e = held.holds j k in
            subst (λ (cs : List Outlives). Ran (setting_of (rule_of g.rule) j) last cs ws no_marks ws₂ grew₂) e
            (ran_append a (y.ran (setting_of (rule_of g.rule) j) (given-kept given a)
            (λ c i. named-below (rule_of g.rule) j k.accepted m c (subst (λ (cs : List Outlives). Member c cs) e (member_right (constraints_below j n) (constraints_in ls) i)))));
      }

  -- the constraints of a point that is passed by
  pub below-passed : {absent grew marks : List ℕ} {p : Point} {b : Bool} {ws₁ grew₁ : List ℕ} → RunsBelow g last ws ws₁ grew₁ p → p < g.shape.code
      → Sound g absent → Marks last grew marks → AllIn absent p marks b → b ≡ true → RunsBelow g last ws ws₁ grew₁ (p + 1)
  below-passed {p = p} {ws₁ = ws₁} {grew₁ = grew₁} x l sound marks all e =
      record {
        ran = λ j k given.
            let next = select-below (λ (q : ℕ). constraints_at j q (action_at (graph_of j) q)) (is_walked (graph_of j)) p in
            subst (λ (cs : List Outlives). Ran (setting_of (rule_of g.rule) j) last cs ws no_marks ws₁ grew₁) (sym next)
            (ran_append (x.ran j k given) (ran-passed (setting_of (rule_of g.rule) j) last ws₁ grew₁
            (λ c m z.
            let w = inner_small j k (p + 1) (subst (λ (cs : List Outlives). Member c cs) (sym next) (member_right (constraints_below j p) (walked_at j p) m)) in
            sound.none j k p c l m (all.held e c.sub w (marks.all c.sub (inl z))))));
      }

  pub below_code : {ws' grew : List ℕ} (n : ℕ) → n ≡ g.shape.code → RunsBelow g last ws ws' grew n → RunsBelow g last ws ws' grew g.shape.code
  below_code {ws'} {grew} n e x = subst (λ (k : ℕ). RunsBelow g last ws ws' grew k) e x

  -- then more of them are run
  pub below_all : {recent recent₁ recent₂ ws₁ grew₁ ws₂ grew₂ : List ℕ} → RunsBelow g last ws ws₁ grew₁ g.shape.code → OwnKept g recent recent₁
      → RunsMore g recent₁ ws₁ grew₁ recent₂ ws₂ grew₂ → RoundRuns g last recent ws ws₂ grew₂
  unfolding constraints_of
  below_all {ws₁ = ws₁} {grew₁ = grew₁} x own y =
      record {
        ran = λ j k o given.
            y.ran j k (own.kept j k o) last ws given
            (subst (λ (n : ℕ). Ran (setting_of (rule_of g.rule) j) last (constraints_below j n) ws no_marks ws₁ grew₁) given.code (x.ran j k given));
      }
