-- Every rule gives at least as much where the table holds more; and the rule of the regions does where the end rule is looser too.
-- Assumes nothing.
use mathlib.Core.Bool.{Bool, ◌&&◌, ◌||◌, not}
use mathlib.Core.List.{List, []}
use Prim.Native.Nat.{ℕ, ◌+◌, ◌-◌}
use lib.ListN.{length, get_or}
use lib.Dec.{T, eqb, ltb, leb}
use Rattle.nll_spec.specs.Lists.{any, any_from, contains, below}
use Rattle.nll_spec.specs.Fixpoint.{Table, holds, Monotone}
use Rattle.nll_spec.specs.Syntax.{Variable, Point, BlockIndex, Action, Job}
use Rattle.nll_spec.specs.Graph.{Graph, action_at, next_of, preds_of, block_successors, walked_rule}
use Rattle.nll_spec.specs.Liveness.{defs, live_rule}
use Rattle.nll_spec.specs.Constraints.{Outlives}
use Rattle.nll_spec.specs.Regions.{EndRule, every_end, held_ends, passes_end, is_exit, outlives_rule, region_rule, adds, visits, no_constraint}
use Rattle.nll_spec.specs.Loans.{Loan, loan_number, kills, scope_rule}
use Rattle.nll_spec.proofs.Tests.{or_mono, and_mono, cond_mono, any_mono, any_from_mono}

pub walked_monotone : (j : Job) → Monotone (walked_rule j)
walked_monotone j t u sub row b =
    or_mono (eqb b j.start) (any (follows t) (below (length j.blocks))) (eqb b j.start) (any (follows u) (below (length j.blocks))) (λ h. h)
    (any_mono (follows t) (follows u)
    (λ a. and_mono (holds t row a) (contains (block_successors j a) b) (holds u row a) (contains (block_successors j a) b) (sub row a) (λ h. h)) (below (length j.blocks)))
  where
    follows : Table → BlockIndex → Bool
    follows t a = holds t row a && contains (block_successors j a) b

pub outlives_monotone : (j : Job) → Monotone (outlives_rule j)
outlives_monotone j t u sub r e =
    or_mono (eqb r e) (any (λ m. holds t m e) (get_or j.outlives r [])) (eqb r e) (any (λ m. holds u m e) (get_or j.outlives r [])) (λ h. h)
    (any_mono (λ m. holds t m e) (λ m. holds u m e) (λ m. sub m e) (get_or j.outlives r []))

pub live_monotone : (needs : Action → List Variable) (g : Graph) → Monotone (live_rule needs g)
live_monotone needs g t u sub v p =
    or_mono needed (kept && any (holds t v) (next_of g p)) needed (kept && any (holds u v) (next_of g p)) (λ h. h)
    (and_mono kept (any (holds t v) (next_of g p)) kept (any (holds u v) (next_of g p)) (λ h. h) (any_mono (holds t v) (holds u v) (sub v) (next_of g p)))
  where
    needed : Bool
    needed = contains (needs (action_at g p)) v

    kept : Bool
    kept = not (contains (defs (action_at g p)) v)

pub scope_monotone : (j : Job) (g : Graph) (sets : Table) (loans : List Loan) → Monotone (scope_rule j g sets loans)
scope_monotone j g sets loans t u sub i q =
    and_mono inside (any (from t) (preds_of g q)) inside (any (from u) (preds_of g q)) (λ h. h)
    (any_mono (from t) (from u)
    (λ p. and_mono (eqb p loan.point || holds t i p) (kept p) (eqb p loan.point || holds u i p) (kept p)
    (or_mono (eqb p loan.point) (holds t i p) (eqb p loan.point) (holds u i p) (λ h. h) (sub i p)) (λ h. h)) (preds_of g q))
  where
    loan : Loan
    loan = loan_number loans i

    inside : Bool
    inside = holds sets loan.region q

    kept : Point → Bool
    kept p = not (kills j (action_at g p) loan)

    from : Table → Point → Bool
    from t p = (eqb p loan.point || holds t i p) && kept p

-- ---- The rule of the regions

-- more ends pass under the second end rule, where more is held
abbrev pub Looser : EndRule → EndRule → Type 0
Looser e e' = (a b : Bool) → (T a → T b) → T (passes_end e a) → T (passes_end e' b)

pub looser_same : (e : EndRule) → Looser e e
looser_same every_end a b f h = tt
looser_same held_ends a b f h = f h

pub looser_every : (e : EndRule) → Looser e every_end
looser_every e a b f h = tt

module _ (g : Graph) (n : ℕ) (seeds : Table) (cs : List Outlives) where
  -- the same rule for more in the table and a looser end rule
  pub rule_mono : (e e' : EndRule) → Looser e e' → (t u : Table) → ((r c : ℕ) → T (holds t r c) → T (holds u r c))
      → (r c : ℕ) → T (region_rule e g n seeds cs t r c) → T (region_rule e' g n seeds cs u r c)
  rule_mono e e' loose t u sub row q =
      cond_mono (ltb row n) (holds seeds row q || any_from 0 (puts e t) cs) (visits g n t q (row - n) (get_or cs (row - n) no_constraint))
      (holds seeds row q || any_from 0 (puts e' u) cs) (visits g n u q (row - n) (get_or cs (row - n) no_constraint))
      (or_mono (holds seeds row q) (any_from 0 (puts e t) cs) (holds seeds row q) (any_from 0 (puts e' u) cs) (λ h. h)
      (any_from_mono (puts e t) (puts e' u)
      (λ k c. and_mono (eqb c.sup row) (adds e g n t q k c) (eqb c.sup row) (adds e' g n u q k c) (λ h. h) (adds_mono k c)) 0 cs))
      (visits_mono (row - n) (get_or cs (row - n) no_constraint))
    where
      puts : EndRule → Table → ℕ → Outlives → Bool
      puts e t k c = eqb c.sup row && adds e g n t q k c

      passes : EndRule → Table → Outlives → Bool
      passes e t c = leb g.code q && passes_end e (holds t c.sub q)

      exits : Table → ℕ → Point → Bool
      exits t k p = is_exit g p && holds t (n + k) p

      adds_mono : (k : ℕ) (c : Outlives) → T (adds e g n t q k c) → T (adds e' g n u q k c)
      adds_mono k c =
          or_mono (holds t (n + k) q) (passes e t c && any (exits t k) (below g.code)) (holds u (n + k) q) (passes e' u c && any (exits u k) (below g.code)) (sub (n + k) q)
          (and_mono (passes e t c) (any (exits t k) (below g.code)) (passes e' u c) (any (exits u k) (below g.code))
          (and_mono (leb g.code q) (passes_end e (holds t c.sub q)) (leb g.code q) (passes_end e' (holds u c.sub q)) (λ h. h)
          (loose (holds t c.sub q) (holds u c.sub q) (sub c.sub q)))
          (any_mono (exits t k) (exits u k) (λ p. and_mono (is_exit g p) (holds t (n + k) p) (is_exit g p) (holds u (n + k) p) (λ h. h) (sub (n + k) p)) (below g.code)))

      comes : Table → ℕ → Outlives → Bool
      comes t k c = eqb q c.point || any (holds t (n + k)) (preds_of g q)

      visits_mono : (k : ℕ) (c : Outlives) → T (visits g n t q k c) → T (visits g n u q k c)
      visits_mono k c =
          and_mono (holds t c.sub q) (comes t k c) (holds u c.sub q) (comes u k c) (sub c.sub q)
          (or_mono (eqb q c.point) (any (holds t (n + k)) (preds_of g q)) (eqb q c.point) (any (holds u (n + k)) (preds_of g q)) (λ h. h)
          (any_mono (holds t (n + k)) (holds u (n + k)) (sub (n + k)) (preds_of g q)))

pub region_monotone : (ends : EndRule) (g : Graph) (regions : ℕ) (seeds : Table) (cs : List Outlives) → Monotone (region_rule ends g regions seeds cs)
region_monotone ends g regions seeds cs = rule_mono g regions seeds cs ends ends (looser_same ends)
