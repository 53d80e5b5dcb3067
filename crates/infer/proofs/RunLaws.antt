-- The constraints of a list, run one after the other. Assumes nothing.
use mathlib.Core.Path.{◌≡◌, sym, ap, ◌∙◌, subst}
use mathlib.Core.List.{List, [], ◌∷◌, ◌++◌}
use Prim.Native.Nat.{ℕ, ◌+◌}
use lib.ListN.{get_or}
use Rattle.nll_spec.specs.Lists.{here}
use Rattle.nll_spec.specs.Constraints.{Outlives}
use Rattle.nll_spec.proofs.Members.{member_left, member_right}
use Rattle.constraint_list.specs.Listed.{outlives_of, outlives_from, first_in, Draws}
use Rattle.constraint_list.specs.declared.Constraint.{Constraint}
use Rattle.constraint_list.proofs.ListLaws.{first-none, first_more, draws_append}
use Rattle.infer.specs.Ran.{Setting, Given, Names, Ran, Runs, constraint}
use Rattle.infer.specs.declared.Setup.{Setup}
use Rattle.infer.proofs.RanLaws.{ran-none, ran_append, given-kept}

next-first : (t : List ℕ) (i : ℕ) {c : Outlives} → c ≡ outlives_from (get_or t (i + 1) 0) → first_in t i ++ (c ∷ []) ≡ first_in t (i + 1)
next-first t i e = ap (λ (d : Outlives). first_in t i ++ (d ∷ [])) e ∙ sym (first_more t i)

module _ {g : Setup} {last : List ℕ} where
  pub runs_none : {cs : List Outlives} {ws grew : List ℕ} → cs ≡ [] → Runs g last cs ws grew ws grew
  runs_none {ws = ws} {grew = grew} e = record { ran = λ s given named. rw e (ran-none s last ws grew) }

  pub runs_append : {cs ds : List Outlives} {ws grew ws₁ grew₁ ws₂ grew₂ : List ℕ} → Runs g last cs ws grew ws₁ grew₁ → Runs g last ds ws₁ grew₁ ws₂ grew₂
      → Runs g last (cs ++ ds) ws grew ws₂ grew₂
  runs_append {cs} {ds} x y = record {
    ran = λ s given named.
        let r = x.ran s given (λ c m. named c (member_left cs ds m)) in
        ran_append r (y.ran s (given-kept given r) (λ c m. named c (member_right cs ds m)));
  }

  -- one constraint
  pub runs_one : {c : Constraint} {p : ℕ} {ws grew ws' grew' : List ℕ} → p ≡ c.point
      → ((s : Setting) → Given s g ws grew → Names s (constraint c.sup c.sub p) → Ran s last (constraint c.sup c.sub p ∷ []) ws grew ws' grew')
      → Runs g last (outlives_of c ∷ []) ws grew ws' grew'
  runs_one {c} e one = record { ran = λ s given named. rw (sym e) (one s given (rw e (named (outlives_of c) here))) }

  pub first_runs : (t : List ℕ) {ws grew : List ℕ} → Runs g last (first_in t 0) ws grew ws grew
  first_runs t = runs_none (first-none t)

  -- one more constraint, which was read from the table
  pub next_runs : (t : List ℕ) (i : ℕ) {c : Constraint} {ws grew ws₁ grew₁ ws₂ grew₂ : List ℕ} → Runs g last (first_in t i) ws grew ws₁ grew₁
      → outlives_of c ≡ outlives_from (get_or t (i + 1) 0) → Runs g last (outlives_of c ∷ []) ws₁ grew₁ ws₂ grew₂
      → Runs g last (first_in t (i + 1)) ws grew ws₂ grew₂
  next_runs t i {c} {ws} {grew} {ws₁} {grew₁} {ws₂} {grew₂} x e y =
      subst (λ (cs : List Outlives). Runs g last cs ws grew ws₂ grew₂) (next-first t i e) (runs_append x y)

-- the same of what is drawn
pub next_drawn : (t : List ℕ) (i : ℕ) {c : Constraint} {ls ls₁ ls₂ : List ℕ} → Draws (first_in t i) ls ls₁ → outlives_of c ≡ outlives_from (get_or t (i + 1) 0) → Draws (outlives_of c ∷ []) ls₁ ls₂ → Draws (first_in t (i + 1)) ls ls₂
next_drawn t i {c} {ls} {ls₁} {ls₂} x e y = subst (λ (cs : List Outlives). Draws cs ls ls₂) (next-first t i e) (draws_append x y)
