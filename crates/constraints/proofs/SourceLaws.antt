-- The constraints of a borrow's supporting prefixes, by what `path_type` and `shortest` say of its source: `source-same`. Assumes nothing.
use mathlib.Core.Path.{◌≡◌, refl, sym, ap, ap₂, ◌∙◌}
use mathlib.Core.Bool.{Bool, true, false, ◌&&◌, not, cond, not-not}
use mathlib.Core.List.{List, [], ◌∷◌, ◌++◌}
use Prim.Native.Nat.{ℕ, suc, ◌+◌, ◌≤◌, ◌<◌}
use native.Mathlib.Nat.{not-suc-le-zero}
use native.Mathlib.Omega.{arith}
use native.Mathlib.Numerals.{add-one}
use lib.ListN.{length, get_or, take, drop}
use lib.Dec.{T, eqb, leb, ltb, ltb→lt}
use Rattle.nll_spec.specs.Lists.{gather, count_from}
use Rattle.nll_spec.specs.Syntax.{Job, Point, RegionName, FieldName, Region, Free, BoundRegion, Ty, UnitTy, RefTy, StructTy, BoundTy, StructDecl, Path}
use Rattle.nll_spec.specs.Types.{variable_type, path_type, type_after, step, never_stops, is_shared, is_ref, ref_region}
use Rattle.nll_spec.specs.WellFormed.{refusal, type_fits, region_fits}
use Rattle.nll_spec.specs.Constraints.{Outlives, require_outlives, relate_source}
use Rattle.nll_spec.proofs.Tests.{and_left}
use Rattle.nll_spec.proofs.AcceptedLaws.{accepted-job}
use Rattle.nll_spec.proofs.TypeLaws.{path_good}
use Rattle.env.specs.Prefixes.{kind_code, Leaves, ShortestOf}
use Rattle.env.specs.declared.Shortest.{Shortest}
use Rattle.env.proofs.PrefixLaws.{later_never_stops, ref_kind}
use Rattle.constraints.specs.Constraining.{step_constraints, source_constraints}

-- ---- Step by step

module _ (at : Point) (ss : List StructDecl) (r : Region) where
  -- what the step after the type t makes, if `through` says that its prefix is a supporting one
  abbrev made : Ty → Bool → List Outlives
  made t through = cond (is_ref t && through) (require_outlives at (ref_region t) r) []

  source_from : (f : ℕ → List Outlives) (k : ℕ) (t : Ty) (fs : List FieldName)
      → ((i : ℕ) → i < length fs → f (k + i) ≡ made (type_after ss t (take i fs)) (never_stops ss is_shared (type_after ss t (take (suc i) fs)) (drop (suc i) fs)))
      → relate_source at ss r t fs ≡ gather f (count_from k (length fs))
  unfolding relate_source type_after
  source_from f k t [] h = refl
  source_from f k t (g ∷ fs) h =
      let e : f k ≡ made t (never_stops ss is_shared (step ss t g) fs) = ap f (omega arith) ∙ h 0 (omega arith) in
      ap₂ (λ (x y : List Outlives). x ++ y) (sym e) (source_from f (suc k) (step ss t g) fs (λ i l. ap f (omega arith) ∙ h (suc i) (omega arith)))

-- ---- By the kinds and the names

-- a region that is no bound
free_region : (r : Region) → T (region_fits [] r) → (n : RegionName) × (r ≡ Free n)
free_region (Free n) h = (n, refl)
free_region (BoundRegion b) h = absurd (not-suc-le-zero (ltb→lt b 0 (and_left (ltb b 0) true h)))

free_ref : (ss : List StructDecl) (t : Ty) → T (type_fits ss [] t) → is_ref t ≡ true → (n : RegionName) × (ref_region t ≡ Free n)
unfolding type_fits
free_ref ss UnitTy h e = (0, refl)
free_ref ss (RefTy k r t) h e = free_region r (and_left (region_fits [] r) (type_fits ss [] t) h)
free_ref ss (StructTy s given) h e = (0, refl)
free_ref ss (BoundTy b) h e = (0, refl)

module _ (at : Point) (r : RegionName) (t : Ty) (kind name shortest i : ℕ) (through : Bool) (free : is_ref t ≡ true → (n : RegionName) × (ref_region t ≡ Free n)) (k : kind ≡ kind_code t)
    (n : (x : ℕ) → is_ref t ≡ true → ref_region t ≡ Free x → name ≡ x) (l : through ≡ leb shortest (i + 1)) where
  one_step : cond (not (eqb kind 0) && leb shortest (i + 1)) (require_outlives at (Free name) (Free r)) [] ≡ cond (is_ref t && through) (require_outlives at (ref_region t) (Free r)) []
  one_step =
      ap (λ (x : ℕ). cond (not (eqb x 0) && leb shortest (i + 1)) (require_outlives at (Free name) (Free r)) []) k
      ∙ ap₂ (λ (x y : Bool). cond (x && y) (require_outlives at (Free name) (Free r)) []) (sym (ap not (ref_kind t)) ∙ not-not (is_ref t)) (sym l)
      ∙ go (is_ref t) refl through
    where
      go : (b : Bool) → is_ref t ≡ b → (y : Bool) → cond (b && y) (require_outlives at (Free name) (Free r)) [] ≡ cond (b && y) (require_outlives at (ref_region t) (Free r)) []
      go false e y = refl
      go true e y =
          let (x, q) = free e in
          ap (λ (cs : List Outlives). cond y cs []) (ap (λ (m : ℕ). require_outlives at (Free m) (Free r)) (n x e q) ∙ ap (λ (z : Region). require_outlives at z (Free r)) (sym q))

module _ (j : Job) (accepted : refusal j ≡ 0) (p : Path) {kinds names : List ℕ} {of : Shortest} (l : Leaves j.structs (variable_type j p.base) p.steps kinds names) (few : length p.steps ≤ 8) (w : ShortestOf j p of) where
  -- the type that some of the steps reach has no bound
  along : (i : ℕ) → T (type_fits j.structs [] (type_after j.structs (variable_type j p.base) (take i p.steps)))
  unfolding path_type
  along i =
      let ok = accepted-job j accepted in
      (path_good j ok.structs-named ok.fields-fit ok.variables-named ok.variables-fit (record { base = p.base; steps = take i p.steps })).1

  pub source-same : (at : Point) (r : RegionName) → source_constraints at kinds names of.supporting r (length p.steps) ≡ relate_source at j.structs (Free r) (variable_type j p.base) p.steps
  source-same at r =
      sym (source_from at j.structs (Free r) (step_constraints at kinds names of.supporting r) 0 (variable_type j p.base) p.steps (λ i h.
      let z : 0 + i ≡ i = omega arith in
      let u : Ty = type_after j.structs (variable_type j p.base) (take i p.steps) in
      ap (step_constraints at kinds names of.supporting r) z
      ∙ one_step at r u (get_or kinds i 0) (get_or names i 0) of.supporting i _ (free_ref j.structs u (along i)) (l.kind i h (omega arith)) (λ x a b. l.name i x h (omega arith) a b)
      (ap (λ (m : ℕ). never_stops j.structs is_shared (type_after j.structs (variable_type j p.base) (take m p.steps)) (drop m p.steps)) (sym (add-one i)) ∙ later_never_stops j p w i h)))
