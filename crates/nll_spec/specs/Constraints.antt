-- The constraints `sup outlives sub at point` that the actions of walked blocks make.
use Rattle.std.specs.Prelude.{◌&&◌, cond, suc}
use mathlib.Core.List.{List, [], ◌∷◌, ◌++◌, map, tail}
use Rattle.nll_spec.specs.Lists.{gather, select, below}
use Rattle.nll_spec.specs.Syntax.{RegionName, Point, FieldName, BorrowKind, Mut, Shared, Variance, Co, Contra, In, Region, Free}
use Rattle.nll_spec.specs.Syntax.{Ty, UnitTy, RefTy, StructTy, BoundTy, Args, NoArgs, RegionArg, TypeArg, Param, StructDecl}
use Rattle.nll_spec.specs.Syntax.{Action, Noop, Init, Borrow, Assign, Constraint, Use, Drop, StorageDead, Job}
use Rattle.nll_spec.specs.Types.{struct_of, variable_type, path_type, step, never_stops, is_shared, is_ref, region_name, ref_region, referent, struct_args, head_region, head_type, tail_args}
use Rattle.nll_spec.specs.Graph.{Graph, action_at, is_walked}

pub record Outlives : Type 0 where
  pub sup : RegionName
  pub sub : RegionName
  pub point : Point

-- ---- Variance

abbrev pub invert : Variance → Variance
invert Co = Contra
invert Contra = Co
invert In = In

-- the variance of a part, within a whole that stands at the first variance
abbrev pub within : Variance → Variance → Variance
within Co v = v
within Contra v = invert v
within In v = In

-- the variance of what a Ref refers to
abbrev pub referent_variance : BorrowKind → Variance
referent_variance Mut = In
referent_variance Shared = Co

-- ---- Relating types, at a point

-- the first parameter's variance; of no parameters it is never asked
abbrev pub head_variance : List Param → Variance
head_variance [] = In
head_variance (d ∷ ds) = d.variance

module _ (at : Point) where
  -- the first outlives the second; neither is a bound in an accepted job
  abbrev pub require_outlives : Region → Region → List Outlives
  require_outlives a b = gather (λ sup. map (λ sub. record { sup = sup; sub = sub; point = at }) (region_name b)) (region_name a)

  -- Co: the second outlives the first. Contra: the first outlives the second. In: both.
  abbrev pub relate_regions : Variance → Region → Region → List Outlives
  relate_regions Co a b = require_outlives b a
  relate_regions Contra a b = require_outlives a b
  relate_regions In a b = require_outlives a b ++ require_outlives b a

  module _ (ss : List StructDecl) where
    -- the parts of the first type and those of the second, which has the same shape
    unfoldable mutual
      pub relate : Ty → Variance → Ty → List Outlives
      relate UnitTy v u = []
      relate (RefTy k r t) v u = relate_regions (invert v) r (ref_region u) ++ relate t (within v (referent_variance k)) (referent u)
      relate (StructTy s given) v u = relate_args given v (struct_of ss s).params (struct_args u)
      relate (BoundTy b) v u = []

      pub relate_args : Args → Variance → List Param → Args → List Outlives
      relate_args NoArgs v ds us = []
      relate_args (RegionArg r rest) v ds us = relate_regions (within v (head_variance ds)) r (head_region us) ++ relate_args rest v (tail ds) (tail_args us)
      relate_args (TypeArg t rest) v ds us = relate t (within v (head_variance ds)) (head_type us) ++ relate_args rest v (tail ds) (tail_args us)

    -- For each supporting prefix of a borrow's source that ends in a step out of a Ref: that Ref's region outlives the borrow's.
    unfoldable pub relate_source : Region → Ty → List FieldName → List Outlives
    relate_source r t [] = []
    relate_source r t (f ∷ fs) =
        cond (is_ref t && never_stops ss is_shared (step ss t f) fs) (require_outlives (ref_region t) r) [] ++ relate_source r (step ss t f) fs

-- ---- What an action makes

-- A Constraint acts at its own point, all else at the next one.
unfoldable pub constraints_at : Job → Point → Action → List Outlives
constraints_at j p Noop = []
constraints_at j p (Init d qs) = []
constraints_at j p (Borrow d r k q) =
    relate (suc p) j.structs (path_type j d) Contra (RefTy k (Free r) (path_type j q))
    ++ relate_source (suc p) j.structs (Free r) (variable_type j q.base) q.steps
constraints_at j p (Assign d q) = relate (suc p) j.structs (path_type j q) Co (path_type j d)
constraints_at j p (Constraint sup sub) = record { sup = sup; sub = sub; point = p } ∷ []
constraints_at j p (Use q) = []
constraints_at j p (Drop q) = []
constraints_at j p (StorageDead v) = []

unfoldable pub constraints_of : Job → Graph → List Outlives
constraints_of j g = gather (λ p. constraints_at j p (action_at g p)) (select (is_walked g) (below g.code))
