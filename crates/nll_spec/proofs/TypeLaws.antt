-- In a job that refusals 6, 7 and 9 let pass, the types of paths name regions of the job and hold no bound, and so do the constraints: `path_good`,
-- `constraints_good`.
-- Assumes nothing.
use mathlib.Core.Path.{◌≡◌, refl, sym, subst as transport, ap}
use mathlib.Core.Bool.{Bool, true, false, ◌&&◌, cond}
use mathlib.Core.List.{List, [], ◌∷◌}
use mathlib.Core.Option.{Option, none, some, none-ne-some, some-injective}
use Prim.Native.Nat.{ℕ, zero, suc, ◌-◌, ◌<◌}
use native.Mathlib.Nat.{not-suc-le-zero, le_of_suc-le-suc}
use native.Mathlib.Omega.{arith}
use native.Mathlib.Decide.{dec_lt}
use lib.ListN.{length, get_or, get_or-eq_default}
use lib.Dec.{T, eqb, eqb→eq, ltb, ltb→lt, lt→ltb}
use Rattle.nll_spec.specs.Lists.{every, select, below}
use Rattle.nll_spec.specs.Syntax.{BorrowKind, Kind, RegionKind, TypeKind, Region, Free, BoundRegion, RegionName, Variable, FieldName, Point, Variance, Co, Contra, In as Inv}
use Rattle.nll_spec.specs.Syntax.{Ty, UnitTy, RefTy, StructTy, BoundTy, Args, NoArgs, RegionArg, TypeArg, Param, Field, StructDecl, Path, Job}
use Rattle.nll_spec.specs.Syntax.{Action, Noop, Init, Borrow, Assign, Constraint, Use, Drop, StorageDead}
use Rattle.nll_spec.specs.Types.{struct_of, variable_type, path_type, type_after, step, step_type, field_type, subst, subst_args, subst_region, drop_args, arg_count, tail_args, head_region, head_type, ref_region, is_ref, is_shared, never_stops, same_kind}
use Rattle.nll_spec.specs.Graph.{graph_of, action_at, is_walked}
use Rattle.nll_spec.specs.Constraints.{Outlives, invert, within, referent_variance, require_outlives, relate_regions, relate, relate_args, relate_source, constraints_at, constraints_of}
use Rattle.nll_spec.specs.WellFormed.{action_named, path_named, shape_fits, is_region, region_named, type_named, args_named, field_named, structs_named, variables_named, is_region_kind, is_type_kind, bound_fits, region_fits, type_fits, args_fit, fields_fit, variables_fit, same_shape, same_shapes}
use Rattle.nll_spec.proofs.Tests.{and_intro, and_left, and_right}
use Rattle.nll_spec.proofs.AcceptedLaws.{Accepted}
use Rattle.nll_spec.proofs.Lookup.{every-at, every_append, every-gather}

no_param : Param
no_param = record { variance = Co; may_dangle = false; kind = RegionKind }

module _ (j : Job) where
  -- a region that is a name of the job
  abbrev pub GoodRegion : Region → Type 0
  GoodRegion r = T (region_named j r) × T (region_fits [] r)

  -- a type that names what the job has and holds no bound
  abbrev pub GoodType : Ty → Type 0
  GoodType t = T (type_named j t) × T (type_fits j.structs [] t)

  -- arguments that do so, and fit the parameters
  abbrev pub GoodArgs : Args → List Param → Type 0
  GoodArgs given ds = T (args_named j given) × T (args_fit j.structs [] given ds)

  good_unit : GoodType UnitTy
  unfolding type_named type_fits
  good_unit = (tt, tt)

  -- ---- An argument by its number

  count_fits : (given : Args) (ds : List Param) → T (args_fit j.structs [] given ds) → arg_count given ≡ length ds
  unfolding type_fits arg_count
  count_fits NoArgs [] h = refl
  count_fits (RegionArg r rest) (d ∷ ds) h = ap suc (count_fits rest ds (and_right (is_region_kind d.kind && region_fits [] r) (args_fit j.structs [] rest ds) h))
  count_fits (TypeArg t rest) (d ∷ ds) h = ap suc (count_fits rest ds (and_right (is_type_kind d.kind && type_fits j.structs [] t) (args_fit j.structs [] rest ds) h))
  count_fits NoArgs (d ∷ ds) h = elim h [ ]
  count_fits (RegionArg r rest) [] h = elim h [ ]
  count_fits (TypeArg t rest) [] h = elim h [ ]

  -- what follows the first argument
  good_tail : (given : Args) (d : Param) (ds : List Param) → GoodArgs given (d ∷ ds) → GoodArgs (tail_args given) ds
  unfolding type_fits type_named
  good_tail NoArgs d ds h = absurd h.1
  good_tail (RegionArg r rest) d ds h = (and_right (region_named j r) (args_named j rest) h.0, and_right (is_region_kind d.kind && region_fits [] r) (args_fit j.structs [] rest ds) h.1)
  good_tail (TypeArg t rest) d ds h = (and_right (type_named j t) (args_named j rest) h.0, and_right (is_type_kind d.kind && type_fits j.structs [] t) (args_fit j.structs [] rest ds) h.1)

  region-not-type : (k : Kind) → T (is_region_kind k) → T (is_type_kind k) → ⊥
  region-not-type RegionKind a b = b
  region-not-type TypeKind a b = a

  good_head_region : (given : Args) (d : Param) (ds : List Param) → GoodArgs given (d ∷ ds) → T (is_region_kind d.kind) → GoodRegion (head_region given)
  unfolding type_fits type_named
  good_head_region NoArgs d ds h k = absurd h.1
  good_head_region (RegionArg r rest) d ds h k = (
    and_left (region_named j r) (args_named j rest) h.0,
    and_right (is_region_kind d.kind) (region_fits [] r) (and_left (is_region_kind d.kind && region_fits [] r) (args_fit j.structs [] rest ds) h.1),
  )
  good_head_region (TypeArg t rest) d ds h k =
      absurd (region-not-type d.kind k (and_left (is_type_kind d.kind) (type_fits j.structs [] t) (and_left (is_type_kind d.kind && type_fits j.structs [] t) (args_fit j.structs [] rest ds) h.1)))

  good_head_type : (given : Args) (d : Param) (ds : List Param) → GoodArgs given (d ∷ ds) → T (is_type_kind d.kind) → GoodType (head_type given)
  unfolding type_fits type_named
  good_head_type NoArgs d ds h k = absurd h.1
  good_head_type (RegionArg r rest) d ds h k =
      absurd (region-not-type d.kind (and_left (is_region_kind d.kind) (region_fits [] r) (and_left (is_region_kind d.kind && region_fits [] r) (args_fit j.structs [] rest ds) h.1)) k)
  good_head_type (TypeArg t rest) d ds h k = (
    and_left (type_named j t) (args_named j rest) h.0,
    and_right (is_type_kind d.kind) (type_fits j.structs [] t) (and_left (is_type_kind d.kind && type_fits j.structs [] t) (args_fit j.structs [] rest ds) h.1),
  )

  -- the argument of number i, and the parameter
  good_region-at : (i : ℕ) (given : Args) (ds : List Param) → GoodArgs given ds → i < length ds → T (is_region_kind (get_or ds i no_param).kind) → GoodRegion (head_region (drop_args i given))
  unfolding drop_args
  good_region-at i given [] h l k = absurd (not-suc-le-zero l)
  good_region-at zero given (d ∷ ds) h l k = good_head_region given d ds h k
  good_region-at (suc i) given (d ∷ ds) h l k = good_region-at i (tail_args given) ds (good_tail given d ds h) (le_of_suc-le-suc l) k

  good_type-at : (i : ℕ) (given : Args) (ds : List Param) → GoodArgs given ds → i < length ds → T (is_type_kind (get_or ds i no_param).kind) → GoodType (head_type (drop_args i given))
  unfolding drop_args
  good_type-at i given [] h l k = absurd (not-suc-le-zero l)
  good_type-at zero given (d ∷ ds) h l k = good_head_type given d ds h k
  good_type-at (suc i) given (d ∷ ds) h l k = good_type-at i (tail_args given) ds (good_tail given d ds h) (le_of_suc-le-suc l) k

  -- ---- Substitution

  module _ (given : Args) (params : List Param) (hg : GoodArgs given params) where
    bound_in : (fits : Kind → Bool) (b : ℕ) → T (bound_fits fits params b) → (arg_count given - suc b < length params) × T (fits (get_or params (arg_count given - suc b) no_param).kind)
    unfolding no_param
    bound_in fits b h = (
      omega (arith, l, count_fits given params hg.1),
      transport (λ (n : ℕ). T (fits (get_or params (n - suc b) no_param).kind)) (sym (count_fits given params hg.1)) (and_right (ltb b (length params)) _ h),
    )
      where
        l : b < length params
        l = ltb→lt b (length params) (and_left (ltb b (length params)) (fits (get_or params (length params - suc b) no_param).kind) h)

    good_subst-region : (r : Region) → T (region_named j r) → T (region_fits params r) → GoodRegion (subst_region given r)
    good_subst-region (Free n) h k = (h, tt)
    good_subst-region (BoundRegion b) h k = good_region-at (arg_count given - suc b) given params hg (bound_in is_region_kind b k).0 (bound_in is_region_kind b k).1

    mutual
      unfolding subst type_named type_fits

      good_subst : (t : Ty) → T (type_named j t) → T (type_fits j.structs params t) → GoodType (subst t given)
      good_subst UnitTy h k = (tt, tt)
      good_subst (RefTy m r t) h k =
          let a = good_subst-region r (and_left (region_named j r) (type_named j t) h) (and_left (region_fits params r) (type_fits j.structs params t) k) in
          let b = good_subst t (and_right (region_named j r) (type_named j t) h) (and_right (region_fits params r) (type_fits j.structs params t) k) in (
            and_intro (region_named j (subst_region given r)) (type_named j (subst t given)) a.0 b.0,
            and_intro (region_fits [] (subst_region given r)) (type_fits j.structs [] (subst t given)) a.1 b.1,
          )
      good_subst (StructTy s rest) h k =
          let a = good_subst_args rest (struct_of j.structs s).params (and_right (ltb s (length j.structs)) (args_named j rest) h) k in
          (and_intro (ltb s (length j.structs)) (args_named j (subst_args rest given)) (and_left (ltb s (length j.structs)) (args_named j rest) h) a.0, a.1)
      good_subst (BoundTy b) h k = good_type-at (arg_count given - suc b) given params hg (bound_in is_type_kind b k).0 (bound_in is_type_kind b k).1

      good_subst_args : (rest : Args) (ds : List Param) → T (args_named j rest) → T (args_fit j.structs params rest ds) → GoodArgs (subst_args rest given) ds
      good_subst_args NoArgs [] h k = (tt, tt)
      good_subst_args NoArgs (d ∷ ds) h k = absurd k
      good_subst_args (RegionArg r rest) [] h k = absurd k
      good_subst_args (RegionArg r rest) (d ∷ ds) h k =
          let a = good_subst-region r (and_left (region_named j r) (args_named j rest) h) (and_right (is_region_kind d.kind) (region_fits params r) (and_left (is_region_kind d.kind && region_fits params r) (args_fit j.structs params rest ds) k)) in
          let b = good_subst_args rest ds (and_right (region_named j r) (args_named j rest) h) (and_right (is_region_kind d.kind && region_fits params r) (args_fit j.structs params rest ds) k) in (
            and_intro (region_named j (subst_region given r)) (args_named j (subst_args rest given)) a.0 b.0,
            and_intro (is_region_kind d.kind && region_fits [] (subst_region given r)) (args_fit j.structs [] (subst_args rest given) ds)
                (and_intro (is_region_kind d.kind) (region_fits [] (subst_region given r)) (and_left (is_region_kind d.kind) (region_fits params r) (and_left (is_region_kind d.kind && region_fits params r) (args_fit j.structs params rest ds) k)) a.1) b.1,
          )
      good_subst_args (TypeArg t rest) [] h k = absurd k
      good_subst_args (TypeArg t rest) (d ∷ ds) h k =
          let a = good_subst t (and_left (type_named j t) (args_named j rest) h) (and_right (is_type_kind d.kind) (type_fits j.structs params t) (and_left (is_type_kind d.kind && type_fits j.structs params t) (args_fit j.structs params rest ds) k)) in
          let b = good_subst_args rest ds (and_right (type_named j t) (args_named j rest) h) (and_right (is_type_kind d.kind && type_fits j.structs params t) (args_fit j.structs params rest ds) k) in (
            and_intro (type_named j (subst t given)) (args_named j (subst_args rest given)) a.0 b.0,
            and_intro (is_type_kind d.kind && type_fits j.structs [] (subst t given)) (args_fit j.structs [] (subst_args rest given) ds)
                (and_intro (is_type_kind d.kind) (type_fits j.structs [] (subst t given)) (and_left (is_type_kind d.kind) (type_fits j.structs params t) (and_left (is_type_kind d.kind && type_fits j.structs params t) (args_fit j.structs params rest ds) k)) a.1) b.1,
          )

  good_ref_type : (k : BorrowKind) (r : RegionName) (t : Ty) → T (is_region j r) → GoodType t → GoodType (RefTy k (Free r) t)
  unfolding type_named type_fits
  good_ref_type k r t h g = (and_intro (is_region j r) (type_named j t) h g.0, g.1)

  -- ---- Steps and paths

  module _ (structs-named : T (structs_named j)) (structs-fit : T (fields_fit j)) where
    good_field : (params : List Param) (fs : List Field) (f : FieldName) (t : Ty) → T (every (field_named j) fs) → T (every (λ d. type_fits j.structs params d.type) fs) → field_type fs f ≡ some t
        → T (type_named j t) × T (type_fits j.structs params t)
    unfolding field_type
    good_field params [] f t h k e = absurd (none-ne-some t e)
    good_field params (d ∷ ds) f t h k e = go (eqb d.number f) e (λ e. good_field params ds f t (and_right (field_named j d) (every (field_named j) ds) h) (and_right (type_fits j.structs params d.type) (every (λ x. type_fits j.structs params x.type) ds) k) e)
      where
        go : (b : Bool) → ◌≡◌ {A = Option Ty} (elim b [ true ↦ some d.type | false ↦ field_type ds f ]) (some t) → (field_type ds f ≡ some t → T (type_named j t) × T (type_fits j.structs params t))
            → T (type_named j t) × T (type_fits j.structs params t)
        go false e ih = ih e
        go true e ih =
            transport (λ (x : Ty). T (type_named j x) × T (type_fits j.structs params x)) (some-injective d.type t e)
            (and_right (ltb 0 d.number) (type_named j d.type) (and_left (field_named j d) (every (field_named j) ds) h), and_left (type_fits j.structs params d.type) (every (λ x. type_fits j.structs params x.type) ds) k)

    good_step : (t : Ty) (f : FieldName) → GoodType t → GoodType (step j.structs t f)
    unfolding step step_type type_named type_fits structs_named fields_fit
    good_step UnitTy f h = good_unit
    good_step (RefTy k r t) f h = go (eqb f 0)
      where
        go : (b : Bool) → GoodType (elim (cond b (some t) none) as (λ x. Ty) [ none ↦ UnitTy | some u ↦ u ])
        go true = (and_right (region_named j r) (type_named j t) h.0, and_right (region_fits [] r) (type_fits j.structs [] t) h.1)
        go false = good_unit
    good_step (StructTy s given) f h = go (field_type (struct_of j.structs s).fields f) refl
      where
        decl : StructDecl
        decl = struct_of j.structs s

        l : s < length j.structs
        l = ltb→lt s (length j.structs) (and_left (ltb s (length j.structs)) (args_named j given) h.0)

        go : (o : Option Ty) → field_type decl.fields f ≡ o → GoodType (elim (elim o as (λ x. Option Ty) [ none ↦ none | some t ↦ some (subst t given) ]) as (λ x. Ty) [ none ↦ UnitTy | some u ↦ u ])
        go none e = good_unit
        go (some t) e = good_subst given decl.params (and_right (ltb s (length j.structs)) (args_named j given) h.0, h.1) t ok.0 ok.1
          where
            ok : T (type_named j t) × T (type_fits j.structs decl.params t)
            ok =
                good_field decl.params decl.fields f t (every-at (λ x. every (field_named j) x.fields) j.structs s (record { params = []; fields = [] }) structs-named l)
                (every-at (λ x. every (λ d. type_fits j.structs x.params d.type) x.fields) j.structs s (record { params = []; fields = [] }) structs-fit l) e
    good_step (BoundTy b) f h = good_unit

    good_steps : (t : Ty) (fs : List FieldName) → GoodType t → GoodType (type_after j.structs t fs)
    unfolding type_after
    good_steps t [] h = h
    good_steps t (f ∷ fs) h = good_steps (step j.structs t f) fs (good_step t f h)

    module _ (variables-named : T (variables_named j)) (variables-fit : T (variables_fit j)) where
      pub good_variable : (v : Variable) → GoodType (variable_type j v)
      unfolding variables_named variables_fit
      good_variable v = go (dec_lt v (length j.variables))
        where
          go : Dec (v < length j.variables) → GoodType (variable_type j v)
          go (yes l) = (every-at (type_named j) j.variables v UnitTy variables-named l, every-at (type_fits j.structs []) j.variables v UnitTy variables-fit l)
          go (no l) = transport (λ (t : Ty). GoodType t) (sym (get_or-eq_default j.variables UnitTy (omega arith))) good_unit

      pub path_good : (p : Path) → GoodType (path_type j p)
      unfolding path_type
      path_good p = good_steps (variable_type j p.base) p.steps (good_variable p.base)

  -- ---- Constraints

  -- a constraint between regions of the job
  abbrev pub is_named : Outlives → Bool
  is_named c = ltb c.sup j.regions && ltb c.sub j.regions

  module _ (at : Point) where
    good_outlives : (a b : Region) → GoodRegion a → GoodRegion b → T (every is_named (require_outlives at a b))
    good_outlives (Free x) (Free y) h k = and_intro (is_named (record { sup = x; sub = y; point = at })) true (and_intro (ltb x j.regions) (ltb y j.regions) h.0 k.0) tt
    good_outlives (Free x) (BoundRegion b) h k = tt
    good_outlives (BoundRegion a) b h k = tt

    good_relate_regions : (v : Variance) (a b : Region) → GoodRegion a → GoodRegion b → T (every is_named (relate_regions at v a b))
    good_relate_regions Co a b h k = good_outlives b a k h
    good_relate_regions Contra a b h k = good_outlives a b h k
    good_relate_regions Inv a b h k = every_append is_named (require_outlives at a b) (require_outlives at b a) (good_outlives a b h k) (good_outlives b a k h)

    mutual
      unfolding relate same_shape type_named type_fits

      good_relate : (a : Ty) (v : Variance) (b : Ty) → GoodType a → GoodType b → T (same_shape a b) → T (every is_named (relate at j.structs a v b))
      good_relate UnitTy v b h k s = tt
      good_relate (RefTy m r t) v UnitTy h k s = absurd s
      good_relate (RefTy m r t) v (RefTy m' r' t') h k s =
          every_append is_named (relate_regions at (invert v) r r') (relate at j.structs t (within v (referent_variance m)) t')
          (good_relate_regions (invert v) r r' (and_left (region_named j r) (type_named j t) h.0, and_left (region_fits [] r) (type_fits j.structs [] t) h.1)
          (and_left (region_named j r') (type_named j t') k.0, and_left (region_fits [] r') (type_fits j.structs [] t') k.1))
          (good_relate t (within v (referent_variance m)) t' (and_right (region_named j r) (type_named j t) h.0, and_right (region_fits [] r) (type_fits j.structs [] t) h.1)
          (and_right (region_named j r') (type_named j t') k.0, and_right (region_fits [] r') (type_fits j.structs [] t') k.1) (and_right (same_kind m m') (same_shape t t') s))
      good_relate (RefTy m r t) v (StructTy n given) h k s = absurd s
      good_relate (RefTy m r t) v (BoundTy b) h k s = absurd s
      good_relate (StructTy n given) v UnitTy h k s = absurd s
      good_relate (StructTy n given) v (RefTy m r t) h k s = absurd s
      good_relate (StructTy n given) v (StructTy n' given') h k s =
          good_relate_args given v (struct_of j.structs n).params given' (and_right (ltb n (length j.structs)) (args_named j given) h.0, h.1) (
            and_right (ltb n' (length j.structs)) (args_named j given') k.0,
            transport (λ (x : ℕ). T (args_fit j.structs [] given' (struct_of j.structs x).params)) (sym (eqb→eq n n' (and_left (eqb n n') (same_shapes given given') s))) k.1,
          )
          (and_right (eqb n n') (same_shapes given given') s)
      good_relate (StructTy n given) v (BoundTy b) h k s = absurd s
      good_relate (BoundTy b) v u h k s = tt

      good_relate_args : (a : Args) (v : Variance) (ds : List Param) (b : Args) → GoodArgs a ds → GoodArgs b ds → T (same_shapes a b) → T (every is_named (relate_args at j.structs a v ds b))
      good_relate_args NoArgs v ds b h k s = tt
      good_relate_args (RegionArg r rest) v [] b h k s = absurd h.1
      good_relate_args (RegionArg r rest) v (d ∷ ds) b h k s =
          every_append is_named (relate_regions at (within v d.variance) r (head_region b)) (relate_args at j.structs rest v ds (tail_args b))
          (good_relate_regions (within v d.variance) r (head_region b) (good_head_region (RegionArg r rest) d ds h kind) (good_head_region b d ds k kind))
          (good_relate_args rest v ds (tail_args b) (good_tail (RegionArg r rest) d ds h) (good_tail b d ds k) s)
        where
          kind : T (is_region_kind d.kind)
          kind = and_left (is_region_kind d.kind) (region_fits [] r) (and_left (is_region_kind d.kind && region_fits [] r) (args_fit j.structs [] rest ds) h.1)
      good_relate_args (TypeArg t rest) v [] b h k s = absurd h.1
      good_relate_args (TypeArg t rest) v (d ∷ ds) b h k s =
          every_append is_named (relate at j.structs t (within v d.variance) (head_type b)) (relate_args at j.structs rest v ds (tail_args b))
          (good_relate t (within v d.variance) (head_type b) (good_head_type (TypeArg t rest) d ds h kind) (good_head_type b d ds k kind) (and_left (same_shape t (head_type b)) (same_shapes rest (tail_args b)) s))
          (good_relate_args rest v ds (tail_args b) (good_tail (TypeArg t rest) d ds h) (good_tail b d ds k) (and_right (same_shape t (head_type b)) (same_shapes rest (tail_args b)) s))
        where
          kind : T (is_type_kind d.kind)
          kind = and_left (is_type_kind d.kind) (type_fits j.structs [] t) (and_left (is_type_kind d.kind && type_fits j.structs [] t) (args_fit j.structs [] rest ds) h.1)

    good_ref : (t : Ty) → GoodType t → T (is_ref t) → GoodRegion (ref_region t)
    unfolding type_named type_fits
    good_ref (RefTy k r t) h w = (and_left (region_named j r) (type_named j t) h.0, and_left (region_fits [] r) (type_fits j.structs [] t) h.1)
    good_ref UnitTy h w = elim w [ ]
    good_ref (StructTy _ _) h w = elim w [ ]
    good_ref (BoundTy _) h w = elim w [ ]

    module _ (structs-named : T (structs_named j)) (structs-fit : T (fields_fit j)) where
      good_source : (r : RegionName) (t : Ty) (fs : List FieldName) → r < j.regions → GoodType t → T (every is_named (relate_source at j.structs (Free r) t fs))
      unfolding relate_source
      good_source r t [] hr h = tt
      good_source r t (f ∷ fs) hr h =
          every_append is_named (cond (is_ref t && through) (require_outlives at (ref_region t) (Free r)) []) (relate_source at j.structs (Free r) (step j.structs t f) fs) (go (is_ref t && through) refl)
          (good_source r (step j.structs t f) fs hr (good_step structs-named structs-fit t f h))
        where
          through : Bool
          through = never_stops j.structs is_shared (step j.structs t f) fs

          go : (b : Bool) → is_ref t && through ≡ b → T (every is_named (cond b (require_outlives at (ref_region t) (Free r)) []))
          go false e = tt
          go true e = good_outlives (ref_region t) (Free r) (good_ref t h (and_left (is_ref t) through (transport T (sym e) tt))) (lt→ltb r j.regions hr, tt)

-- every constraint of an accepted job is between regions of the job
module _ (j : Job) (ok : Accepted j) where
  good_at : (p : Point) (a : Action) → T (action_named j a) → T (shape_fits j a) → T (every (is_named j) (constraints_at j p a))
  unfolding constraints_at action_named shape_fits
  good_at p Noop n s = tt
  good_at p (Init d qs) n s = tt
  good_at p (Borrow d r k q) n s =
      every_append (is_named j) (relate (suc p) j.structs (path_type j d) Contra (RefTy k (Free r) (path_type j q))) (relate_source (suc p) j.structs (Free r) (variable_type j q.base) q.steps)
      (good_relate j (suc p) (path_type j d) Contra (RefTy k (Free r) (path_type j q)) (path-type d) ref_type s)
      (good_source j (suc p) ok.structs-named ok.fields-fit r (variable_type j q.base) q.steps (ltb→lt r j.regions is-region) (good_variable j ok.structs-named ok.fields-fit ok.variables-named ok.variables-fit q.base))
    where
      path-type : (x : Path) → GoodType j (path_type j x)
      path-type x = path_good j ok.structs-named ok.fields-fit ok.variables-named ok.variables-fit x

      is-region : T (is_region j r)
      is-region = and_right (path_named j d) (is_region j r) (and_left (path_named j d && is_region j r) (path_named j q) n)

      ref_type : GoodType j (RefTy k (Free r) (path_type j q))
      ref_type = good_ref_type j k r (path_type j q) is-region (path-type q)
  good_at p (Assign d q) n s =
      good_relate j (suc p) (path_type j q) Co (path_type j d) (path_good j ok.structs-named ok.fields-fit ok.variables-named ok.variables-fit q) (path_good j ok.structs-named ok.fields-fit ok.variables-named ok.variables-fit d) s
  good_at p (Constraint sup sub) n s = and_intro (ltb sup j.regions && ltb sub j.regions) true n tt
  good_at p (Use q) n s = tt
  good_at p (Drop q) n s = tt
  good_at p (StorageDead v) n s = tt

  pub constraints_good : T (every (is_named j) (constraints_of j (graph_of j)))
  unfolding constraints_of
  constraints_good =
      every-gather (is_named j) (λ (p : Point). constraints_at j p (action_at (graph_of j) p)) (select (is_walked (graph_of j)) (below (graph_of j).code))
      (λ p w. good_at p (action_at (graph_of j) p) (ok.actions-named p) (ok.shapes p))
