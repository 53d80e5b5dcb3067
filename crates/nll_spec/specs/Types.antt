-- Types of paths: substitution, the type that a step reaches, and the prefixes of a path.
use Rattle.std.specs.Prelude.{Bool, true, false, ◌&&◌, not, cond, List, [], ◌∷◌, ◌++◌, ℕ, zero, suc, ◌+◌, ◌-◌, get_or, eqb}
use Rattle.std.proofs.Math.Option.{Option, none, some}
use Rattle.nll_spec.specs.Syntax.{RegionName, FieldName, BorrowKind, Mut, Shared, Region, Free, BoundRegion, star}
use Rattle.nll_spec.specs.Syntax.{Ty, UnitTy, RefTy, StructTy, BoundTy, Args, NoArgs, RegionArg, TypeArg, Field, StructDecl, Path, Job}

-- ---- Parts of types. Each function is total; what it gives where a part is absent is never asked of a job that is not refused.

abbrev pub same_kind : BorrowKind → BorrowKind → Bool
same_kind Mut Mut = true
same_kind Mut Shared = false
same_kind Shared Mut = false
same_kind Shared Shared = true

abbrev pub is_ref : Ty → Bool
is_ref UnitTy = false
is_ref (RefTy k r t) = true
is_ref (StructTy s given) = false
is_ref (BoundTy b) = false

abbrev pub is_shared : Ty → Bool
is_shared UnitTy = false
is_shared (RefTy k r t) = same_kind k Shared
is_shared (StructTy s given) = false
is_shared (BoundTy b) = false

-- what a Ref refers to
abbrev pub referent : Ty → Ty
referent UnitTy = UnitTy
referent (RefTy k r t) = t
referent (StructTy s given) = UnitTy
referent (BoundTy b) = UnitTy

-- the region of a Ref
abbrev pub ref_region : Ty → Region
ref_region UnitTy = Free 0
ref_region (RefTy k r t) = r
ref_region (StructTy s given) = Free 0
ref_region (BoundTy b) = Free 0

-- the arguments of a struct
abbrev pub struct_args : Ty → Args
struct_args UnitTy = NoArgs
struct_args (RefTy k r t) = NoArgs
struct_args (StructTy s given) = given
struct_args (BoundTy b) = NoArgs

abbrev pub head_region : Args → Region
head_region NoArgs = Free 0
head_region (RegionArg r rest) = r
head_region (TypeArg t rest) = Free 0

abbrev pub head_type : Args → Ty
head_type NoArgs = UnitTy
head_type (RegionArg r rest) = UnitTy
head_type (TypeArg t rest) = t

abbrev pub tail_args : Args → Args
tail_args NoArgs = NoArgs
tail_args (RegionArg r rest) = rest
tail_args (TypeArg t rest) = rest

-- the structs of a job, by name
abbrev pub struct_of : List StructDecl → ℕ → StructDecl
struct_of ss s = get_or ss s (record { params = []; fields = [] })

-- how many nodes a type has
unfoldable mutual
  pub type_nodes : Ty → ℕ
  type_nodes UnitTy = 1
  type_nodes (RefTy k r t) = suc (type_nodes t)
  type_nodes (StructTy s given) = suc (arg_nodes given)
  type_nodes (BoundTy b) = 1

  pub arg_nodes : Args → ℕ
  arg_nodes NoArgs = 0
  arg_nodes (RegionArg r rest) = arg_nodes rest
  arg_nodes (TypeArg t rest) = type_nodes t + arg_nodes rest

-- the name of a region, if it has one
abbrev pub region_name : Region → List RegionName
region_name (Free n) = n ∷ []
region_name (BoundRegion b) = []

-- the names of all regions in a type
unfoldable mutual
  pub regions_of : Ty → List RegionName
  regions_of UnitTy = []
  regions_of (RefTy k r t) = region_name r ++ regions_of t
  regions_of (StructTy s given) = arg_regions given
  regions_of (BoundTy b) = []

  pub arg_regions : Args → List RegionName
  arg_regions NoArgs = []
  arg_regions (RegionArg r rest) = region_name r ++ arg_regions rest
  arg_regions (TypeArg t rest) = regions_of t ++ arg_regions rest

-- ---- Substitution of a struct's arguments into the type of a field

unfoldable pub arg_count : Args → ℕ
arg_count NoArgs = 0
arg_count (RegionArg r rest) = suc (arg_count rest)
arg_count (TypeArg t rest) = suc (arg_count rest)

-- the arguments from number n on
unfoldable pub drop_args : ℕ → Args → Args
drop_args zero rest = rest
drop_args (suc n) rest = drop_args n (tail_args rest)

-- the arguments from the one on that bound index b means: number count − 1 − b
abbrev pub bound_args : Args → ℕ → Args
bound_args given b = drop_args (arg_count given - suc b) given

abbrev pub subst_region : Args → Region → Region
subst_region given (Free n) = Free n
subst_region given (BoundRegion b) = head_region (bound_args given b)

unfoldable mutual
  pub subst : Ty → Args → Ty
  subst UnitTy given = UnitTy
  subst (RefTy k r t) given = RefTy k (subst_region given r) (subst t given)
  subst (StructTy s rest) given = StructTy s (subst_args rest given)
  subst (BoundTy b) given = head_type (bound_args given b)

  pub subst_args : Args → Args → Args
  subst_args NoArgs given = NoArgs
  subst_args (RegionArg r rest) given = RegionArg (subst_region given r) (subst_args rest given)
  subst_args (TypeArg t rest) given = TypeArg (subst t given) (subst_args rest given)

-- ---- The types along a path

-- the type of the first field with this number
unfoldable pub field_type : List Field → FieldName → Option Ty
field_type [] f = none
field_type (d ∷ ds) f = elim (eqb d.number f) [ true ↦ some d.type | false ↦ field_type ds f ]

-- the type that a step reaches, if it may be taken: star from a Ref, a field from a struct
unfoldable pub step_type : List StructDecl → Ty → FieldName → Option Ty
step_type ss UnitTy f = none
step_type ss (RefTy k r t) f = cond (eqb f star) (some t) none
step_type ss (StructTy s given) f = elim (field_type (struct_of ss s).fields f) [ none ↦ none | some t ↦ some (subst t given) ]
step_type ss (BoundTy b) f = none

-- the same, for a step that may be taken
unfoldable pub step : List StructDecl → Ty → FieldName → Ty
step ss t f = elim (step_type ss t f) [ none ↦ UnitTy | some u ↦ u ]

-- the type that these steps reach
unfoldable pub type_after : List StructDecl → Ty → List FieldName → Ty
type_after ss t [] = t
type_after ss t (f ∷ fs) = type_after ss (step ss t f) fs

abbrev pub variable_type : Job → ℕ → Ty
variable_type j v = get_or j.variables v UnitTy

unfoldable pub path_type : Job → Path → Ty
path_type j p = type_after j.structs (variable_type j p.base) p.steps

-- ---- Prefixes

-- None of the steps leaves a type that stops.
unfoldable pub never_stops : List StructDecl → (Ty → Bool) → Ty → List FieldName → Bool
never_stops ss stop t [] = true
never_stops ss stop t (f ∷ fs) = let rest = never_stops ss stop (step ss t f) fs in not (stop t) && rest

-- The first steps begin the second, and none of the others that the second has leaves a type that stops.
unfoldable pub begins : List StructDecl → (Ty → Bool) → Ty → List FieldName → List FieldName → Bool
begins ss stop t [] gs = never_stops ss stop t gs
begins ss stop t (f ∷ fs) [] = false
begins ss stop t (f ∷ fs) (g ∷ gs) = let rest = begins ss stop (step ss t f) fs gs in eqb f g && rest

-- q is a prefix of p, and no step that p has beyond it leaves a type that stops
abbrev pub prefix_by : (Ty → Bool) → Job → Path → Path → Bool
prefix_by stop j q p = let rest = begins j.structs stop (variable_type j q.base) q.steps p.steps in eqb q.base p.base && rest

-- q is a prefix of p, p itself included
unfoldable pub is_prefix : Job → Path → Path → Bool
is_prefix = prefix_by (λ t. false)

-- q is a supporting prefix of p: they stop after a Shared deref
unfoldable pub is_supporting : Job → Path → Path → Bool
is_supporting = prefix_by is_shared

-- q is a frozen prefix of p: they stop after any deref
unfoldable pub is_frozen : Job → Path → Path → Bool
is_frozen = prefix_by is_ref
