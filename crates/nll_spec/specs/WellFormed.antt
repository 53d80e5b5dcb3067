-- Refusals 6 to 9 of a job that was read, over all of its blocks.
use Rattle.std.specs.Prelude.{Bool, true, false, ◌&&◌, cond, List, [], ◌∷◌, ℕ, suc, ◌-◌, length, get_or, leb, ltb, eqb}
use Rattle.std.proofs.Math.Option.{none, some}
use Rattle.nll_spec.specs.Lists.{every, gather}
use Rattle.nll_spec.specs.Syntax.{BorrowKind, Kind, RegionKind, TypeKind, Region, Free, BoundRegion, Variable, RegionName, FieldName, Co}
use Rattle.nll_spec.specs.Syntax.{Ty, UnitTy, RefTy, StructTy, BoundTy, Args, NoArgs, RegionArg, TypeArg, Param, Field, StructDecl, Path}
use Rattle.nll_spec.specs.Syntax.{Action, Noop, Init, Borrow, Assign, Constraint, Use, Drop, StorageDead, Job}
use Rattle.nll_spec.specs.Decode.{max_nodes}
use Rattle.nll_spec.specs.Types.{struct_of, variable_type, path_type, step_type, type_nodes, referent, same_kind, struct_args, head_type, tail_args}

-- the actions of all blocks
abbrev pub actions_of : Job → List Action
actions_of j = gather (λ b. b.actions) j.blocks

-- ---- 6: numbers name something

module _ (j : Job) where
  abbrev pub is_region : RegionName → Bool
  is_region r = ltb r j.regions

  abbrev pub is_variable : Variable → Bool
  is_variable v = ltb v (length j.variables)

  abbrev pub region_named : Region → Bool
  region_named (Free r) = is_region r
  region_named (BoundRegion b) = true

  unfoldable mutual
    pub type_named : Ty → Bool
    type_named UnitTy = true
    type_named (RefTy k r t) = region_named r && type_named t
    type_named (StructTy s given) = ltb s (length j.structs) && args_named given
    type_named (BoundTy b) = true

    pub args_named : Args → Bool
    args_named NoArgs = true
    args_named (RegionArg r rest) = region_named r && args_named rest
    args_named (TypeArg t rest) = type_named t && args_named rest

  abbrev pub path_named : Path → Bool
  path_named p = is_variable p.base

  unfoldable pub action_named : Action → Bool
  action_named Noop = true
  action_named (Init p qs) = path_named p && every path_named qs
  action_named (Borrow p r k q) = path_named p && is_region r && path_named q
  action_named (Assign p q) = path_named p && path_named q
  action_named (Constraint sup sub) = is_region sup && is_region sub
  action_named (Use p) = path_named p
  action_named (Drop p) = path_named p
  action_named (StorageDead v) = is_variable v

  abbrev pub field_named : Field → Bool
  field_named f = ltb 0 f.number && type_named f.type

  unfoldable pub structs_named : Bool
  structs_named = every (λ s. every field_named s.fields) j.structs

  -- an outlived region is declared
  unfoldable pub outlived_named : Bool
  outlived_named = every (every (λ r. ltb r (length j.outlives))) j.outlives

  unfoldable pub variables_named : Bool
  variables_named = every type_named j.variables

  unfoldable pub successors_named : Bool
  successors_named = every (λ d. every (λ b. ltb b (length j.blocks)) d.successors) j.blocks

  unfoldable pub actions_named : Bool
  actions_named = every action_named (actions_of j)

  -- refusal 6 does not apply
  unfoldable pub named : Bool
  named =
      leb (length j.outlives) j.regions && structs_named && outlived_named && variables_named && successors_named && ltb j.start (length j.blocks) && actions_named

-- ---- 7: struct arguments and bounds fit the parameters

abbrev pub is_region_kind : Kind → Bool
is_region_kind RegionKind = true
is_region_kind TypeKind = false

abbrev pub is_type_kind : Kind → Bool
is_type_kind RegionKind = false
is_type_kind TypeKind = true

-- A bound index fits the parameters around it: there is such a parameter, and its kind passes the test.
abbrev pub bound_fits : (Kind → Bool) → List Param → ℕ → Bool
bound_fits fits params b =
    ltb b (length params) && fits (get_or params (length params - suc b) (record { variance = Co; may_dangle = false; kind = RegionKind })).kind

abbrev pub region_fits : List Param → Region → Bool
region_fits params (Free r) = true
region_fits params (BoundRegion b) = bound_fits is_region_kind params b

-- A type fits: `params` are those of the struct that the type stands in, and none for a variable's.
module _ (ss : List StructDecl) (params : List Param) where
  unfoldable mutual
    pub type_fits : Ty → Bool
    type_fits UnitTy = true
    type_fits (RefTy k r t) = region_fits params r && type_fits t
    type_fits (StructTy s given) = args_fit given (struct_of ss s).params
    type_fits (BoundTy b) = bound_fits is_type_kind params b

    pub args_fit : Args → List Param → Bool
    args_fit NoArgs [] = true
    args_fit NoArgs (d ∷ ds) = false
    args_fit (RegionArg r rest) [] = false
    args_fit (RegionArg r rest) (d ∷ ds) = is_region_kind d.kind && region_fits params r && args_fit rest ds
    args_fit (TypeArg t rest) [] = false
    args_fit (TypeArg t rest) (d ∷ ds) = is_type_kind d.kind && type_fits t && args_fit rest ds

unfoldable pub fields_fit : Job → Bool
fields_fit j = every (λ s. every (λ f. type_fits j.structs s.params f.type) s.fields) j.structs

unfoldable pub variables_fit : Job → Bool
variables_fit j = every (type_fits j.structs []) j.variables

unfoldable pub types_fit : Job → Bool
types_fit j = fields_fit j && variables_fit j

-- ---- 8: paths step through types of at most 32 nodes

-- each step may be taken, and reaches a type of at most 32 nodes
unfoldable pub steps_fit : List StructDecl → Ty → List FieldName → Bool
steps_fit ss t [] = true
steps_fit ss t (f ∷ fs) = elim (step_type ss t f) [ none ↦ false | some u ↦ leb (type_nodes u) max_nodes && steps_fit ss u fs ]

unfoldable pub path_fits : Job → Path → Bool
path_fits j p = steps_fit j.structs (variable_type j p.base) p.steps

-- the paths of an action, in record order
unfoldable pub paths_of : Action → List Path
paths_of Noop = []
paths_of (Init p qs) = p ∷ qs
paths_of (Borrow p r k q) = p ∷ q ∷ []
paths_of (Assign p q) = p ∷ q ∷ []
paths_of (Constraint sup sub) = []
paths_of (Use p) = p ∷ []
paths_of (Drop p) = p ∷ []
paths_of (StorageDead v) = []

unfoldable pub paths_fit : Job → Bool
paths_fit j = every (λ a. every (path_fits j) (paths_of a)) (actions_of j)

-- ---- 9: what is assigned has the shape of where it goes

abbrev pub is_unit : Ty → Bool
is_unit UnitTy = true
is_unit (RefTy k r t) = false
is_unit (StructTy s given) = false
is_unit (BoundTy b) = false

abbrev pub is_ref_of : BorrowKind → Ty → Bool
is_ref_of k UnitTy = false
is_ref_of k (RefTy k' r t) = same_kind k k'
is_ref_of k (StructTy s given) = false
is_ref_of k (BoundTy b) = false

abbrev pub is_struct : ℕ → Ty → Bool
is_struct s UnitTy = false
is_struct s (RefTy k r t) = false
is_struct s (StructTy s' given) = eqb s s'
is_struct s (BoundTy b) = false

-- Two types are alike at every node: Unit, a Ref of the same kind, or the same struct. Regions do not count.
unfoldable mutual
  pub same_shape : Ty → Ty → Bool
  same_shape UnitTy u = is_unit u
  same_shape (RefTy k r t) u = is_ref_of k u && same_shape t (referent u)
  same_shape (StructTy s given) u = is_struct s u && same_shapes given (struct_args u)
  same_shape (BoundTy b) u = false

  pub same_shapes : Args → Args → Bool
  same_shapes NoArgs us = true
  same_shapes (RegionArg r rest) us = same_shapes rest (tail_args us)
  same_shapes (TypeArg t rest) us = same_shape t (head_type us) && same_shapes rest (tail_args us)

unfoldable pub shape_fits : Job → Action → Bool
shape_fits j Noop = true
shape_fits j (Init p qs) = true
shape_fits j (Borrow p r k q) = same_shape (path_type j p) (RefTy k (Free r) (path_type j q))
shape_fits j (Assign p q) = same_shape (path_type j q) (path_type j p)
shape_fits j (Constraint sup sub) = true
shape_fits j (Use p) = true
shape_fits j (Drop p) = true
shape_fits j (StorageDead v) = true

unfoldable pub shapes_fit : Job → Bool
shapes_fit j = every (shape_fits j) (actions_of j)

-- ---- The first of them that applies, or 0

unfoldable pub refusal : Job → ℕ
refusal j = cond (named j) (cond (types_fit j) (cond (paths_fit j) (cond (shapes_fit j) 0 9) 8) 7) 6
