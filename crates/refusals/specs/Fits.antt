-- What the tests of refusal 7 say.
use Rattle.std.specs.Prelude.{Bool, List, ℕ, Result}
use Rattle.nll_spec.specs.Lists.{every}
use Rattle.nll_spec.specs.Syntax.{Kind, RegionKind, TypeKind, Param, Field, StructDecl, Job}
use Rattle.nll_spec.specs.Decode.{items, param}
use Rattle.nll_spec.specs.WellFormed.{is_region_kind, is_type_kind, type_fits, args_fit}
use Rattle.repr.specs.Reading.{rest}
use Rattle.repr.specs.declared.Cursor.{Cursor}
use Rattle.repr.specs.declared.Rest.{Rest}
use Rattle.repr.specs.declared.refusal.Refusal.{Refusal}
use Rattle.repr.specs.Stands.{Stands}
use Rattle.record.specs.Layout.{Holds}
use Rattle.refusals.specs.Tests.{FewerNodes, TypeWalk, ArgsWalk}
use Rattle.refusals.specs.declared.fits.Around.{Around}

-- a kind is the wanted one
abbrev pub kind_test : Kind → Kind → Bool
kind_test RegionKind = is_region_kind
kind_test TypeKind = is_type_kind

-- The parameters around are ps.
pub record ParamsAt (around : Around) (ps : List Param) : Type 0 where
  pub stand : Stands (items around.params.count param) ps (rest around.input.now.bytes.now around.params.from)

-- The job of the record, and the parameters around.
pub record Within (around : Around) (j : Job) (ps : List Param) : Type 0 where
  pub layout : Holds around.input.now j
  pub params : ParamsAt around ps

-- ---- A type in a struct with these parameters around

pub record TypeFit (around : Around) (at left : ℕ) (r : Result Rest Refusal) : Type 0 where
  pub walks : (j : Job) (ps : List Param) → Within around j ps → TypeWalk (type_fits j.structs ps) around.input.now.bytes.now at left r
  pub fewer : FewerNodes left r

-- n arguments for as many parameters, which are declared at a place
pub record ArgumentsFit (around : Around) (declared : Cursor) (at n left : ℕ) (r : Result Rest Refusal) : Type 0 where
  pub walks : (j : Job) (ps ds : List Param) → Within around j ps → Stands (items n param) ds (rest around.input.now.bytes.now declared) → ArgsWalk (λ g. args_fit j.structs ps g ds) around.input.now.bytes.now at n left r
  pub fewer : FewerNodes left r

-- ---- Parts

abbrev pub field_fits : Job → List Param → Field → Bool
field_fits j ps f = type_fits j.structs ps f.type

abbrev pub struct_fits : Job → StructDecl → Bool
struct_fits j d = every (field_fits j d.params) d.fields
