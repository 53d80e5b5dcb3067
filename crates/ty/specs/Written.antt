-- What the writing of types says of the bytes.
use Rattle.std.specs.Prelude.{◌≡◌, List, ℕ, ◌≤◌, ◌<◌, drop, Option, Some, None}
use Rattle.nll_spec.specs.Syntax.{Ty, UnitTy, Args, Free}
use Rattle.nll_spec.specs.Decode.{max_nodes}
use Rattle.nll_spec.specs.Types.{head_region, head_type, bound_args, subst_region, subst, type_nodes, arg_nodes}
use Rattle.repr.specs.Reading.{rest, region_of}
use Rattle.repr.specs.declared.Region.{Region}
use Rattle.repr.specs.declared.Argument.{Argument}
use Rattle.repr.specs.declared.Argument.TheVariants as arguments
use Rattle.repr.specs.Stands.{TypeTo, ArgsTo, TypeAt}
use Rattle.ty.specs.declared.write.Arguments.{Arguments}

-- ---- The arguments

-- the arguments g stand there
pub record Given (a : Arguments) (g : Args) : Type 0 where
  pub over : List ℕ
  pub stand : ArgsTo (rest a.bytes.now a.row.from) a.row.count g over
  pub few : arg_nodes g ≤ max_nodes

-- The first of the arguments h is a region, a type, or missing.
pub record FoundRegion (h : Args) (r : Region) : Type 0 where
  pub region : head_region h ≡ region_of r
  pub type : head_type h ≡ UnitTy

pub record FoundType (bs : List ℕ) (h : Args) : Type 0 where
  pub over : List ℕ
  pub stands : TypeTo bs (head_type h) over
  pub region : head_region h ≡ Free 0

pub record FoundNone (h : Args) : Type 0 where
  pub region : head_region h ≡ Free 0
  pub type : head_type h ≡ UnitTy

abbrev pub FoundIs : List ℕ → Args → Option Argument → Type 0
FoundIs s h (Some (arguments.Region r c)) = FoundRegion h r
FoundIs s h (Some (arguments.Type c)) = FoundType (rest s c) h
FoundIs s h None = FoundNone h

pub record FoundSays (a : Arguments) (b : ℕ) (r : Option Argument) : Type 0 where
  pub says : (g : Args) → Given a g → FoundIs a.bytes.now (bound_args g b) r

pub record RegionSays (a : Arguments) (r x : Region) : Type 0 where
  pub says : (g : Args) → Given a g → region_of x ≡ subst_region g (region_of r)

-- ---- Whole types

-- The type u stands in the bytes `out` from the first on, up to `end`.
pub record Stood (out : List ℕ) (u : Ty) (end : ℕ) : Type 0 where
  pub few : type_nodes u ≤ max_nodes
  pub stands : TypeTo (drop 0 out) u (drop end out)

-- It does, or it has too many nodes.
abbrev pub StoodBy : List ℕ → Ty → Option ℕ → Type 0
StoodBy out u (Some end) = Stood out u end
StoodBy out u None = max_nodes < type_nodes u

pub record WholeSays (field : List ℕ) (x : ℕ) (a : Arguments) (out : List ℕ) (r : Option ℕ) : Type 0 where
  pub says : (t : Ty) (g : Args) → TypeAt field x t → Given a g → StoodBy out (subst t g) r

pub record CopiedSays (field : List ℕ) (x : ℕ) (out : List ℕ) (r : Option ℕ) : Type 0 where
  pub says : (t : Ty) → TypeAt field x t → StoodBy out t r
