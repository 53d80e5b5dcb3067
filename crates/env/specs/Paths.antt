-- What is said of the types along a path.
use Rattle.std.specs.Prelude as std
use Rattle.std.specs.Prelude.{Some, None, ◌≡◌, Bool, true, false, List, ◌++◌, ℕ, ◌+◌, ◌≤◌, ◌<◌, length, take, drop, set, leb}
use Rattle.std.proofs.Math.Option.{Option, none, some}
use Rattle.nll_spec.specs.Syntax.{Region, Free, Ty, StructTy, Args, StructDecl, Path, Job}
use Rattle.nll_spec.specs.Decode.{max_nodes}
use Rattle.nll_spec.specs.Types.{is_ref, ref_region, type_nodes, step_type, type_after, variable_type, path_type}
use Rattle.nll_spec.specs.WellFormed.{steps_fit, path_fits}
use Rattle.repr.specs.Reading.{path_of}
use Rattle.repr.specs.declared.Path as repr
use Rattle.record.specs.Layout.{Holds}
use Rattle.record.specs.declared.Record.{Record}
use Rattle.repr.specs.Stands.{TypeAt}
use Rattle.ty.specs.Written.{Given}
use Rattle.ty.specs.declared.write.Arguments.{Arguments}
use Rattle.env.specs.Fields.{TypeThere}
use Rattle.env.specs.Prefixes.{kind_code, Leaves}
use Rattle.repr.specs.declared.Cursor.{Cursor}
use Rattle.env.specs.declared.paths.Ahead.{Ahead}
use Rattle.env.specs.declared.paths.Found.{Found}
use Rattle.env.specs.declared.paths.Found.TheVariants as found

-- the type of a path, in the record or from a place of the lent bytes on
abbrev pub PathType : Type 0
PathType = Found Cursor

-- ---- The whole path

-- The path may be taken; its type stands there, and each step's entries say what it leaves.
pub record PathIs (j : Job) (p : Path) (bytes : List ℕ) (at : ℕ) (kinds names : List ℕ) : Type 0 where
  pub fits : path_fits j p ≡ true
  pub stands : TypeAt bytes at (path_type j p)
  pub few : type_nodes (path_type j p) ≤ max_nodes
  pub leaves : Leaves j.structs (variable_type j p.base) p.steps kinds names

-- Its type stands in the record s or in the lent bytes, or it may not be taken.
abbrev pub PathResult : Job → Path → List ℕ → List ℕ → List ℕ → List ℕ → std.Option PathType → Type 0
PathResult j p s out kinds names (Some (found.Inside c)) = PathIs j p s c.at kinds names
PathResult j p s out kinds names (Some (found.Written c)) = PathIs j p out c.at kinds names
PathResult j p s out kinds names None = path_fits j p ≡ false

-- What `path_type` says of a path whose base the job has.
pub record PathSays (input : Record) (p : repr.Path) (out kinds names : List ℕ) (r : std.Option PathType) : Type 0 where
  pub says : (j : Job) → Holds input j → p.base.0 < length j.variables → PathResult j (path_of input.bytes.now p) input.bytes.now out kinds names r
  pub sizes : (length kinds ≡ 8) × (length names ≡ 8)

-- ---- A step

-- n is the region's name, if the region has one.
pub record Named (region : Region) (n : ℕ) : Type 0 where
  pub same : (r : ℕ) → region ≡ Free r → n ≡ r

-- Entry i says what the type u is.
pub record Noted (u : Ty) (i : ℕ) (kinds names kinds' names' : List ℕ) : Type 0 where
  pub kind : kinds' ≡ set kinds i (kind_code u)
  pub name : ℕ
  pub named : names' ≡ set names i name
  pub same : is_ref u ≡ true → Named (ref_region u) name

-- a type that a step may reach
abbrev pub small : Option Ty → Bool
small none = false
small (some u) = leb (type_nodes u) max_nodes

-- The step reaches a type of `from` or of `to`, or none that it may reach.
abbrev pub Moves : List ℕ → List ℕ → Option Ty → std.Option (Found (Unit {0})) → Type 0
Moves from to o (Some (found.Inside c)) = TypeThere from c.at o
Moves from to o (Some (found.Written u)) = TypeThere to 0 o
Moves from to o None = small o ≡ false

-- The same for a field of a struct with the arguments that stand there.
pub record FieldStepSays (input : Record) (name f : ℕ) (a : Arguments) (to : List ℕ) (r : std.Option (Found (Unit {0}))) : Type 0 where
  pub says : (j : Job) → Holds input j → (g : Args) → Given a g → Moves a.bytes.now to (step_type j.structs (StructTy name g) f) r

-- The same, and what it leaves is noted.
abbrev pub StepIs : List ℕ → List ℕ → Option Ty → Type 0 → std.Option (Found (Unit {0})) → Type 0
StepIs from to o noted (Some (found.Inside c)) = TypeThere from c.at o × noted
StepIs from to o noted (Some (found.Written u)) = TypeThere to 0 o × noted
StepIs from to o noted None = small o ≡ false

pub record StepSays (input : Record) (from : List ℕ) (at f i : ℕ) (to kinds names kinds' names' : List ℕ) (r : std.Option (Found (Unit {0}))) : Type 0 where
  pub says : (j : Job) → Holds input j → (u : Ty) → TypeAt from at u → type_nodes u ≤ max_nodes → StepIs from to (step_type j.structs u f) (Noted u i kinds names kinds' names') r
  pub kind_size : length kinds' ≡ length kinds
  pub name_size : length names' ≡ length names

-- ---- A copy

-- the type u stands in the lent bytes
abbrev pub CopyIs : List ℕ → Ty → std.Option PathType → Type 0
CopyIs out u (Some (found.Inside c)) = ⊥
CopyIs out u (Some (found.Written c)) = TypeAt out c.at u
CopyIs out u None = ⊥

pub record CopiedSays (s : List ℕ) (at : ℕ) (out : List ℕ) (r : std.Option PathType) : Type 0 where
  pub says : (u : Ty) → TypeAt s at u → type_nodes u ≤ max_nodes → CopyIs out u r

-- ---- The steps that are left

-- Of all the steps from t, the first i are taken, and `ahead` are left. The type that is reached stands in the bytes.
pub record Stage (ss : List StructDecl) (t : Ty) (all bytes : List ℕ) (at : ℕ) (kinds names : List ℕ) (i : ℕ) (ahead : List ℕ) : Type 0 where
  pub taken : List ℕ
  pub split : all ≡ taken ++ ahead
  pub count : length taken ≡ i
  pub fits : steps_fit ss t all ≡ steps_fit ss (type_after ss t taken) ahead
  pub leaves : Leaves ss t taken kinds names
  pub stands : TypeAt bytes at (type_after ss t taken)
  pub few : type_nodes (type_after ss t taken) ≤ max_nodes

-- All of them are taken.
pub record Reached (ss : List StructDecl) (t : Ty) (all bytes : List ℕ) (at : ℕ) (kinds names : List ℕ) : Type 0 where
  pub fits : steps_fit ss t all ≡ true
  pub stands : TypeAt bytes at (type_after ss t all)
  pub few : type_nodes (type_after ss t all) ≤ max_nodes
  pub leaves : Leaves ss t all kinds names

-- The steps end in the bytes `from`, or one is written into `to` with steps that are left, or they may not be taken.
abbrev pub AlongIs : List StructDecl → Ty → List ℕ → List ℕ → List ℕ → List ℕ → List ℕ → std.Option (Found Ahead) → Type 0
AlongIs ss t all from to kinds names (Some (found.Inside c)) = Reached ss t all from c.at kinds names
AlongIs ss t all from to kinds names (Some (found.Written a)) = Stage ss t all to 0 kinds names a.i a.steps.now
AlongIs ss t all from to kinds names None = steps_fit ss t all ≡ false

-- Where a type is written, fewer steps are left, and their numbers end no later.
abbrev pub Taken : ℕ → ℕ → std.Option (Found Ahead) → Type 0
Taken i left (Some (found.Inside c)) = Unit {0}
Taken i left (Some (found.Written a)) = (length a.steps.now < left) × (a.i + length a.steps.now ≤ i + left)
Taken i left None = Unit {0}

-- What steps from the type that stands there reach.
pub record AlongSays (input : Record) (from : List ℕ) (c : ℕ) (kinds names : List ℕ) (i : ℕ) (steps to kinds' names' : List ℕ) (r : std.Option (Found Ahead)) : Type 0 where
  pub says : (j : Job) → Holds input j → (u : Ty) (all : List ℕ) → Stage j.structs u all from c kinds names i steps → AlongIs j.structs u all from to kinds' names' r
  pub sizes : (length kinds' ≡ 8) × (length names' ≡ 8)
  pub taken : Taken i (length steps) r

abbrev pub OnwardIs : List StructDecl → Ty → List ℕ → List ℕ → List ℕ → List ℕ → List ℕ → std.Option PathType → Type 0
OnwardIs ss t all s out kinds names (Some (found.Inside c)) = Reached ss t all s c.at kinds names
OnwardIs ss t all s out kinds names (Some (found.Written c)) = Reached ss t all out c.at kinds names
OnwardIs ss t all s out kinds names None = steps_fit ss t all ≡ false

-- The same, to the last step.
pub record OnwardSays (input : Record) (bytes : List ℕ) (at : ℕ) (kinds names : List ℕ) (i : ℕ) (steps out kinds' names' : List ℕ) (r : std.Option PathType) : Type 0 where
  pub says : (j : Job) → Holds input j → (u : Ty) (all : List ℕ) → Stage j.structs u all bytes at kinds names i steps → OnwardIs j.structs u all input.bytes.now out kinds' names' r
  pub sizes : (length kinds' ≡ 8) × (length names' ≡ 8)
