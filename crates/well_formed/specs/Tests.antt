-- What the tests of refusals 8 and 9 say.
use Rattle.std.specs.Prelude.{◌≡◌, Bool, true, ◌&&◌, cond, List, ℕ, ◌≤◌, Option, Result, Ok, Err}
use Rattle.nll_spec.specs.Lists.{every}
use Rattle.nll_spec.specs.Syntax as syntax
use Rattle.nll_spec.specs.Syntax.{Free, Region, Ty, RefTy, Job}
use Rattle.nll_spec.specs.Decode.{max_nodes}
use Rattle.nll_spec.specs.Types.{type_nodes, path_type}
use Rattle.nll_spec.specs.WellFormed.{path_named, path_fits, paths_of, same_shape}
use Rattle.repr.specs.Reading.{borrow_kind_of, path_of}
use Rattle.repr.specs.declared.Path.{Path}
use Rattle.repr.specs.declared.Action.{Action}
use Rattle.repr.specs.declared.Action.TheVariants.{Noop, Init, Borrow, Assign, Constraint, Use, Drop, StorageDead}
use Rattle.record.specs.Layout.{Holds}
use Rattle.record.specs.declared.Record.{Record}
use Rattle.repr.specs.Refusals.{number_of}
use Rattle.repr.specs.declared.refusal.Refusal.{Refusal}
use Rattle.repr.specs.Stands.{TypeAt}
use Rattle.env.specs.Paths.{PathType, PathSays}
use Rattle.well_formed.specs.declared.shapes.Wanted.{Wanted}
use Rattle.well_formed.specs.declared.shapes.Wanted.TheVariants.{Same, RefTo}

-- 8 if the paths may not be taken, 9 if they may and the shapes do not fit
abbrev pub refusal_of : Bool → Bool → ℕ
refusal_of taken fits = cond taken (cond fits 0 9) 8

-- the number of a refusal, or 0 where there is none
abbrev pub number_in : Result (Unit {0}) Refusal → ℕ
number_in (Ok u) = 0
number_in (Err k) = number_of k

-- ---- 8

-- a path begins at a variable, and its steps may be taken
abbrev pub path_taken : Job → syntax.Path → Bool
path_taken j p = path_named j p && path_fits j p

-- The type of a path, whatever its steps leave.
pub record TypeSays (input : Record) (p : Path) (out : List ℕ) (r : Option PathType) : Type 0 where
  pub kinds : List ℕ
  pub names : List ℕ
  pub says : PathSays input p out kinds names r

-- all paths of an action
abbrev pub action_taken : Job → syntax.Action → Bool
action_taken j a = every (path_taken j) (paths_of a)

-- the paths of an action, but for the sources of an Init
abbrev pub own_taken : Job → List ℕ → Action → Bool
own_taken j s Noop = true
own_taken j s (Init dest n) = path_taken j (path_of s dest)
own_taken j s (Borrow dest r k source) = path_taken j (path_of s dest) && path_taken j (path_of s source)
own_taken j s (Assign dest source) = path_taken j (path_of s dest) && path_taken j (path_of s source)
own_taken j s (Constraint sup sub) = true
own_taken j s (Use p) = path_taken j (path_of s p)
own_taken j s (Drop p) = path_taken j (path_of s p)
own_taken j s (StorageDead v) = true

-- ---- 9

-- the first type has the shape of the second, or of a Ref to it
abbrev pub fitting : Wanted → Region → Ty → Ty → Bool
fitting Same o t u = same_shape t u
fitting (RefTo kind) o t u = same_shape t (RefTy (borrow_kind_of kind) o u)

-- The answer is 0 if the types that stand there fit, or 9.
pub record TypesFit (wanted : Wanted) (a : List ℕ) (x : ℕ) (b : List ℕ) (y r : ℕ) : Type 0 where
  pub says : (t u : Ty) (o : Region) → TypeAt a x t → TypeAt b y u → type_nodes t ≤ max_nodes → type_nodes u ≤ max_nodes → r ≡ cond (fitting wanted o t u) 0 9

-- The answer is the refusal of the type that stands there and of the path q.
pub record SecondSays (wanted : Wanted) (input : Record) (a : List ℕ) (x : ℕ) (q : Path) (r : ℕ) : Type 0 where
  pub says : (j : Job) → Holds input j → (u : Ty) (o : Region) → TypeAt a x u → type_nodes u ≤ max_nodes → r ≡ refusal_of (path_taken j (path_of input.bytes.now q)) (fitting wanted o u (path_type j (path_of input.bytes.now q)))

-- The answer is the refusal of the paths p and q.
pub record PairSays (wanted : Wanted) (input : Record) (p q : Path) (r : ℕ) : Type 0 where
  pub says : (j : Job) → Holds input j → (o : Region) → r ≡ refusal_of (path_taken j (path_of input.bytes.now p) && path_taken j (path_of input.bytes.now q)) (fitting wanted o (path_type j (path_of input.bytes.now p)) (path_type j (path_of input.bytes.now q)))

-- what is assigned or borrowed has the shape of where it goes
abbrev pub own_shape : Job → List ℕ → Action → Bool
own_shape j s Noop = true
own_shape j s (Init dest n) = true
own_shape j s (Borrow dest r k source) = same_shape (path_type j (path_of s dest)) (RefTy (borrow_kind_of k) (Free r.0) (path_type j (path_of s source)))
own_shape j s (Assign dest source) = same_shape (path_type j (path_of s source)) (path_type j (path_of s dest))
own_shape j s (Constraint sup sub) = true
own_shape j s (Use p) = true
own_shape j s (Drop p) = true
own_shape j s (StorageDead v) = true
