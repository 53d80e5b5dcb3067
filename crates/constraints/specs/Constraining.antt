-- What adding the constraints of an action to a list does.
use Rattle.std.specs.Prelude.{Option, Some, None, ◌≡◌, true, ◌&&◌, not, cond, List, [], ◌++◌, ℕ, ◌+◌, ◌≤◌, ◌<◌, length, get_or, T, eqb, leb}
use Rattle.nll_spec.specs.Lists.{gather, below}
use Rattle.nll_spec.specs.Syntax as syntax
use Rattle.nll_spec.specs.Syntax.{Job, Point, RegionName, BorrowKind, Variance, Co, Contra, Free, Ty, RefTy}
use Rattle.nll_spec.specs.Decode.{max_nodes}
use Rattle.nll_spec.specs.Types.{variable_type, path_type, type_nodes}
use Rattle.nll_spec.specs.WellFormed.{path_fits, same_shape, refusal}
use Rattle.nll_spec.specs.Graph.{graph_of, action_at}
use Rattle.nll_spec.specs.Constraints.{Outlives, require_outlives, relate, relate_source, constraints_at}
use Rattle.repr.specs.Reading.{path_of}
use Rattle.repr.specs.declared.Path.{Path}
use Rattle.repr.specs.declared.RegionName as repr
use Rattle.record.specs.Layout.{Holds}
use Rattle.record.specs.declared.Record.{Record}
use Rattle.repr.specs.Stands.{TypeAt}
use Rattle.env.specs.Paths.{PathType, PathIs, PathResult}
use Rattle.env.specs.Prefixes.{ShortestIn}
use Rattle.env.specs.declared.Shortest.{Shortest}
use Rattle.constraint_list.specs.Listed.{Adds}
use Rattle.constraints.specs.declared.Source.{Source}
use Rattle.constraints.specs.declared.Place.{Place}
use Rattle.constraints.specs.declared.Pair.{Pair}
use Rattle.constraints.specs.declared.Related.{Related}
use Rattle.constraints.specs.declared.Related.TheVariants.{Assigned, Borrowed}

-- Step i of a borrow's source, of this kind and name, leaves a Ref, and the prefix that it ends has at least as many steps as the shortest supporting one:
-- that Ref's region outlives the borrow's.
abbrev pub constraints_of : Point → ℕ → ℕ → ℕ → RegionName → ℕ → List Outlives
constraints_of at kind name shortest r i = cond (not (eqb kind 0) && leb shortest (i + 1)) (require_outlives at (Free name) (Free r)) []

-- the same by the kinds and the names of all steps
abbrev pub step_constraints : Point → List ℕ → List ℕ → ℕ → RegionName → ℕ → List Outlives
step_constraints at kinds names shortest r i = constraints_of at (get_or kinds i 0) (get_or names i 0) shortest r i

-- the same for the first n steps
abbrev pub source_constraints : Point → List ℕ → List ℕ → ℕ → RegionName → ℕ → List Outlives
source_constraints at kinds names shortest r n = gather (step_constraints at kinds names shortest r) (below n)

-- A path of the job, which may be taken.
pub record Takes (s : List ℕ) (j : Job) (p : Path) : Type 0 where
  pub named : p.base.0 < length j.variables
  pub fits : path_fits j (path_of s p) ≡ true
  pub short : length (path_of s p).steps ≤ 8

-- The source p of a borrow of this region, by the kinds that its steps leave.
pub record BorrowSource (s : List ℕ) (p : Path) (region : repr.RegionName) (kinds : List ℕ) (r : Source) : Type 0 where
  pub same : r.region ≡ region
  pub steps : r.steps ≡ length (path_of s p).steps
  pub of : Shortest
  pub shortest : ShortestIn kinds r.steps of
  pub supporting : r.supporting ≡ of.supporting

-- An assignment has none.
abbrev pub SourceIs : List ℕ → Path → Related → List ℕ → Option Source → Type 0
SourceIs s p Assigned kinds r = r ≡ None
SourceIs s p (Borrowed region) kinds (Some r) = BorrowSource s p region kinds r
SourceIs s p (Borrowed region) kinds None = ⊥

-- What `Pair::source` says.
pub record SourceSays (pair : Pair) (kinds : List ℕ) (r : Option Source) : Type 0 where
  pub says : SourceIs pair.input.now.bytes.now pair.q pair.how kinds r

-- The type that a path was found to have stands there.
pub record PlaceSays (s out : List ℕ) (found : PathType) (r : Place) : Type 0 where
  pub says : (j : Job) (p : syntax.Path) (kinds names : List ℕ) → PathResult j p s out kinds names (Some found) → PathIs j p r.bytes.now r.at.at kinds names

-- ---- Two types that are related

-- the variance under which they are
abbrev pub under : Related → Variance
under Assigned = Co
under (Borrowed r) = Contra

-- what the first is related to: the second, or a Ref of some kind to it
abbrev pub against : Related → BorrowKind → Ty → Ty
against Assigned k u = u
against (Borrowed r) k u = RefTy k (Free r.0) u

-- what the steps of a borrow's source make
abbrev pub along_source : Related → Point → Job → syntax.Path → List Outlives
along_source Assigned at j q = []
along_source (Borrowed r) at j q = relate_source at j.structs (Free r.0) (variable_type j q.base) q.steps

module _ (pair : Pair) where
  abbrev s : List ℕ
  s = pair.input.now.bytes.now

  -- the paths
  abbrev pub first : syntax.Path
  first = path_of s pair.p

  abbrev pub second : syntax.Path
  second = path_of s pair.q

  -- their types, or what the second's is related as
  abbrev pub first_type : Job → Ty
  first_type j = path_type j first

  abbrev pub second_type : Job → BorrowKind → Ty
  second_type j k = against pair.how k (path_type j second)

  -- The constraints of the two types that stand there are added, if the types have one shape.
  pub record TypesAdd (x y : Place) (ls ls' : List ℕ) : Type 0 where
    pub adds : (j : Job) → Holds pair.input.now j → (m n : Ty) (k : BorrowKind) → TypeAt x.bytes.now x.at.at m → TypeAt y.bytes.now y.at.at n → type_nodes m ≤ max_nodes → type_nodes n ≤ max_nodes → T (same_shape m (against pair.how k n))
        → Adds (relate pair.at j.structs m (under pair.how) (against pair.how k n)) ls ls'

  -- The same for the types of the paths.
  pub record PathsAdd (ls ls' : List ℕ) : Type 0 where
    pub adds : (j : Job) → Holds pair.input.now j → Takes s j pair.p → Takes s j pair.q → (k : BorrowKind) → T (same_shape (first_type j) (second_type j k))
        → Adds (relate pair.at j.structs (first_type j) (under pair.how) (second_type j k)) ls ls'

  -- ---- The constraints of an action

  -- The constraints of an assignment or a borrow are added, at the point.
  pub record PairAdds (ls ls' : List ℕ) : Type 0 where
    pub adds : (j : Job) → Holds pair.input.now j → refusal j ≡ 0 → Takes s j pair.p → Takes s j pair.q → (k : BorrowKind) → T (same_shape (first_type j) (second_type j k))
        → Adds (relate pair.at j.structs (first_type j) (under pair.how) (second_type j k) ++ along_source pair.how pair.at j second) ls ls'

-- The constraints of the action at the point, which is one of the blocks.
pub record Constrains (input : Record) (at : Point) (ls ls' : List ℕ) : Type 0 where
  pub adds : (j : Job) → Holds input j → refusal j ≡ 0 → at < (graph_of j).code
      → Adds (constraints_at j at (action_at (graph_of j) at)) ls ls'
