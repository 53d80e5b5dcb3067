-- What two types that stand side by side begin with.
use Rattle.std.specs.Prelude.{◌≡◌, false, cond, ℕ, ◌-◌, ◌≤◌, drop, eqb, Option, Some, None, Result, Ok, Err}
use mathlib.Core.List.{List, tail}
use Rattle.nll_spec.specs.Syntax as syntax
use Rattle.nll_spec.specs.Syntax.{Ty, UnitTy, Args, RegionArg, TypeArg, Param}
use Rattle.nll_spec.specs.Decode.{max_nodes, items, param}
use Rattle.nll_spec.specs.Types.{same_kind, head_region, head_type, tail_args, arg_nodes}
use Rattle.nll_spec.specs.Constraints.{head_variance}
use Rattle.nll_spec.specs.WellFormed.{is_unit, same_shapes}
use Rattle.repr.specs.Reading.{rest, borrow_kind_of, variance_of, region_of}
use Rattle.repr.specs.declared.Cursor.{Cursor}
use Rattle.repr.specs.declared.Region.{Region}
use Rattle.repr.specs.Stands.{Stands, TypeTo, ArgsTo, FirstType}
use Rattle.repr.specs.declared.Row.{Row}
use Rattle.beside.specs.declared.Heads.{Heads}
use Rattle.beside.specs.declared.Heads.TheVariants as heads
use Rattle.beside.specs.declared.First.{First}
use Rattle.beside.specs.declared.First.TheVariants as firsts
use Rattle.beside.specs.declared.Pair.{Pair}
use Rattle.beside.specs.declared.Pair.TheVariants as pairs
use Rattle.beside.specs.declared.Parameter.{Parameter}
use Rattle.repr.specs.declared.refusal.Refusal.{Refusal}
use Rattle.repr.specs.declared.Node.{Node}
use Rattle.repr.specs.declared.Node.TheVariants as nodes

-- ---- Two nodes

-- nodes of one kind are alike, Refs where their own kinds are one, and structs where their names are
abbrev pub alike : Node → Node → Option Heads
alike (nodes.Unit c) (nodes.Unit d) = Some (heads.Units c d)
alike (nodes.Unit c) (nodes.Ref k r d) = None
alike (nodes.Unit c) (nodes.Struct z h) = None
alike (nodes.Unit c) (nodes.Bound i d) = None
alike (nodes.Ref k r c) (nodes.Unit d) = None
alike (nodes.Ref k r c) (nodes.Ref j o d) = cond {A = Option Heads} (same_kind (borrow_kind_of k) (borrow_kind_of j)) (Some (heads.Refs k r c o d)) None
alike (nodes.Ref k r c) (nodes.Struct z h) = None
alike (nodes.Ref k r c) (nodes.Bound i d) = None
alike (nodes.Struct s g) (nodes.Unit d) = None
alike (nodes.Struct s g) (nodes.Ref k r d) = None
alike (nodes.Struct s g) (nodes.Struct z h) = cond {A = Option Heads} (eqb s.0 z.0) (Some (heads.Structs s g h)) None
alike (nodes.Struct s g) (nodes.Bound i d) = None
alike (nodes.Bound i c) (nodes.Unit d) = None
alike (nodes.Bound i c) (nodes.Ref k r d) = None
alike (nodes.Bound i c) (nodes.Struct z h) = None
alike (nodes.Bound i c) (nodes.Bound k d) = None

abbrev pub heads_of : Result Node Refusal → Result Node Refusal → Option Heads
heads_of (Ok x) (Ok y) = alike x y
heads_of (Ok x) (Err k) = None
heads_of (Err k) (Ok y) = None
heads_of (Err k) (Err i) = None

-- ---- The first parameter, and the others

pub record FirstParameter (s : List ℕ) (ds : List Param) (r : Parameter) : Type 0 where
  pub variance : variance_of r.variance ≡ head_variance ds
  pub others : Stands (items r.others.count param) (tail ds) (rest s r.others.from)

pub record ParameterSays (s : List ℕ) (row : Row) (r : Parameter) : Type 0 where
  pub says : (ds : List Param) → Stands (items row.count param) ds (rest s row.from) → FirstParameter s ds r

-- ---- The first of n arguments h, whose bytes end before `over`

-- Its region is r, and n others follow.
pub record RegionBeside (bs : List ℕ) (n : ℕ) (h : Args) (over : List ℕ) (r : syntax.Region) : Type 0 where
  pub region : head_region h ≡ r
  pub others : ArgsTo bs n (tail_args h) over

abbrev pub RegionIs : List ℕ → ℕ → Args → List ℕ → Result (Region × Cursor) Refusal → Type 0
RegionIs s n h over (Ok r) = RegionBeside (rest s r.1) (n - 1) h over (region_of r.0)
RegionIs s n h over (Err k) = ⊥

pub record RegionSays (s : List ℕ) (row : Row) (r : Result (Region × Cursor) Refusal) : Type 0 where
  pub says : (h : Args) (over : List ℕ) → ArgsTo (rest s row.from) row.count h over → arg_nodes h ≤ max_nodes → RegionIs s row.count h over r

-- It is a region, or there is none.
pub record NoType (bs : List ℕ) (n : ℕ) (h : Args) (over : List ℕ) : Type 0 where
  pub unit : head_type h ≡ UnitTy
  pub others : ArgsTo bs n (tail_args h) over

abbrev pub TypeIs : List ℕ → ℕ → Args → List ℕ → Result First Refusal → Type 0
TypeIs s n h over (Ok (firsts.Type c)) = FirstType (rest s c) (n - 1) h over
TypeIs s n h over (Ok (firsts.Other c)) = NoType (rest s c) (n - 1) h over
TypeIs s n h over (Err k) = ⊥

pub record TypeSays (s : List ℕ) (row : Row) (r : Result First Refusal) : Type 0 where
  pub says : (h : Args) (over : List ℕ) → ArgsTo (rest s row.from) row.count h over → TypeIs s row.count h over r

-- ---- A type beside Unit

pub record IsUnit (bs : List ℕ) (t : Ty) (over : List ℕ) (c d : Cursor) : Type 0 where
  pub same : t ≡ UnitTy
  pub ends : bs ≡ over
  pub next : c ≡ d

abbrev pub UnitIs : List ℕ → Ty → List ℕ → Cursor → Option Pair → Type 0
UnitIs s t over b (Some (pairs.Units c d)) = IsUnit (rest s c) t over d b
UnitIs s t over b (Some (pairs.Regions r c o d)) = ⊥
UnitIs s t over b (Some (pairs.Types c d)) = ⊥
UnitIs s t over b None = is_unit t ≡ false

pub record UnitSays (s : List ℕ) (at : ℕ) (b : Cursor) (r : Option Pair) : Type 0 where
  pub says : (t : Ty) (over : List ℕ) → TypeTo (drop at s) t over → UnitIs s t over b r

-- ---- The first of m arguments g and of n arguments h

pub record RegionsFirst (of-a : List ℕ) (m : ℕ) (of-b : List ℕ) (n : ℕ) (g h : Args) (p q : List ℕ) (r o : syntax.Region) : Type 0 where
  pub more : Args
  pub same : g ≡ RegionArg r more
  pub others : ArgsTo of-a m more p
  pub second : RegionBeside of-b n h q o

pub record UnitsFirst (of-a : List ℕ) (m : ℕ) (of-b : List ℕ) (n : ℕ) (g h : Args) (p q : List ℕ) : Type 0 where
  pub more : Args
  pub same : g ≡ TypeArg UnitTy more
  pub others : ArgsTo of-a m more p
  pub second : NoType of-b n h q

pub record TypesFirst (of-a : List ℕ) (m : ℕ) (of-b : List ℕ) (n : ℕ) (g h : Args) (p q : List ℕ) : Type 0 where
  pub first : FirstType of-a m g p
  pub second : FirstType of-b n h q

abbrev pub PairIs : List ℕ → List ℕ → ℕ → ℕ → Args → Args → List ℕ → List ℕ → Option Pair → Type 0
PairIs a b m n g h p q (Some (pairs.Regions r c o d)) = RegionsFirst (rest a c) (m - 1) (rest b d) (n - 1) g h p q (region_of r) (region_of o)
PairIs a b m n g h p q (Some (pairs.Types c d)) = TypesFirst (rest a c) (m - 1) (rest b d) (n - 1) g h p q
PairIs a b m n g h p q (Some (pairs.Units c d)) = UnitsFirst (rest a c) (m - 1) (rest b d) (n - 1) g h p q
PairIs a b m n g h p q None = same_shapes g h ≡ false

-- The answer is what two rows begin with; where it is none, their shapes differ.
pub record FirstsSay (a : List ℕ) (x : ℕ) (b : List ℕ) (row : Row) (r : Option Pair) : Type 0 where
  pub says : (m : ℕ) (g h : Args) (p q : List ℕ) → (m ≡ 0 → ⊥) → ArgsTo (drop x a) m g p → ArgsTo (rest b row.from) row.count h q → arg_nodes h ≤ max_nodes
      → PairIs a b m row.count g h p q r
