-- What relating two types does: it adds the constraints of `Constraints.relate` to a list, and tells where the types end.
use Rattle.std.specs.Prelude.{◌≡◌, true, List, [], ℕ, ◌-◌, ◌≤◌, drop, T, Option, Some, None}
use Rattle.nll_spec.specs.Syntax.{Point, BorrowKind, Variance, RegionName, StructName, Free, Ty, RefTy, Args, NoArgs, RegionArg, TypeArg, Param, StructDecl, Job}
use Rattle.nll_spec.specs.Decode.{max_nodes, items, param}
use Rattle.nll_spec.specs.Types.{struct_of, head_region, head_type, tail_args, type_nodes, arg_nodes}
use Rattle.nll_spec.specs.Constraints.{Outlives, relate_regions, relate, relate_args}
use Rattle.nll_spec.specs.WellFormed.{same_shape, same_shapes}
use Rattle.repr.specs.Reading.{rest}
use Rattle.repr.specs.Stands.{Stands, TypeTo, ArgsTo, TypeAt}
use Rattle.record.specs.Layout.{Holds}
use Rattle.record.specs.declared.Record.{Record}
use Rattle.constraint_list.specs.Listed.{Adds}
use Rattle.repr.specs.declared.Row.{Row}
use Rattle.beside.specs.declared.Both.{Both}
use Rattle.relate.specs.declared.Relation.{Relation}

-- ---- Two types, or two rows of arguments, of one shape

-- The types m and n stand at x of a and at y of b; p and q follow them.
pub record Types (of : Relation) (x y left : ℕ) (m n : Ty) (p q : List ℕ) : Type 0 where
  pub a_stands : TypeTo (drop x of.a.now) m p
  pub b_stands : TypeTo (drop y of.b.now) n q
  pub a_few : type_nodes m ≤ left
  pub b_few : type_nodes n ≤ max_nodes
  pub alike : same_shape m n ≡ true

pub record Arguments (of : Relation) (x y : Row) (left : ℕ) (g h : Args) (p q : List ℕ) : Type 0 where
  pub a_stand : ArgsTo (rest of.a.now x.from) x.count g p
  pub b_stand : ArgsTo (rest of.b.now y.from) y.count h q
  pub a_few : arg_nodes g ≤ left
  pub b_few : arg_nodes h ≤ max_nodes
  pub alike : same_shapes g h ≡ true

-- where both end, and the nodes that are left
pub record EndAt (l left : ℕ) (of-a p of-b q : List ℕ) : Type 0 where
  pub nodes : l ≡ left
  pub a_ends : of-a ≡ p
  pub b_ends : of-b ≡ q

abbrev pub Ends : Relation → ℕ → List ℕ → List ℕ → Option Both → Type 0
Ends of left p q (Some o) = EndAt o.left left (rest of.a.now o.a) p (rest of.b.now o.b) q
Ends of left p q None = ⊥

-- no more nodes are left than there were
abbrev pub Fewer : ℕ → Option Both → Type 0
Fewer left (Some o) = o.left ≤ left
Fewer left None = Unit {0}

-- ---- What is added, and where both end

-- The struct's parameters stand there.
pub record ParametersSay (input : Record) (name : StructName) (r : Row) : Type 0 where
  pub says : (j : Job) → Holds input j → Stands (items r.count param) (struct_of j.structs name).params (rest input.bytes.now r.from)

-- the constraints of the first arguments of two rows
abbrev pub relate_first : Point → List StructDecl → Args → Variance → Args → List Outlives
relate_first p ss NoArgs v h = []
relate_first p ss (RegionArg r g) v h = relate_regions p v r (head_region h)
relate_first p ss (TypeArg t g) v h = relate p ss t v (head_type h)

-- The other arguments stand there, and l nodes are left for them, of `left` for all.
pub record OthersAt (of : Relation) (x y : Row) (left l : ℕ) (g h : Args) (p q : List ℕ) : Type 0 where
  pub stand : Arguments of x y l (tail_args g) (tail_args h) p q
  pub nodes : l - arg_nodes (tail_args g) ≡ left - arg_nodes g

abbrev pub Others : Relation → ℕ → ℕ → ℕ → Args → Args → List ℕ → List ℕ → Option Both → Type 0
Others of m n left g h p q (Some o) = OthersAt of (record { from = o.a; count = m - 1 }) (record { from = o.b; count = n - 1 }) left o.left g h p q
Others of m n left g h p q None = ⊥

module _ (of : Relation) where
  pub record TypesRelate (x y left : ℕ) (v : Variance) (ls ls' : List ℕ) (r : Option Both) : Type 0 where
    pub adds : (j : Job) → Holds of.input.now j → (m n : Ty) (p q : List ℕ) → Types of x y left m n p q
        → Adds (relate of.at j.structs m v n) ls ls'
    pub ends : (m n : Ty) (p q : List ℕ) → Types of x y left m n p q → Ends of (left - type_nodes m) p q r
    pub fewer : Fewer left r

  -- The first arguments, under their own variance.
  pub record FirstRelates (x y : Row) (left : ℕ) (v : Variance) (ls ls' : List ℕ) (r : Option Both) : Type 0 where
    pub adds : (j : Job) → Holds of.input.now j → (g h : Args) (p q : List ℕ) → Arguments of x y left g h p q
        → Adds (relate_first of.at j.structs g v h) ls ls'
    pub ends : (g h : Args) (p q : List ℕ) → Arguments of x y left g h p q → Others of x.count y.count left g h p q r
    pub fewer : Fewer left r

  pub record ArgumentsRelate (params : Row) (x y : Row) (left : ℕ) (v : Variance) (ls ls' : List ℕ) (r : Option Both) : Type 0 where
    pub adds : (j : Job) → Holds of.input.now j → (ds : List Param) → Stands (items params.count param) ds (rest of.input.now.bytes.now params.from)
        → (g h : Args) (p q : List ℕ) → Arguments of x y left g h p q
        → Adds (relate_args of.at j.structs g v ds h) ls ls'
    pub ends : (g h : Args) (p q : List ℕ) → Arguments of x y left g h p q → Ends of (left - arg_nodes g) p q r
    pub fewer : Fewer left r

  -- ---- Whole types

  -- The constraints of the two types that stand there are added, if the types have one shape.
  pub record Relates (x y : ℕ) (v : Variance) (ls ls' : List ℕ) : Type 0 where
    pub adds : (j : Job) → Holds of.input.now j → (m n : Ty) → TypeAt of.a.now x m → TypeAt of.b.now y n → type_nodes m ≤ max_nodes → type_nodes n ≤ max_nodes → T (same_shape m n)
        → Adds (relate of.at j.structs m v n) ls ls'

-- The same for a Ref of a region to the second.
pub record RelatesRef (o : RegionName) (of : Relation) (x y : ℕ) (v : Variance) (ls ls' : List ℕ) : Type 0 where
  pub adds : (j : Job) → Holds of.input.now j → (m n : Ty) (k : BorrowKind) → TypeAt of.a.now x m → TypeAt of.b.now y n → type_nodes m ≤ max_nodes → type_nodes n ≤ max_nodes
      → T (same_shape m (RefTy k (Free o) n))
      → Adds (relate of.at j.structs m v (RefTy k (Free o) n)) ls ls'
