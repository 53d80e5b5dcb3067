-- What the comparison of two types says of them.
use Rattle.std.specs.Prelude.{◌≡◌, Bool, true, false, List, ℕ, ◌+◌, ◌-◌, ◌≤◌, drop, Option, Some, None}
use Rattle.nll_spec.specs.Syntax.{BorrowKind, Ty, RefTy, Args, Region}
use Rattle.nll_spec.specs.Decode.{max_nodes}
use Rattle.nll_spec.specs.Types.{tail_args, type_nodes, arg_nodes}
use Rattle.nll_spec.specs.WellFormed.{same_shape, same_shapes}
use Rattle.repr.specs.Reading.{rest}
use Rattle.repr.specs.Stands.{TypeTo, ArgsTo, TypeAt}
use Rattle.repr.specs.declared.Row.{Row}
use Rattle.beside.specs.declared.Both.{Both}

-- ---- Two types, or two rows of arguments

-- alike, with the nodes that are left and the bytes after each; or not
pub data Pair : Type 0 where
  same : ℕ → List ℕ → List ℕ → Pair
  differ : Pair

abbrev pub shapes : Bool → ℕ → List ℕ → List ℕ → Pair
shapes true left p q = same left p q
shapes false left p q = differ

abbrev pub shape_says : List ℕ → List ℕ → Option Both → Pair
shape_says a b (Some s) = same s.left (rest a s.a) (rest b s.b)
shape_says a b None = differ

-- no more nodes are left than there were
abbrev pub Fewer : ℕ → Option Both → Type 0
Fewer left (Some s) = s.left ≤ left
Fewer left None = Unit {0}

pub record TypesSay (a : List ℕ) (x : ℕ) (b : List ℕ) (y left : ℕ) (r : Option Both) : Type 0 where
  pub says : (t u : Ty) (p q : List ℕ) → TypeTo (drop x a) t p → TypeTo (drop y b) u q → type_nodes t ≤ left → type_nodes u ≤ max_nodes → shape_says a b r ≡ shapes (same_shape t u) (left - type_nodes t) p q
  pub fewer : Fewer left r

-- The first of the arguments g and h are alike, m and n others follow them, and l of the nodes are left.
pub record FirstAlike (of-a : List ℕ) (m : ℕ) (of-b : List ℕ) (n left l : ℕ) (g h : Args) (p q : List ℕ) : Type 0 where
  pub more : Args
  pub alike : same_shapes g h ≡ same_shapes more (tail_args h)
  pub nodes : l + arg_nodes g ≡ left + arg_nodes more
  pub a_stand : ArgsTo of-a m more p
  pub b_stand : ArgsTo of-b n (tail_args h) q

abbrev pub FirstIs : List ℕ → List ℕ → ℕ → ℕ → ℕ → Args → Args → List ℕ → List ℕ → Option Both → Type 0
FirstIs a b m n left g h p q (Some s) = FirstAlike (rest a s.a) (m - 1) (rest b s.b) (n - 1) left s.left g h p q
FirstIs a b m n left g h p q None = same_shapes g h ≡ false

pub record FirstSays (a : List ℕ) (x : ℕ) (b : List ℕ) (row : Row) (left : ℕ) (r : Option Both) : Type 0 where
  pub says : (m : ℕ) (g h : Args) (p q : List ℕ) → (m ≡ 0 → ⊥) → ArgsTo (drop x a) m g p → ArgsTo (rest b row.from) row.count h q → arg_nodes g ≤ left → arg_nodes h ≤ max_nodes
      → FirstIs a b m row.count left g h p q r
  pub fewer : Fewer left r

pub record ArgumentsSay (a : List ℕ) (x : Row) (b : List ℕ) (y : Row) (left : ℕ) (r : Option Both) : Type 0 where
  pub says : (g h : Args) (p q : List ℕ) → ArgsTo (rest a x.from) x.count g p → ArgsTo (rest b y.from) y.count h q → arg_nodes g ≤ left → arg_nodes h ≤ max_nodes
      → shape_says a b r ≡ shapes (same_shapes g h) (left - arg_nodes g) p q
  pub fewer : Fewer left r

-- ---- Whole types

-- The answer is whether the two types that stand there have one shape.
pub record SameShape (a : List ℕ) (x : ℕ) (b : List ℕ) (y : ℕ) (r : Bool) : Type 0 where
  pub says : (t u : Ty) → TypeAt a x t → TypeAt b y u → type_nodes t ≤ max_nodes → type_nodes u ≤ max_nodes → r ≡ same_shape t u

-- The answer is whether the first has the shape of a Ref to the second.
pub record SameAsRef (kind : BorrowKind) (a : List ℕ) (x : ℕ) (b : List ℕ) (y : ℕ) (r : Bool) : Type 0 where
  pub says : (t u : Ty) (region : Region) → TypeAt a x t → TypeAt b y u → type_nodes t ≤ max_nodes → type_nodes u ≤ max_nodes → r ≡ same_shape t (RefTy kind region u)
