-- What the answers about types say. A node's answer tells where its parts begin: reading the node is reading on there, however its parts are read.
use Rattle.std.specs.Prelude.{◌≡◌, List, ℕ, suc, ◌+◌, ◌*◌, ◌≤◌, ◌<◌, drop, Result, Ok, Err}
use Rattle.nll_spec.specs.Syntax.{Ty, UnitTy, RefTy, StructTy, BoundTy, Args, RegionArg, TypeArg}
use Rattle.nll_spec.specs.Decode.{Reading, refused, read, Reader, done, ◌>>=◌, byte, count, max_params, Part, part, borrow_kind, region, args, tagged}
use Rattle.nll_spec.specs.Decode.{type_within}
use Rattle.repr.specs.Refusals.{number_of}
use Rattle.repr.specs.Reading.{rest, borrow_kind_of, region_of}
use Rattle.repr.specs.declared.refusal.Refusal.{Refusal}
use Rattle.repr.specs.declared.Node.{Node}
use Rattle.repr.specs.declared.Node.TheVariants as nodes
use Rattle.repr.specs.declared.Argument.{Argument}
use Rattle.repr.specs.declared.Argument.TheVariants as arguments
use Rattle.repr.specs.declared.Opened.{Opened}
use Rattle.repr.specs.declared.Rest.{Rest}

-- A reader of types, which takes how many nodes the type may have.
abbrev pub Inner : Type 0
Inner = ℕ → Reader (Part Ty)

-- ---- A node

-- a type's tag and what it says
unfoldable pub node : Inner → ℕ → Reader (Part Ty)
node inner left = do
  tag ← byte
  tagged inner left tag

-- what follows the tag of a Ref, as `tagged` has it
unfoldable pub ref_node : Inner → ℕ → Reader (Part Ty)
ref_node inner left = do
  k ← borrow_kind
  r ← region
  t ← inner left
  done (part (RefTy k r t.item) t.left)

-- what follows the tag of a Struct, as `tagged` has it
unfoldable pub struct_node : Inner → ℕ → Reader (Part Ty)
struct_node inner left = do
  s ← byte
  n ← count 0 max_params
  given ← args inner n left
  done (part (StructTy s given.item) given.left)

-- what follows the tag of a Bound, as `tagged` has it
unfoldable pub bound_node : Inner → ℕ → Reader (Part Ty)
bound_node inner left = do
  b ← byte
  done (part (BoundTy b) left)

module _ (inner : Inner) (left : ℕ) (s : List ℕ) where
  abbrev pub node_says : Result Node Refusal → Reading (Part Ty)
  node_says (Ok (nodes.Unit next)) = read (part UnitTy left) (rest s next)
  node_says (Ok (nodes.Ref k r referent)) =
      (do t ← inner left; done (part (RefTy (borrow_kind_of k) (region_of r) t.item) t.left)) (rest s referent)
  node_says (Ok (nodes.Struct name row)) =
      (do given ← args inner row.count left; done (part (StructTy name.0 given.item) given.left)) (rest s row.from)
  node_says (Ok (nodes.Bound b next)) = read (part (BoundTy b) left) (rest s next)
  node_says (Err k) = refused (number_of k)

-- The answer is what the reader reads there, whatever reads the types below.
pub record NodeSays (reader : Inner → ℕ → Reader (Part Ty)) (s : List ℕ) (at : ℕ) (r : Result Node Refusal) : Type 0 where
  pub same : (inner : Inner) (left : ℕ) → node_says inner left s r ≡ reader inner left (drop at s)

-- ---- An argument

module _ (inner : Inner) (n left : ℕ) (s : List ℕ) where
  -- the first argument and n more
  abbrev pub argument_says : Result Argument Refusal → Reading (Part Args)
  argument_says (Ok (arguments.Region r next)) =
      (do more ← args inner n left; done (part (RegionArg (region_of r) more.item) more.left)) (rest s next)
  argument_says (Ok (arguments.Type ty)) =
      (do t ← inner left; more ← args inner n t.left; done (part (TypeArg t.item more.item) more.left)) (rest s ty)
  argument_says (Err k) = refused (number_of k)

pub record ArgumentSays (s : List ℕ) (at : ℕ) (r : Result Argument Refusal) : Type 0 where
  pub same : (inner : Inner) (n left : ℕ) → argument_says inner n left s r ≡ args inner (suc n) left (drop at s)

-- ---- A whole type: the nodes that are left, and where it ends

abbrev pub left_of : {A : Type 0} → Reading (Part A) → Reading ℕ
left_of (refused k) = refused k
left_of (read p over) = read p.left over

abbrev pub nodes_says : List ℕ → Result Rest Refusal → Reading ℕ
nodes_says s (Ok e) = read e.left (rest s e.next)
nodes_says s (Err k) = refused (number_of k)

-- no more nodes are left than there were
abbrev pub AtMost : ℕ → Reading ℕ → Type 0
AtMost left (refused k) = Unit {0}
AtMost left (read l over) = l ≤ left

-- then n more arguments
abbrev pub onward : Inner → ℕ → Reading ℕ → Reading ℕ
onward inner n (refused k) = refused k
onward inner n (read left over) = left_of (args inner n left over)

-- what is to be read yet, then n more arguments
abbrev pub opened_says : Inner → ℕ → List ℕ → Result Opened Refusal → Reading ℕ
opened_says inner n s (Ok o) = left_of (args inner (o.count + n) o.left (rest s o.next))
opened_says inner n s (Err k) = refused (number_of k)

-- The arguments that are to be read yet, together with 256 for each node that is left, are no more than before.
abbrev pub Falls : ℕ → Result Opened Refusal → Type 0
Falls left (Ok o) = o.count + 256 * o.left ≤ 256 * left
Falls left (Err k) = Unit {0}

-- Reading on from the answer is reading the type, whatever arguments come after it.
pub record OpenedSays (s : List ℕ) (at left : ℕ) (r : Result Opened Refusal) : Type 0 where
  pub same : (depth n : ℕ) → left < depth → opened_says (type_within depth) n s r ≡ onward (type_within depth) n (left_of (type_within depth left (drop at s)))
  pub falls : Falls left r

-- Reading on from the answer is reading the first argument, whatever arguments come after it.
pub record FirstSays (s : List ℕ) (at left : ℕ) (r : Result Opened Refusal) : Type 0 where
  pub same : (depth n : ℕ) → left < depth → opened_says (type_within depth) n s r ≡ left_of (args (type_within depth) (suc n) left (drop at s))
  pub falls : Falls left r

-- The nodes that are left and where the type ends are the definition's, at every depth that is no limit of its own.
pub record TypeSays (s : List ℕ) (at left : ℕ) (r : Result Rest Refusal) : Type 0 where
  pub same : (depth : ℕ) → left < depth → nodes_says s r ≡ left_of (type_within depth left (drop at s))
  pub fewer : AtMost left (nodes_says s r)

-- The same of so many arguments.
pub record ArgumentsSay (s : List ℕ) (at count left : ℕ) (r : Result Rest Refusal) : Type 0 where
  pub same : (depth : ℕ) → left < depth → nodes_says s r ≡ left_of (args (type_within depth) count left (drop at s))
  pub fewer : AtMost left (nodes_says s r)
