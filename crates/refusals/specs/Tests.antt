-- What a test of an item that stands in the record says: it passes, with where the item ends, or it fails.
use Rattle.std.specs.Prelude.{◌≡◌, Bool, true, false, ◌&&◌, List, ℕ, ◌-◌, ◌≤◌, [], get_or, length, drop, ltb, Result, Ok, Err}
use Rattle.nll_spec.specs.Lists.{every}
use Rattle.nll_spec.specs.Syntax.{Ty, Args, StructDecl, Block, Job}
use Rattle.nll_spec.specs.Decode.{read, Reader}
use Rattle.nll_spec.specs.Types.{type_nodes, arg_nodes}
use Rattle.nll_spec.specs.WellFormed.{type_named, args_named, field_named, action_named}
use Rattle.repr.specs.Reading.{rest}
use Rattle.repr.specs.declared.Action.{Action}
use Rattle.repr.specs.declared.Action.TheVariants as action
use Rattle.repr.specs.declared.Cursor.{Cursor}
use Rattle.repr.specs.declared.Rest.{Rest}
use Rattle.repr.specs.declared.refusal.Refusal.{Refusal}
use Rattle.record.specs.declared.Head.{Head}
use Rattle.record.specs.declared.Record.{Record}
use Rattle.repr.specs.Stands.{TypeTo, ArgsTo}

-- The head has the job's counts.
pub record Sized (h : Head) (j : Job) : Type 0 where
  pub regions : j.regions ≡ h.regions
  pub structs : length j.structs ≡ h.structs
  pub declared : length j.outlives ≡ h.declared
  pub variables : length j.variables ≡ h.variables
  pub blocks : length j.blocks ≡ h.blocks

-- ---- An item that m reads

-- the bytes after an item that passes; or it fails
pub data Pass : Type 0 where
  over : List ℕ → Pass
  fails : Pass

abbrev pub pass : Bool → List ℕ → Pass
pass true bs = over bs
pass false bs = fails

abbrev pub pass_says : List ℕ → Result Cursor Refusal → Pass
pass_says s (Ok next) = over (rest s next)
pass_says s (Err k) = fails

-- The answer is the test of the item that m reads there, and where the item ends.
pub record Passes {A : Type 0} (m : Reader A) (test : A → Bool) (s : List ℕ) (at : ℕ) (r : Result Cursor Refusal) : Type 0 where
  pub says : (x : A) (bs : List ℕ) → m (drop at s) ≡ read x bs → pass_says s r ≡ pass (test x) bs

-- The answer is the test of the item that m reads there.
pub record Tested {A : Type 0} (m : Reader A) (test : A → Bool) (s : List ℕ) (at : ℕ) (r : Bool) : Type 0 where
  pub says : (x : A) (bs : List ℕ) → m (drop at s) ≡ read x bs → r ≡ test x

-- The answer is the test of item i. x stands for an absent one.
pub record ItemTested {A : Type 0} (f : A → Bool) (xs : List A) (x : A) (i : ℕ) (r : Bool) : Type 0 where
  pub says : r ≡ f (get_or xs i x)

-- what stands for a block that is not there
abbrev pub no_block : Block
no_block = record { successors = []; actions = [] }

-- ---- A part of a type

-- the nodes that are left and the bytes after a part that passes; or it fails
pub data Walk : Type 0 where
  onto : ℕ → List ℕ → Walk
  stays : Walk

abbrev pub walk : Bool → ℕ → List ℕ → Walk
walk true left bs = onto left bs
walk false left bs = stays

abbrev pub walk_says : List ℕ → Result Rest Refusal → Walk
walk_says s (Ok e) = onto e.left (rest s e.next)
walk_says s (Err k) = stays

-- no more nodes are left than there were
abbrev pub FewerNodes : ℕ → Result Rest Refusal → Type 0
FewerNodes left (Ok e) = e.left ≤ left
FewerNodes left (Err k) = Unit {0}

pub record TypeWalk (test : Ty → Bool) (s : List ℕ) (at left : ℕ) (r : Result Rest Refusal) : Type 0 where
  pub says : (t : Ty) (bs : List ℕ) → TypeTo (drop at s) t bs → type_nodes t ≤ left → walk_says s r ≡ walk (test t) (left - type_nodes t) bs

pub record ArgsWalk (test : Args → Bool) (s : List ℕ) (at n left : ℕ) (r : Result Rest Refusal) : Type 0 where
  pub says : (g : Args) (bs : List ℕ) → ArgsTo (drop at s) n g bs → arg_nodes g ≤ left → walk_says s r ≡ walk (test g) (left - arg_nodes g) bs

-- ---- The names of a type

pub record TypeNamed (input : Record) (at left : ℕ) (r : Result Rest Refusal) : Type 0 where
  pub walks : (j : Job) → Sized input.head j → TypeWalk (type_named j) input.bytes.now at left r
  pub fewer : FewerNodes left r

pub record ArgumentsNamed (input : Record) (at n left : ℕ) (r : Result Rest Refusal) : Type 0 where
  pub walks : (j : Job) → Sized input.head j → ArgsWalk (args_named j) input.bytes.now at n left r
  pub fewer : FewerNodes left r

-- ---- The names of parts

-- each number is below a limit
abbrev pub all_below : ℕ → List ℕ → Bool
all_below limit = every (λ x. ltb x limit)

abbrev pub struct_named : Job → StructDecl → Bool
struct_named j d = every (field_named j) d.fields

-- what an action names, but for the sources of an Init
abbrev pub own_named : Head → Action → Bool
own_named h action.Noop = true
own_named h (action.Init dest n) = ltb dest.base.0 h.variables
own_named h (action.Borrow dest r k source) = ltb dest.base.0 h.variables && ltb r.0 h.regions && ltb source.base.0 h.variables
own_named h (action.Assign dest source) = ltb dest.base.0 h.variables && ltb source.base.0 h.variables
own_named h (action.Constraint sup sub) = ltb sup.0 h.regions && ltb sub.0 h.regions
own_named h (action.Use p) = ltb p.base.0 h.variables
own_named h (action.Drop p) = ltb p.base.0 h.variables
own_named h (action.StorageDead v) = ltb v.0 h.variables

-- a block's successors, then its actions
abbrev pub block_named : Job → Block → Bool
block_named j b = all_below (length j.blocks) b.successors && every (action_named j) b.actions

abbrev pub blocks_named : Job → Bool
blocks_named j = every (block_named j) j.blocks
