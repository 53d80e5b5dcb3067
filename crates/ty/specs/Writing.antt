-- What each step of the writing of types says of the writer.
use Rattle.std.specs.Prelude.{◌≡◌, List, ◌++◌, ℕ, ◌+◌, ◌*◌, ◌≤◌, ◌<◌, take, drop, length, Option, Some, None}
use Rattle.nll_spec.specs.Syntax.{Ty, Args}
use Rattle.nll_spec.specs.Types.{head_type, bound_args, subst, subst_args, type_nodes, arg_nodes}
use Rattle.repr.specs.Reading.{rest}
use Rattle.repr.specs.declared.Cursor.{Cursor}
use Rattle.repr.specs.Stands.{TypeTo, ArgsTo}
use Rattle.repr.specs.Spelling.{spell, spell_args}
use Rattle.ty.specs.declared.write.Arguments.{Arguments}
use Rattle.ty.specs.declared.write.Writer.{Writer}
use Rattle.ty.specs.Written.{Given}

-- These bytes are written next, and take so many of the nodes.
pub record Puts (nodes : ℕ) (bytes : List ℕ) (old new : Writer) : Type 0 where
  pub took : new.left + nodes ≡ old.left
  pub ends : new.at ≡ old.at + length bytes
  pub same : new.out.ghost_name ≡ old.out.ghost_name
  pub stand : take new.at new.out.now ≡ take old.at old.out.now ++ bytes

-- An item of so many nodes and these bytes is written, and what was read ends before `over`; or it has more nodes than are left.
abbrev pub Writes : List ℕ → List ℕ → ℕ → List ℕ → Writer → Writer → Option Cursor → Type 0
Writes f over nodes bytes old new (Some c) = (rest f c ≡ over) × Puts nodes bytes old new
Writes f over nodes bytes old new None = old.left < nodes

-- No more room is used than the nodes have: 15 bytes each, and `more`.
pub record Keeps (more : ℕ) (old new : Writer) : Type 0 where
  pub same : new.out.ghost_name ≡ old.out.ghost_name
  pub fewer : new.left ≤ old.left
  pub room : new.at + 15 * new.left ≤ old.at + 15 * old.left + more

abbrev pub Room : ℕ → Writer → Writer → Option Cursor → Type 0
Room more old new (Some c) = Keeps more old new
Room more old new None = Unit {0}

pub record CopySays (s : List ℕ) (item : ℕ) (next : Cursor) (old new : Writer) (r : Option Cursor) : Type 0 where
  pub says : (f : List ℕ) (t : Ty) (over : List ℕ) → TypeTo (drop item s) t over → Writes f (rest f next) (type_nodes t) (spell t) old new r
  pub room : Room 0 old new r

pub record BoundSays (a : Arguments) (b : ℕ) (next : Cursor) (old new : Writer) (r : Option Cursor) : Type 0 where
  pub says : (f : List ℕ) (g : Args) → Given a g → Writes f (rest f next) (type_nodes (head_type (bound_args g b))) (spell (head_type (bound_args g b))) old new r
  pub room : Room 0 old new r

pub record SubstSays (f : List ℕ) (c : ℕ) (a : Arguments) (old new : Writer) (r : Option Cursor) : Type 0 where
  pub says : (t : Ty) (over : List ℕ) (g : Args) → TypeTo (drop c f) t over → Given a g → Writes f over (type_nodes (subst t g)) (spell (subst t g)) old new r
  pub room : Room 0 old new r

pub record ArgumentsSay (f : List ℕ) (c n : ℕ) (a : Arguments) (old new : Writer) (r : Option Cursor) : Type 0 where
  pub says : (h : Args) (over : List ℕ) (g : Args) → ArgsTo (drop c f) n h over → Given a g → Writes f over (arg_nodes (subst_args h g)) (spell_args (subst_args h g)) old new r
  pub room : Room (3 * n) old new r
