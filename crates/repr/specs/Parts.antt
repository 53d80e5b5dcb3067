-- What the answers about structs, actions and blocks say. Their rows are only counted: reading such a part is reading on where its row begins.
use Rattle.std.specs.Prelude.{◌≡◌, List, ℕ, take, drop, Result, Ok, Err}
use Rattle.nll_spec.specs.Syntax as syntax
use Rattle.nll_spec.specs.Decode.{Reading, refused, read, Reader, done, ◌>>=◌, byte, items, counted, max_sources, borrow_kind, param, field}
use Rattle.nll_spec.specs.Decode.{struct_decl, type, path, action}
use Rattle.repr.specs.Refusals.{number_of}
use Rattle.repr.specs.Reading.{rest, borrow_kind_of, path_of}
use Rattle.repr.specs.declared.Cursor.{Cursor}
use Rattle.repr.specs.declared.FieldName.{FieldName}
use Rattle.repr.specs.declared.refusal.Refusal.{Refusal}
use Rattle.repr.specs.declared.Action.{Action}
use Rattle.repr.specs.declared.Action.TheVariants.{Noop, Init, Borrow, Assign, Constraint, Use, Drop, StorageDead}
use Rattle.repr.specs.declared.StructDecl.{StructDecl}
use Rattle.repr.specs.declared.BasicBlockData.{BasicBlockData}

-- m reads there.
pub record Readable {A : Type 0} (m : Reader A) (bs : List ℕ) : Type 0 where
  pub item : A
  pub over : List ℕ
  pub reads : m bs ≡ read item over

-- ---- Structs

-- reading on at another place
abbrev pub elsewhere : {A : Type 0} → List ℕ → Reader A → Reader A
elsewhere bs m over = m bs

abbrev pub field_says : List ℕ → Result (FieldName × Cursor) Refusal → Reading syntax.Field
field_says s (Ok r) = (do t ← type; done (record { number = r.0.0; type = t })) (rest s r.1)
field_says s (Err k) = refused (number_of k)

-- its parameters where they are declared, then its fields where its members begin
unfoldable pub struct_of : List ℕ → StructDecl → Reading syntax.StructDecl
struct_of s d =
    (do
      ps ← items d.parameters.count param
      elsewhere (rest s d.fields.from) (do fs ← items d.fields.count field; done (record { params = ps; fields = fs })))
    (rest s d.parameters.from)

abbrev pub struct_says : List ℕ → Result StructDecl Refusal → Reading syntax.StructDecl
struct_says s (Ok d) = struct_of s d
struct_says s (Err k) = refused (number_of k)

-- the parameters of a struct can be read
abbrev pub ParametersRead : List ℕ → Result StructDecl Refusal → Type 0
ParametersRead s (Ok d) = Readable (items d.parameters.count param) (rest s d.parameters.from)
ParametersRead s (Err k) = Unit {0}

-- The answer is what `struct_decl` reads there, and where it is a struct, its parameters can be read.
pub record StructSays (s : List ℕ) (at : ℕ) (r : Result StructDecl Refusal) : Type 0 where
  pub same : struct_says s r ≡ struct_decl (drop at s)
  pub declared : ParametersRead s r

-- ---- Actions: what follows each tag, as `action` has it

unfoldable pub init_action : Reader syntax.Action
init_action = do p ← path; qs ← counted max_sources path; done (syntax.Init p qs)

unfoldable pub borrow_action : Reader syntax.Action
borrow_action = do p ← path; r ← byte; k ← borrow_kind; q ← path; done (syntax.Borrow p r k q)

unfoldable pub assign_action : Reader syntax.Action
assign_action = do p ← path; q ← path; done (syntax.Assign p q)

unfoldable pub constraint_action : Reader syntax.Action
constraint_action = do sup ← byte; sub ← byte; done (syntax.Constraint sup sub)

unfoldable pub use_action : Reader syntax.Action
use_action = do p ← path; done (syntax.Use p)

unfoldable pub drop_action : Reader syntax.Action
drop_action = do p ← path; done (syntax.Drop p)

unfoldable pub dead_action : Reader syntax.Action
dead_action = do v ← byte; done (syntax.StorageDead v)

-- an action and what follows it, where its sources stand
abbrev pub action_read : List ℕ → Action → Cursor → Reading syntax.Action
action_read s Noop next = read syntax.Noop (rest s next)
action_read s (Init dest n) sources = (do qs ← items n path; done (syntax.Init (path_of s dest) qs)) (rest s sources)
action_read s (Borrow dest r k source) next = read (syntax.Borrow (path_of s dest) r.0 (borrow_kind_of k) (path_of s source)) (rest s next)
action_read s (Assign dest source) next = read (syntax.Assign (path_of s dest) (path_of s source)) (rest s next)
action_read s (Constraint sup sub) next = read (syntax.Constraint sup.0 sub.0) (rest s next)
action_read s (Use p) next = read (syntax.Use (path_of s p)) (rest s next)
action_read s (Drop p) next = read (syntax.Drop (path_of s p)) (rest s next)
action_read s (StorageDead v) next = read (syntax.StorageDead v.0) (rest s next)

abbrev pub action_says : List ℕ → Result (Action × Cursor) Refusal → Reading syntax.Action
action_says s (Ok r) = action_read s r.0 r.1
action_says s (Err k) = refused (number_of k)

-- how many sources follow an action
abbrev pub sources_of : Action → ℕ
sources_of Noop = 0
sources_of (Init dest n) = n
sources_of (Borrow dest r k source) = 0
sources_of (Assign dest source) = 0
sources_of (Constraint sup sub) = 0
sources_of (Use p) = 0
sources_of (Drop p) = 0
sources_of (StorageDead v) = 0

-- how many loans an action makes
abbrev pub loans_of : Action → ℕ
loans_of Noop = 0
loans_of (Init dest n) = 0
loans_of (Borrow dest r k source) = 1
loans_of (Assign dest source) = 0
loans_of (Constraint sup sub) = 0
loans_of (Use p) = 0
loans_of (Drop p) = 0
loans_of (StorageDead v) = 0

-- ---- Blocks

unfoldable pub block_of : List ℕ → BasicBlockData → Reading syntax.Block
block_of s b =
    (do code ← items b.actions.count action; done (record { successors = take b.successors.count (rest s b.successors.from); actions = code }))
    (rest s b.actions.from)

abbrev pub block_says : List ℕ → Result BasicBlockData Refusal → Reading syntax.Block
block_says s (Ok b) = block_of s b
block_says s (Err k) = refused (number_of k)
