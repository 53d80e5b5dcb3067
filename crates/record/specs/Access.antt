-- What the offsets give by number: where a part lies, what a struct declares, what a point does.
use Rattle.std.specs.Prelude.{◌≡◌, cond, List, [], ◌∷◌, ℕ, get_or, eqb, Option, Some, None, Result}
use Rattle.nll_spec.specs.Syntax as syntax
use Rattle.nll_spec.specs.Decode.{read, items, param, field}
use Rattle.repr.specs.Reading.{rest}
use Rattle.repr.specs.Parts.{action_says}
use Rattle.repr.specs.declared.StructDecl.{StructDecl}
use Rattle.repr.specs.Stands.{Stands}
use Rattle.record.specs.Blocks.{block_end}
use Rattle.repr.specs.declared.Cursor.{Cursor}
use Rattle.repr.specs.declared.Action.{Action}
use Rattle.record.specs.declared.ActionKind.{ActionKind}
use Rattle.record.specs.declared.ActionKind.TheVariants as kinds
use Rattle.repr.specs.declared.refusal.Refusal.{Refusal}

-- where a point's action lies; none at a block's end
abbrev pub point_of : ℕ → Option Cursor
point_of o = cond {A = Option Cursor} (eqb o block_end) None (Some (record { at = o }))

-- A struct's parameters and fields stand where d says.
pub record Declared (s : List ℕ) (x : syntax.StructDecl) (d : StructDecl) : Type 0 where
  pub params : Stands (items d.parameters.count param) x.params (rest s d.parameters.from)
  pub fields : Stands (items d.fields.count field) x.fields (rest s d.fields.from)

-- The answer is the action a.
pub record Acts (s : List ℕ) (a : syntax.Action) (r : Result (Action × Cursor) Refusal) : Type 0 where
  pub over : List ℕ
  pub reads : action_says s r ≡ read a over

-- what an action does, without its parts
abbrev pub kind_of : syntax.Action → ActionKind
kind_of syntax.Noop = kinds.Noop
kind_of (syntax.Init d qs) = kinds.Init
kind_of (syntax.Borrow d r k q) = kinds.Borrow
kind_of (syntax.Assign d q) = kinds.Assign
kind_of (syntax.Constraint sup sub) = kinds.Constraint
kind_of (syntax.Use q) = kinds.Use
kind_of (syntax.Drop q) = kinds.Drop
kind_of (syntax.StorageDead v) = kinds.StorageDead

-- what the action that begins with this byte does; Noop where none does
abbrev pub kind_of_tag : ℕ → ActionKind
kind_of_tag tag = get_or (kinds.Noop ∷ kinds.Init ∷ kinds.Borrow ∷ kinds.Assign ∷ kinds.Constraint ∷ kinds.Use ∷ kinds.Drop ∷ kinds.StorageDead ∷ []) tag kinds.Noop
