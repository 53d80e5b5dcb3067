-- What the search for a field says.
use Rattle.std.specs.Prelude as std
use Rattle.std.specs.Prelude.{◌≡◌, List, ℕ, ◌≤◌, Some, None}
use Rattle.std.proofs.Math.Option.{Option, none, some}
use Rattle.nll_spec.specs.Syntax as syntax
use Rattle.nll_spec.specs.Syntax.{Ty}
use Rattle.nll_spec.specs.Decode.{max_nodes}
use Rattle.nll_spec.specs.Types.{type_nodes, field_type}
use Rattle.repr.specs.declared.StructDecl.{StructDecl}
use Rattle.record.specs.Access.{Declared}
use Rattle.repr.specs.Stands.{TypeAt}
use Rattle.repr.specs.declared.Cursor.{Cursor}

-- A type that there is, and where it stands.
pub record TypeThere (s : List ℕ) (at : ℕ) (o : Option Ty) : Type 0 where
  pub type : Ty
  pub same : o ≡ some type
  pub stands : TypeAt s at type
  pub few : type_nodes type ≤ max_nodes

abbrev pub FieldIs : List ℕ → Option Ty → std.Option Cursor → Type 0
FieldIs s o (Some c) = TypeThere s c.at o
FieldIs s o None = o ≡ none

-- The answer is the type of the first field with the number f.
pub record FieldSays (s : List ℕ) (d : StructDecl) (f : ℕ) (r : std.Option Cursor) : Type 0 where
  pub says : (x : syntax.StructDecl) → Declared s x d → FieldIs s (field_type x.fields f) r
