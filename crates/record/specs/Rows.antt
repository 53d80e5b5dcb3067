-- A row of parts, with an entry for each.
use Rattle.std.specs.Prelude.{◌≡◌, List, [], ◌∷◌, ℕ, length, take, drop, Result, Ok, Err}
use Rattle.std.specs.Borrow.{Bor}
use Rattle.nll_spec.specs.Syntax.{StructDecl, Ty, RegionName}
use Rattle.nll_spec.specs.Decode.{refused, read, Reader, byte, items, counted, max_outlived, struct_decl, type}
use Rattle.repr.specs.Reading.{ended, end_says}
use Rattle.repr.specs.Stands.{Stands}
use Rattle.repr.specs.declared.Cursor.{Cursor}
use Rattle.repr.specs.declared.refusal.Refusal.{Refusal}
use Rattle.repr.specs.Refusals.{number_of}

-- Each of these offsets of s is where m reads the item at the same place of the list.
pub data Standing {A : Type 0} (m : Reader A) (s : List ℕ) : List ℕ → List A → Type 0 where
  none : Standing m s [] []
  more : {o : ℕ} {os : List ℕ} {x : A} {xs : List A} → Stands m x (drop o s) → Standing m s os xs → Standing m s (o ∷ os) (x ∷ xs)

-- The parts that stand in a row of their own.
pub data Part : Type 0 where
  Struct : Part
  Outlives : Part
  Variable : Part

-- What each of them is, and its reader.
abbrev pub Held : Part → Type 0
Held Struct = StructDecl
Held Outlives = List RegionName
Held Variable = Ty

abbrev pub reader : (part : Part) → Reader (Held part)
reader Struct = struct_decl
reader Outlives = counted max_outlived byte
reader Variable = type

-- Each answer for a place of some bytes says where the part of this kind that begins there ends.
abbrev pub Ends : Part → (Cursor → Bor (List ℕ) → Result Cursor Refusal → Type 0) → Type 0
Ends part answers = (c : Cursor) (s : Bor (List ℕ)) (r : Result Cursor Refusal) → answers c s r → end_says s.now r ≡ ended (reader part (drop c.at s.now))

-- n items that m reads from one place of s to another, with their offsets at the head of the entries t.
pub record Row {A : Type 0} (m : Reader A) (s : List ℕ) (from next n : ℕ) (t : List ℕ) : Type 0 where
  pub found : List A
  pub reads : items n m (drop from s) ≡ read found (drop next s)
  pub stands : Standing m s (take n t) found

abbrev pub RowResult : {A : Type 0} → Reader A → List ℕ → Cursor → ℕ → List ℕ → Result Cursor Refusal → Type 0
RowResult m s from n t (Ok next) = Row m s from.at next.at n t
RowResult m s from n t (Err k) = items n m (drop from.at s) ≡ refused (number_of k)

-- The answer of reading a row, with its entries before and after.
pub record RowSays (part : Part) (s : List ℕ) (from : Cursor) (n : ℕ) (before after : List ℕ) (r : Result Cursor Refusal) : Type 0 where
  pub size : length after ≡ length before
  pub result : RowResult (reader part) s from n after r
