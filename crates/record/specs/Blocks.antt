-- Blocks, with the entries for each block, its first point and its points.
use Rattle.std.specs.Prelude.{◌≡◌, List, [], ◌∷◌, ◌++◌, ℕ, suc, ◌+◌, ◌≤◌, ◌<◌, length, take, drop, Result, Ok, Err}
use Rattle.nll_spec.specs.Lists.{select, gather}
use Rattle.nll_spec.specs.Syntax.{Action, Block}
use Rattle.nll_spec.specs.Decode.{refused, read, items, action, block, is_borrow, code_count}
use Rattle.repr.specs.declared.Cursor.{Cursor}
use Rattle.record.specs.Rows.{Standing}
use Rattle.repr.specs.declared.refusal.Refusal.{Refusal}
use Rattle.repr.specs.Refusals.{number_of}
use Rattle.record.specs.declared.Code.{Code}
use Rattle.record.specs.declared.Offsets.{Offsets}

-- the entry of a block's end, which is no offset of an action
abbrev pub block_end : ℕ
block_end = 65535

-- how many loans some actions make
abbrev pub loan_count : List Action → ℕ
loan_count actions = length (select is_borrow actions)

-- the first point of each block, where the first of them is p
abbrev pub firsts : ℕ → List Block → List ℕ
firsts p [] = []
firsts p (b ∷ bs) = p ∷ firsts (p + suc (length b.actions)) bs

-- ---- An action

pub record ActionAt (s : List ℕ) (from next loans : ℕ) : Type 0 where
  pub item : Action
  pub reads : action (drop from s) ≡ read item (drop next s)
  pub lends : loans ≡ loan_count (item ∷ [])

abbrev pub ActionResult : List ℕ → ℕ → Result (ℕ × Cursor) Refusal → Type 0
ActionResult s from (Ok r) = ActionAt s from r.1.at r.0
ActionResult s from (Err k) = action (drop from s) ≡ refused (number_of k)

pub record ActionSays (s : List ℕ) (from : ℕ) (r : Result (ℕ × Cursor) Refusal) : Type 0 where
  pub result : ActionResult s from r

-- ---- The actions of a block

-- n actions from one place of s to another, which are the points from `first` on: their offsets in the entries t of the points, then the mark of the block's end
pub record Actions (s : List ℕ) (from next n first loans : ℕ) (t : List ℕ) : Type 0 where
  pub found : List Action
  pub offsets : List ℕ
  pub reads : items n action (drop from s) ≡ read found (drop next s)
  pub many : length found ≡ n
  pub lends : loans ≡ loan_count found
  pub few : loans ≤ n
  pub stands : Standing action s offsets found
  pub entries : first + n < 1024 → take (n + 1) (drop first t) ≡ offsets ++ block_end ∷ []

abbrev pub ActionsResult : List ℕ → Cursor → ℕ → ℕ → List ℕ → Result (ℕ × Cursor) Refusal → Type 0
ActionsResult s from n first t (Ok r) = Actions s from.at r.1.at n first r.0 t
ActionsResult s from n first t (Err k) = items n action (drop from.at s) ≡ refused (number_of k)

pub record ActionsSay (s : List ℕ) (from : Cursor) (n first : ℕ) (before after : List ℕ) (r : Result (ℕ × Cursor) Refusal) : Type 0 where
  pub kept : take first after ≡ take first before
  pub result : ActionsResult s from n first after r

-- ---- Blocks

-- The entries of the points of some blocks: for each block the offsets of its actions, then the mark of its end.
pub data Coded (s : List ℕ) : List ℕ → List Block → Type 0 where
  none : Coded s [] []
  more : {offsets entries : List ℕ} {b : Block} {bs : List Block} → Standing action s offsets b.actions → Coded s entries bs → Coded s (offsets ++ block_end ∷ entries) (b ∷ bs)

-- Some blocks, as the offsets have them: their offsets, their first points and, where there are not too many, the entries of their points.
pub record Placed (s : List ℕ) (n : ℕ) (bs : List Block) (t : Offsets) : Type 0 where
  pub stands : Standing block s (take n t.blocks) bs
  pub first : take n t.first ≡ firsts 0 bs
  pub entries : List ℕ
  pub coded : Coded s entries bs
  pub points : code_count bs ≤ 1024 → take (code_count bs) t.points ≡ entries

pub record Blocks (s : List ℕ) (from next n points loans : ℕ) (t : Offsets) : Type 0 where
  pub found : List Block
  pub reads : items n block (drop from s) ≡ read found (drop next s)
  pub placed : Placed s n found t
  pub counts : points ≡ code_count found
  pub most : points ≤ 16384
  pub lends : loans ≡ loan_count (gather (λ b. b.actions) found)

abbrev pub BlocksResult : List ℕ → Cursor → ℕ → Offsets → Result Code Refusal → Type 0
BlocksResult s from n t (Ok c) = Blocks s from.at c.next.at n c.points c.loans t
BlocksResult s from n t (Err k) = items n block (drop from.at s) ≡ refused (number_of k)

pub record BlocksSay (s : List ℕ) (from : Cursor) (n : ℕ) (before after : Offsets) (r : Result Code Refusal) : Type 0 where
  pub structs : after.structs ≡ before.structs
  pub outlives : after.outlives ≡ before.outlives
  pub variables : after.variables ≡ before.variables
  pub result : BlocksResult s from n after r
