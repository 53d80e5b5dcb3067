-- The points' sets of variables: numbers 0 to 63 of a point are those that are used, 64 to 127 those that are dropped.
use Rattle.std.specs.Prelude.{◌≡◌, Bool, true, false, not, ◌&&◌, ◌||◌, List, map, ℕ, ◌+◌, ◌-◌, ◌<◌, drop, eqb, leb, ltb}
use Rattle.nll_spec.specs.Lists.{contains}
use Rattle.nll_spec.specs.Syntax as syntax
use Rattle.nll_spec.specs.Syntax.{Job, Point, Variable}
use Rattle.nll_spec.specs.Decode.{read, items, path, code_count}
use Rattle.nll_spec.specs.Graph.{graph_of, action_at}
use Rattle.nll_spec.specs.Liveness.{defs, uses, drops}
use Rattle.repr.specs.Parts.{action_read}
use Rattle.repr.specs.declared.Cursor.{Cursor}
use Rattle.repr.specs.declared.Action.{Action}
use Rattle.record.specs.Layout.{Holds}
use Rattle.record.specs.declared.Record.{Record}
use Rattle.bit_set.specs.Bits.{has}
use Rattle.flow.specs.Flows.{bit_at}
use Rattle.liveness.specs.declared.Half.{Half}
use Rattle.liveness.specs.declared.Half.TheVariants.{Used, Dropped}

-- the number that variable 0 has in a half of a point's set
abbrev pub start_of : Half → ℕ
start_of Used = 0
start_of Dropped = 64

-- number b is that of one of these variables, in the half of 64 numbers that begins at `from`
abbrev pub in_half : ℕ → List Variable → ℕ → Bool
in_half from vs b = (leb from b && ltb b (from + 64)) && contains vs (b - from)

-- in either half
abbrev pub in_either : List Variable → ℕ → Bool
in_either vs b = in_half 0 vs b || in_half 64 vs b

-- number b is that of a variable that the action uses or drops
abbrev pub needed_by : syntax.Action → ℕ → Bool
needed_by a b = in_half 0 (uses a) b || in_half 64 (drops a) b

-- The numbers that f holds are put into point x's set.
pub record Added (x : Point) (f : ℕ → Bool) (ws ws' : List ℕ) : Type 0 where
  pub bits : (p b : ℕ) → b < 128 → has ws' (bit_at p b) ≡ (has ws (bit_at p b) || (eqb p x && f b))

-- The numbers that f holds are taken out of point x's set.
pub record Removed (x : Point) (f : ℕ → Bool) (ws ws' : List ℕ) : Type 0 where
  pub bits : (p b : ℕ) → b < 128 → has ws' (bit_at p b) ≡ (has ws (bit_at p b) && not (eqb p x && f b))

-- What an Init's sources use is put into point x's set.
pub record Sourced (s : List ℕ) (from : Cursor) (n : ℕ) (x : Point) (ws ws' : List ℕ) : Type 0 where
  pub added : (qs : List syntax.Path) (over : List ℕ) → items n path (drop from.at s) ≡ read qs over → Added x (in_half 0 (map (λ q. q.base) qs)) ws ws'

-- What an action uses and drops is put into point x's set.
pub record Needed (s : List ℕ) (a : Action) (next : Cursor) (x : Point) (ws ws' : List ℕ) : Type 0 where
  pub added : (b : syntax.Action) (over : List ℕ) → action_read s a next ≡ read b over → Added x (needed_by b) ws ws'

-- What an action defines is taken out of point x's set.
pub record Defined (s : List ℕ) (a : Action) (next : Cursor) (x : Point) (ws ws' : List ℕ) : Type 0 where
  pub removed : (b : syntax.Action) (over : List ℕ) → action_read s a next ≡ read b over → Removed x (in_either (defs b)) ws ws'

-- Both sets, the one that numbers start in and the one that they pass, have what the actions of the points below n say.
pub record Filled (j : Job) (n : ℕ) (sets pass : List ℕ) : Type 0 where
  pub starts : (p b : ℕ) → p < code_count j.blocks → b < 128 → has sets (bit_at p b) ≡ (ltb p n && needed_by (action_at (graph_of j) p) b)
  pub passes : (p b : ℕ) → p < code_count j.blocks → b < 128 → has pass (bit_at p b) ≡ not (ltb p n && in_either (defs (action_at (graph_of j) p)) b)

-- Nothing starts at the points below n, and everything passes them.
pub record Blank (n : ℕ) (sets pass : List ℕ) : Type 0 where
  pub starts : (p b : ℕ) → p < n → b < 128 → has sets (bit_at p b) ≡ false
  pub passes : (p b : ℕ) → p < n → b < 128 → has pass (bit_at p b) ≡ true

-- The action of point x is done.
pub record Acted (r : Record) (x : Point) (sets pass sets' pass' : List ℕ) : Type 0 where
  pub filled : (j : Job) → Holds r j → x < code_count j.blocks → Filled j x sets pass → Filled j (x + 1) sets' pass'

-- Those of all points are.
pub record AllActed (r : Record) (sets pass : List ℕ) : Type 0 where
  pub filled : (j : Job) → Holds r j → Filled j r.head.code sets pass
