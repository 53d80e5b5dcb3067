-- The regions' starting sets, as rows of words.
use Rattle.std.specs.Prelude.{◌≡◌, Bool, false, ◌&&◌, ◌||◌, List, ℕ, zero, suc, ◌+◌, ◌-◌, ◌*◌, ◌≤◌, ◌<◌, length, get_or, ltb, leb}
use Rattle.nll_spec.specs.Lists.{contains}
use Rattle.nll_spec.specs.Types.{variable_type}
use Rattle.nll_spec.specs.Output.{word_bits}
use Rattle.nll_spec.specs.Syntax.{Job}
use Rattle.nll_spec.specs.Graph.{graph_of}
use Rattle.nll_spec.specs.Regions.{seed_table}
use Rattle.bit_set.specs.Bits.{has}
use Rattle.bit_set.specs.Rows.{Says}
use Rattle.record.specs.declared.Head.{Head}
use Rattle.liveness.specs.Rows.{row_bit}
use Rattle.seeds.specs.declared.rows.Rows.{Rows}
use Rattle.seeds.specs.declared.Which.{Which}
use Rattle.seeds.specs.declared.Which.TheVariants.{Every, Dropped}
use Rattle.seeds.specs.Chosen.{chosen}

-- The points that g gives are put into the n rows of w words each.
pub record Adds (w n : ℕ) (g : ℕ → ℕ → Bool) (before after : List ℕ) : Type 0 where
  pub size : length after ≡ length before
  pub others : (k : ℕ) → n * w ≤ k → get_or after k 0 ≡ get_or before k 0
  pub bits : (r p : ℕ) → r < n → p < word_bits * w → has after (word_bits * (r * w) + p) ≡ (has before (word_bits * (r * w) + p) || g r p)

-- The rows of a head's regions fit into the words, and the declared ends into a row.
pub record Room (h : Head) (w : ℕ) (ws : List ℕ) : Type 0 where
  pub declared : h.declared ≤ h.regions
  pub width : w ≤ 32
  pub words : h.regions * w ≤ length ws
  pub ends : h.code + h.declared ≤ word_bits * w

-- The rows are in the same words, and as wide.
pub record Kept (before after : Rows) : Type 0 where
  pub width : after.width ≡ before.width
  pub same : after.words.ghost_name ≡ before.words.ghost_name
  pub size : length after.words.now ≡ length before.words.now

-- The points that g gives are put into the rows of a head's regions, which have room.
abbrev pub Gets : Head → (ℕ → ℕ → Bool) → Rows → Rows → Type 0
Gets h g before after = Room h before.width before.words.now → Adds before.width h.regions g before.words.now after.words.now

-- ---- Variables

-- row v of the live points, of w words, for the regions from d on whose names are in the set
abbrev pub spreads : ℕ → List ℕ → ℕ → List ℕ → ℕ → ℕ → ℕ → Bool
spreads d names w live v r p = leb d r && has names (word_bits * 0 + r) && has live (row_bit w v p)

-- the same for the regions that are taken of variable v's type
abbrev pub takes : Job → Which → ℕ → List ℕ → ℕ → ℕ → ℕ → Bool
takes j which w live v r p = leb (length j.outlives) r && contains (chosen which j.structs (variable_type j v)) r && has live (row_bit w v p)

abbrev pub live_in : Job → ℕ → List ℕ → List ℕ → ℕ → ℕ → ℕ → Bool
live_in j w used dropped r p v = takes j Every w used v r p || takes j Dropped w dropped v r p

-- some number below n passes the test
abbrev pub any_to : (ℕ → Bool) → ℕ → Bool
any_to f zero = false
any_to f (suc n) = any_to f n || f n

-- ---- Declared regions

-- p is the end of a region below n that region r outlives
abbrev pub end_seed : ℕ → ℕ → List ℕ → ℕ → ℕ → Bool
end_seed code n ends r p = leb code p && ltb (p - code) n && has ends (word_bits * r + (p - code))

abbrev pub declared_seed : ℕ → ℕ → List ℕ → List ℕ → ℕ → ℕ → Bool
declared_seed code n walked ends r p = has walked p || end_seed code n ends r p

-- ---- All

-- The words are the seeds of the job's regions.
pub record Seeded (j : Job) (w : ℕ) (before after : List ℕ) : Type 0 where
  pub size : length after ≡ length before
  pub others : (k : ℕ) → j.regions * w ≤ k → get_or after k 0 ≡ get_or before k 0
  pub says : Says w (seed_table j (graph_of j)) after
