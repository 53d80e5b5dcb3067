-- What rounds of a job's constraints do to the regions' sets.
use Rattle.std.specs.Prelude.{◌≡◌, true, List, ℕ, ◌≤◌, ◌<◌, length, get_or}
use Rattle.nll_spec.specs.Lists.{Member}
use Rattle.nll_spec.specs.Fixpoint.{Table}
use Rattle.nll_spec.specs.Syntax.{Job, Point, RegionName}
use Rattle.nll_spec.specs.Decode.{point_count}
use Rattle.nll_spec.specs.WellFormed.{refusal}
use Rattle.nll_spec.specs.Graph.{graph_of}
use Rattle.nll_spec.specs.Constraints.{Outlives, constraints_of}
use Rattle.nll_spec.specs.Regions.{EndRule, seed_table, solve, is_grown}
use Rattle.nll_spec.specs.Output.{word_count, words_needed, bit}
use Rattle.bit_set.specs.Bits.{has}
use Rattle.bit_set.specs.Rows.{Says}
use Rattle.record.specs.Layout.{Holds}
use Rattle.graph.specs.Tables.{Edges}
use Rattle.graph.specs.Search.{WalkedIn}
use Rattle.graph.specs.declared.tables.FuncGraph.{FuncGraph}
use Rattle.infer.specs.Search.{rule_of}
use Rattle.infer.specs.Ran.{Words, Given, Ran}
use Rattle.infer.specs.declared.Shape.{Shape}
use Rattle.infer.specs.declared.Setup.{Setup}
use Rattle.absent_regions.specs.Absent.{row_bit}
use Rattle.rerun.specs.Rerun.{setting_of, no_marks, walked_at, constraints_below, Known, Own}

-- No region of a point's row is the inner one of a constraint of the point.
pub record Sound (g : Setup) (absent : List ℕ) : Type 0 where
  pub none : (j : Job) → Known g.graph.now g.shape.code j → (p : Point) (c : Outlives) → p < g.shape.code → Member c (walked_at j p) → has absent (row_bit p c.sub) ≡ true → ⊥

-- The constraints of the first n points are run, from no marks on.
pub record RunsBelow (g : Setup) (last ws ws' grew : List ℕ) (n : ℕ) : Type 0 where
  pub ran : (j : Job) → Known g.graph.now g.shape.code j → Given (setting_of (rule_of g.rule) j) g ws no_marks
      → Ran (setting_of (rule_of g.rule) j) last (constraints_below j n) ws no_marks ws' grew

-- All constraints of a job are run, from no marks on, if those of `recent` are its own.
pub record RoundRuns (g : Setup) (last recent ws ws' grew : List ℕ) : Type 0 where
  pub ran : (j : Job) → Known g.graph.now g.shape.code j → Own j recent → Given (setting_of (rule_of g.rule) j) g ws no_marks
      → Ran (setting_of (rule_of g.rule) j) last (constraints_of j (graph_of j)) ws no_marks ws' grew

-- The marks of the first n regions: 1 where the set has the region, and else 0.
pub record Tells (set marks : List ℕ) (n : ℕ) : Type 0 where
  pub sized : length marks ≡ 128
  pub is : (r : RegionName) → r < n → get_or marks r 0 ≡ bit (has set r)

-- The graph is that of an accepted job, with its shape, and the words say the seeds.
pub record Seeded (graph : FuncGraph) (shape : Shape) (ws : List ℕ) (j : Job) : Type 0 where
  pub layout : Holds graph.input j
  pub accepted : refusal j ≡ 0
  pub edges : Edges (graph_of j) graph.first graph.succ
  pub reached : WalkedIn j graph.walked
  pub width : shape.width ≡ word_count (point_count j)
  pub code : shape.code ≡ (graph_of j).code
  pub points : shape.points ≡ point_count j
  pub fits : Words ws
  pub seeds : Says (word_count (point_count j)) (seed_table j (graph_of j)) ws

-- the regions' least sets
abbrev pub least_sets : EndRule → Job → Table
least_sets ends j = solve ends j (graph_of j) (seed_table j (graph_of j)) (constraints_of j (graph_of j))

-- The words ws' say the least sets, and the marks which declared regions are grown. What follows the sets is as in ws.
pub record Solved (ends : EndRule) (j : Job) (ws ws' marks : List ℕ) : Type 0 where
  pub as_long : length ws' ≡ length ws
  pub fits : Words ws'
  pub says : Says (word_count (point_count j)) (least_sets ends j) ws'
  pub tail : (i : ℕ) → words_needed j ≤ i → get_or ws' i 0 ≡ get_or ws i 0
  pub grown : (r : RegionName) → r < length j.outlives → get_or marks r 0 ≡ bit (is_grown (graph_of j) (seed_table j (graph_of j)) (least_sets ends j) r)
