-- What it does to the regions' sets, and to the marks of those that grew, to run a job's constraints again.
use Rattle.std.specs.Prelude.{◌≡◌, cond, List, [], ◌++◌, ℕ, ◌≤◌, ◌<◌, length, get_or, replicate}
use Rattle.nll_spec.specs.Lists.{gather, select, below, Member}
use Rattle.nll_spec.specs.Syntax.{Job, Point}
use Rattle.nll_spec.specs.Decode.{point_count}
use Rattle.nll_spec.specs.WellFormed.{refusal}
use Rattle.nll_spec.specs.Graph.{graph_of, action_at, is_walked}
use Rattle.nll_spec.specs.Constraints.{Outlives, constraints_at, constraints_of}
use Rattle.nll_spec.specs.Regions.{EndRule}
use Rattle.nll_spec.specs.Output.{word_count}
use Rattle.record.specs.Layout.{Holds}
use Rattle.graph.specs.Search.{WalkedIn}
use Rattle.graph.specs.declared.tables.FuncGraph.{FuncGraph}
use Rattle.infer.specs.Search.{rule_of}
use Rattle.infer.specs.Ran.{Setting, Given, AllNamed, Ran}
use Rattle.infer.specs.declared.Setup.{Setup}
use Rattle.constraint_list.specs.Listed.{constraints_in, Adds}

-- what the constraints of a job are run in
abbrev pub setting_of : EndRule → Job → Setting
setting_of ends j = record { ends = ends; graph = graph_of j; regions = j.regions; width = word_count (point_count j) }

-- the marks before a round
abbrev pub no_marks : List ℕ
no_marks = replicate 4 0

-- the constraints of a point, if its block is walked
abbrev pub walked_at : Job → Point → List Outlives
walked_at j p = cond (is_walked (graph_of j) p) (constraints_at j p (action_at (graph_of j) p)) []

-- the constraints of the first n points
abbrev pub constraints_below : Job → ℕ → List Outlives
constraints_below j n = gather (λ p. constraints_at j p (action_at (graph_of j) p)) (select (is_walked (graph_of j)) (below n))

-- The graph is that of an accepted job, and `code` points are of its blocks.
pub record Known (graph : FuncGraph) (code : ℕ) (j : Job) : Type 0 where
  pub layout : Holds graph.input j
  pub accepted : refusal j ≡ 0
  pub reached : WalkedIn j graph.walked
  pub points : code ≡ (graph_of j).code

-- The constraints of a point are added, if its block is walked.
pub record PointAdds (graph : FuncGraph) (p : Point) (ls ls' : List ℕ) : Type 0 where
  pub adds : (j : Job) (code : ℕ) → Known graph code j → p < code → Adds (walked_at j p) ls ls'

-- The list has the constraints of the points from `from` on and below `to`.
pub record Holding (g : Setup) (ls : List ℕ) (from to : Point) : Type 0 where
  pub within : to ≤ g.shape.code
  pub holds : (j : Job) → Known g.graph.now g.shape.code j → constraints_below j from ++ constraints_in ls ≡ constraints_below j to

-- Each constraint of the list is one of the job's.
abbrev pub Own : Job → List ℕ → Type 0
Own j ls = (c : Outlives) → Member c (constraints_in ls) → Member c (constraints_of j (graph_of j))

-- The constraints of ls' are the job's if those of ls are.
pub record OwnKept (g : Setup) (ls ls' : List ℕ) : Type 0 where
  pub kept : (j : Job) → Known g.graph.now g.shape.code j → Own j ls → Own j ls'

-- The constraints cs are run again, any number of times: what was a run of constraints with cs among them, from no marks on, stays one.
pub record RunsAgain (g : Setup) (cs : List Outlives) (ws grew ws' grew' : List ℕ) : Type 0 where
  pub ran : (s : Setting) (last : List ℕ) (ds : List Outlives) (ws₀ : List ℕ) → Given s g ws₀ no_marks → AllNamed s ds
      → ((c : Outlives) → Member c cs → Member c ds) → Ran s last ds ws₀ no_marks ws grew → Ran s last ds ws₀ no_marks ws' grew'

-- More of the job's constraints are run, if those of `recent` are its own: what was a run of all of them, from no marks on, stays one. What comes to `recent` is the job's too.
pub record RunsMore (g : Setup) (recent ws grew recent' ws' grew' : List ℕ) : Type 0 where
  pub ran : (j : Job) → Known g.graph.now g.shape.code j → Own j recent → (last ws₀ : List ℕ) → Given (setting_of (rule_of g.rule) j) g ws₀ no_marks
      → Ran (setting_of (rule_of g.rule) j) last (constraints_of j (graph_of j)) ws₀ no_marks ws grew → Ran (setting_of (rule_of g.rule) j) last (constraints_of j (graph_of j)) ws₀ no_marks ws' grew'
  pub own : OwnKept g recent recent'

-- The first n words of `before` become those of ws.
pub record Keeps (ws before before' : List ℕ) (n : ℕ) : Type 0 where
  pub as_long : length before' ≡ length before
  pub same : (i : ℕ) → i < n → get_or before' i 0 ≡ get_or ws i 0
