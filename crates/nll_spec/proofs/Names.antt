-- Names for the tables that a job's answer is made of.
-- Assumes nothing.
use Rattle.nll_spec.specs.Fixpoint.{Table}
use Rattle.nll_spec.specs.Syntax.{Job}
use Rattle.nll_spec.specs.Graph.{graph_of}
use Rattle.nll_spec.specs.Constraints.{constraints_of}
use Rattle.nll_spec.specs.Regions.{EndRule, seed_table, solve}
use Rattle.nll_spec.specs.Loans.{loans_of, scope_table}

-- the regions' sets
abbrev pub sets_of : EndRule → Job → Table
sets_of ends j = solve ends j (graph_of j) (seed_table j (graph_of j)) (constraints_of j (graph_of j))

-- the loans in scope
abbrev pub scope_of : EndRule → Job → Table
scope_of ends j = scope_table j (graph_of j) (sets_of ends j) (loans_of (graph_of j))
