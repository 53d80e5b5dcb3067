-- `graph::tables::FuncGraph::edges` meets its contract. Assumes nothing.
use mathlib.Core.Path.{◌≡◌}
use Rattle.graph.proofs.EdgeLaws.{Rowed}
use Rattle.graph.proofs.tables.FuncGraph.edges.Given as goal

abbrev pub invariant-loop-b : goal.invariant-loop-b
invariant-loop-b l = (l.self.input ≡ l.initial.self.input) × Rowed l.initial.self.input l.b l.at l.self.first l.self.succ
