-- `graph::tables::FuncGraph::chain` meets its contract. Assumes nothing.
use mathlib.Core.Path.{◌≡◌}
use Rattle.graph.specs.Filling.{Chained}
use Rattle.graph.proofs.tables.FuncGraph.chain.Given as goal

abbrev pub invariant-loop-i : goal.invariant-loop-i
invariant-loop-i l = Chained l.p l.i l.k l.initial.self.first l.initial.self.succ l.self.first l.self.succ × (l.self.input ≡ l.initial.self.input)
