-- `graph::tables::FuncGraph::end` meets its contract. Assumes nothing.
use Prim.Native.Nat.{ℕ}
use lib.ListN.{get_or}
use mathlib.Core.Path.{◌≡◌}
use Rattle.graph.proofs.FillLaws.{Ending}
use Rattle.graph.proofs.tables.FuncGraph.end.Given as goal

abbrev pub invariant-loop-i : goal.invariant-loop-i
invariant-loop-i l =
    (l.self.input ≡ l.initial.self.input) × (l.self.first ≡ l.initial.self.first)
    × Ending (λ (b : ℕ). get_or l.initial.self.input.layout.now.first b 0) l.successors l.i l.k l.initial.self.succ l.self.succ
