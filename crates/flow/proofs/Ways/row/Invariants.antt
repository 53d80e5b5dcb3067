-- `flow::Ways::row`. The loop's invariant: the edges to the points so far are run. Assumes nothing.
use Prim.Native.Nat.{◌+◌}
use mathlib.Core.Path.{◌≡◌}
use lib.ListN.{length}
use Rattle.graph.specs.Tables.{row_start}
use Rattle.flow.specs.Running.{Ran, Leaving}
use Rattle.flow.proofs.Ways.row.Given as goal

abbrev pub invariant-loop-s : goal.invariant-loop-s
invariant-loop-s l =
    (length l.sets ≡ length l.initial.sets)
    × Ran (Leaving l.self.direction l.self.code l.fn.self.graph.now.first l.fn.self.graph.now.succ l.p (row_start l.fn.self.graph.now.first l.p + l.s-index)) l.self.pass.now l.initial.sets l.sets l.changed
