-- `flow::Ways::round`. The loop's invariant: the edges of the first i points are run. Assumes nothing.
use mathlib.Core.Path.{◌≡◌}
use lib.ListN.{length}
use Rattle.flow.specs.Running.{Ran, Rows}
use Rattle.flow.proofs.Ways.round.Given as goal

abbrev pub invariant-loop-i : goal.invariant-loop-i
invariant-loop-i l = (length l.sets ≡ length l.initial.sets) × Ran (Rows l.self.direction l.self.code l.self.graph.now.first l.self.graph.now.succ l.i) l.self.pass.now l.initial.sets l.sets l.changed
