-- `flow::Ways::run`. The loop's invariant: the sets came about by edges. The measure is the number of 0 bits. Assumes nothing.
use Rattle.bit_set.specs.Missing.{missing}
use Rattle.flow.specs.Running.{Since, Rows}
use Rattle.flow.proofs.Ways.run.Given as goal

abbrev pub invariant-loop : goal.invariant-loop
invariant-loop l = Since (Rows l.self.direction l.self.code l.self.graph.now.first l.self.graph.now.succ l.self.code) l.self.pass.now l.initial.sets l.sets

abbrev pub decreases-loop : goal.decreases-loop
decreases-loop l = missing l.sets
