-- `graph::walked::run` meets its contract. Assumes nothing.
use Rattle.graph.proofs.PointLaws.{Running}
use Rattle.graph.proofs.walked.run.Given as goal

abbrev pub invariant-loop-i : goal.invariant-loop-i
invariant-loop-i l = Running l.p l.i l.initial.words l.words
