-- `graph::walked::walked` meets its contract. Assumes nothing.
use Rattle.graph.proofs.PointLaws.{Pointed}
use Rattle.graph.proofs.walked.walked.Given as goal

abbrev pub invariant-loop-b : goal.invariant-loop-b
invariant-loop-b l = Pointed l.input.bytes.now l.input.layout.now l.seen l.input.head l.b l.p l.words
