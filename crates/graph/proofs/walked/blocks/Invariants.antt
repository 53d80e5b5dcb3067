-- `graph::walked::blocks` meets its contract. Assumes nothing.
use Rattle.graph.proofs.SearchLaws.{work}
use Rattle.graph.proofs.WalkLaws.{Turned}
use Rattle.graph.specs.Search.{state_of}
use Rattle.graph.proofs.walked.blocks.Given as goal

abbrev pub invariant-loop-b : goal.invariant-loop-b
invariant-loop-b l = Turned l.input.bytes.now l.input.layout.now (state_of l.initial.search) (state_of l.search)

abbrev pub decreases-loop-b : goal.decreases-loop-b
decreases-loop-b l = work (state_of l.search)
