-- `graph::walked::visit_next` meets its contract. Assumes nothing.
use Rattle.graph.proofs.SearchLaws.{Visiting}
use Rattle.graph.specs.Search.{state_of}
use Rattle.graph.proofs.walked.visit_next.Given as goal

abbrev pub invariant-loop-b : goal.invariant-loop-b
invariant-loop-b l = Visiting l.successors l.b-index (state_of l.initial.search) (state_of l.search)
