-- `graph::walked::visit_next` meets its contract. Assumes nothing.
use Rattle.graph.proofs.SearchLaws.{visiting_none, visiting_more, visiting_all}
use Rattle.graph.proofs.walked.visit_next.Goals as goal

pub loop-b-init : goal.loop-b-init
loop-b-init c = visiting_none _ c.requires

pub visit-requires : goal.visit-requires
visit-requires c = c.loop-b.invariant.roomy

pub loop-b-preserved : goal.loop-b-preserved
loop-b-preserved c = visiting_more c.loop-b.invariant c.loop-b-test.true c.visit.ensures

pub returns : goal.returns
returns c = visiting_all c.loop-b.invariant c.loop-b-test.false
