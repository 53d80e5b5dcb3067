-- `graph::walked::blocks` meets its contract. Assumes nothing.
use mathlib.Core.Path.{ap, ◌∙◌}
use Rattle.graph.specs.Search.{visited}
use Rattle.graph.proofs.SearchLaws.{roomy_none}
use Rattle.graph.proofs.WalkLaws.{turned_none, turned_more, turned_less, turned_all, popped_roomy, popped_visits, popped_says}
use Rattle.graph.proofs.walked.blocks.Goals as goal

pub visit-requires : goal.visit-requires
visit-requires c = rw c.new-search.ensures roomy_none

pub loop-b-init : goal.loop-b-init
loop-b-init c = turned_none _ _ c.args.start.0 (c.visit.ensures ∙ ap (visited c.args.start.0) c.new-search.ensures)

pub visit_next-requires : goal.visit_next-requires
visit_next-requires c = popped_roomy c.in-Some.ensures c.loop-b.invariant.roomy

pub loop-b-smaller : goal.loop-b-smaller
loop-b-smaller c = turned_less c.loop-b.invariant c.in-Some.ensures.0 c.shape-d.result (popped_visits c.in-Some.ensures _ c.visit_next.ensures)

pub loop-b-preserved : goal.loop-b-preserved
loop-b-preserved c = turned_more c.loop-b.invariant c.in-Some.ensures.0 c.shape-d.result (popped_visits c.in-Some.ensures _ c.visit_next.ensures) (popped_says c.in-Some.ensures _ _ _ c.shape-d.ensures)

pub returns : goal.returns
returns c = turned_all c.loop-b.invariant c.in_default.ensures (c.visit.ensures ∙ ap (visited c.args.start.0) c.new-search.ensures)
