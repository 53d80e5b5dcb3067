-- `graph::tables::FuncGraph::edges` meets its contract. Assumes nothing.
use mathlib.Core.Path.{refl, ◌∙◌}
use Rattle.graph.proofs.EdgeLaws.{rowed_none, rowed_more, rowed_all}
use Rattle.std.proofs.Common.{rules}
use native.Mathlib.Omega.{arith}
use Rattle.graph.proofs.tables.FuncGraph.edges.Goals as goal

pub loop-b-init : goal.loop-b-init
loop-b-init c = (refl, rowed_none _ (search rules))

pub loop-b-preserved : goal.loop-b-preserved
loop-b-preserved c = (c.block-at.ensures.1 ∙ c.loop-b.invariant.0, rowed_more _ c.loop-b.invariant.1 (omega arith) c.loop-b.invariant.0 c.block-at.ensures.0)

pub returns : goal.returns
returns c = (c.loop-b.invariant.0, λ j w n p. rowed_all _ c.loop-b.invariant.1 (omega arith) j (record { layout = w; named = n; points = p }))
