-- `graph::tables::FuncGraph::block` meets its contract. Assumes nothing.
use mathlib.Core.Path.{refl, ◌∙◌}
use Rattle.graph.proofs.EdgeLaws.{no_point_lem, no_entry, block-rows}
use Rattle.std.proofs.Common.{rules}
use Rattle.graph.proofs.tables.FuncGraph.block.Goals as goal

pub returns-then-end_point-ge1024 : goal.returns-then-end_point-ge1024
returns-then-end_point-ge1024 c = (no_point_lem c.args.self.now.input _ _ (search rules) c.requires c.shape-d.ensures c.if-end_point-ge1024.true, refl)

pub returns-then-end_entry-d-gt1536 : goal.returns-then-end_entry-d-gt1536
returns-then-end_entry-d-gt1536 c = (no_entry c.args.self.now.input _ _ (search rules) c.requires c.shape-d.ensures c.if-end_entry-d-gt1536.true, refl)

pub returns : goal.returns
returns c = (
  block-rows _ _ _ (search rules) c.requires c.shape-d.ensures c.if-end_point-ge1024.false c.if-end_entry-d-gt1536.false c.chain.ensures.1 c.chain.ensures.0 c.end.ensures.0,
  c.end.ensures.1 ∙ c.chain.ensures.1,
)
