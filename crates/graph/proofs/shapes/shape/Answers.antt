-- `graph::shapes::shape` meets its contract. Assumes nothing.
use Rattle.graph.proofs.ShapeLaws.{shape_none, shape_block, shape_at}
use Rattle.std.proofs.Common.{rules}
use Rattle.graph.proofs.shapes.shape.Goals as goal

pub returns-in-Err : goal.returns-in-Err
returns-in-Err c = shape_at c.block_at.ensures (shape_none c.block.ensures c.in-Err.is (search rules))

pub returns-in-Ok : goal.returns-in-Ok
returns-in-Ok c = shape_at c.block_at.ensures (shape_block c.block.ensures c.in-Ok.is c.listed.ensures)
