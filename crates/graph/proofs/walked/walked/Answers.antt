-- `graph::walked::walked` meets its contract. Assumes nothing.
use Rattle.graph.proofs.PointLaws.{pointed_none, pointed_more, pointed_walked}
use Rattle.std.proofs.Common.{rules}
use native.Mathlib.Omega.{arith}
use Rattle.graph.proofs.walked.walked.Goals as goal

pub loop-b-init : goal.loop-b-init
loop-b-init c = pointed_none _ _ _ _ c.args.words.now (search rules) c.clear.ensures

pub loop-b-preserved : goal.loop-b-preserved
loop-b-preserved c = pointed_more _ _ _ _ c.loop-b.invariant (omega arith) c.block_points-p.ensures

pub returns : goal.returns
returns c = pointed_walked _ _ _ _ c.loop-b.invariant (omega arith) c.blocks-seen.ensures
