-- `graph::walked::block_points` meets its contract. Assumes nothing.
use Rattle.graph.proofs.PointLaws.{points_none, points-over, points_unmarked, points-marked}
use Rattle.std.proofs.Common.{rules}
use Rattle.graph.proofs.walked.block_points.Goals as goal

pub returns-then-b-ge64 : goal.returns-then-b-ge64
returns-then-b-ge64 c = points_none _ _ _ _ _ (search rules) c.requires c.if-b-ge64.true

pub returns-then-next-gt1024 : goal.returns-then-next-gt1024
returns-then-next-gt1024 c = points-over _ _ _ _ _ (search rules) c.shape-d.ensures c.requires c.if-next-gt1024.true

pub returns-then-seen-at-eq0 : goal.returns-then-seen-at-eq0
returns-then-seen-at-eq0 c = points_unmarked _ _ _ _ _ (search rules) c.shape-d.ensures c.if-next-gt1024.false c.from-at.ensures c.if-seen-at-eq0.true

pub returns : goal.returns
returns c = points-marked _ _ _ _ _ (search rules) c.shape-d.ensures c.if-next-gt1024.false c.from-at.ensures c.if-seen-at-eq0.false c.run.ensures
