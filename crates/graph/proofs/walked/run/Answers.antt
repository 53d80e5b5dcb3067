-- `graph::walked::run` meets its contract. Assumes nothing.
use Rattle.graph.proofs.PointLaws.{running_none}
use Rattle.graph.proofs.walked.run.Goals as goal

pub loop-i-init : goal.loop-i-init
loop-i-init c = running_none _ _
