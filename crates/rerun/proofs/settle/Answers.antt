-- `rerun::settle`. The loop's invariant: the constraints of the list were run more often. Assumes nothing.
use Rattle.rerun.proofs.RerunLaws.{again_more}
use Rattle.rerun.proofs.settle.Goals as goal

pub loop-preserved : goal.loop-preserved
loop-preserved c = again_more c.loop.invariant c.rerun-last.ensures.0 c.rerun-last.ensures.1
