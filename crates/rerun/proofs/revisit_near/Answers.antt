-- `rerun::revisit_near`. The loop's invariant: more of the job's constraints are run. Assumes nothing.
use Rattle.rerun.proofs.RerunLaws.{more_then}
use Rattle.rerun.proofs.revisit_near.Goals as goal

pub loop-p-preserved : goal.loop-p-preserved
loop-p-preserved c = more_then c.loop-p.invariant c.revisit.ensures
