-- `rerun::turns`. The loop's invariant: more of the job's constraints are run. Assumes nothing.
use Rattle.rerun.proofs.RerunLaws.{more_recent, more_then}
use Rattle.rerun.proofs.turns.Goals as goal

pub loop-preserved : goal.loop-preserved
loop-preserved c = λ to held. more_then (more_then (c.loop.invariant to held) (c.turn-last.ensures to held)) (more_recent c.settle.ensures)
