-- `rerun::revisit_near`. The loop's invariant: more of the job's constraints are run. Assumes nothing.
use Rattle.rerun.specs.Rerun.{RunsMore}
use Rattle.rerun.proofs.revisit_near.Given as goal

abbrev pub invariant-loop-p : goal.invariant-loop-p
invariant-loop-p l = RunsMore l.setup l.initial.recent l.initial.words l.initial.grew l.recent l.words l.grew
