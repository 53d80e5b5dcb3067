-- `rerun::turns`. The loop's invariant: more of the job's constraints are run. Assumes nothing.
use Rattle.nll_spec.specs.Syntax.{Point}
use Rattle.rerun.specs.Rerun.{Holding, RunsMore}
use Rattle.rerun.proofs.turns.Given as goal

abbrev pub invariant-loop : goal.invariant-loop
invariant-loop l = (to : Point) → Holding l.setup l.list 0 to → RunsMore l.setup l.initial.recent l.initial.words l.initial.grew l.recent l.words l.grew
