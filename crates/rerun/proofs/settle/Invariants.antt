-- `rerun::settle`. The loop's invariant: the constraints of the list were run more often. Assumes nothing.
use Rattle.constraint_list.specs.Listed.{constraints_in}
use Rattle.rerun.specs.Rerun.{RunsAgain}
use Rattle.rerun.proofs.settle.Given as goal

abbrev pub invariant-loop : goal.invariant-loop
invariant-loop l = RunsAgain l.setup (constraints_in l.list) l.initial.words l.initial.grew l.words l.grew
