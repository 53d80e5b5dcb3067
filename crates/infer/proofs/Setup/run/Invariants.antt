-- `infer::Setup::run`. The loop's invariant: the first i constraints are run, and what is drawn is of them. Assumes nothing.
use Rattle.constraint_list.specs.Listed.{first_in, Draws}
use Rattle.infer.specs.Ran.{Runs}
use Rattle.infer.proofs.Setup.run.Given as goal

abbrev pub invariant-loop-i : goal.invariant-loop-i
invariant-loop-i l =
    Runs l.self l.last (first_in l.list l.i) l.initial.words l.initial.grew l.words l.grew × Draws (first_in l.list l.i) l.initial.recent l.recent
