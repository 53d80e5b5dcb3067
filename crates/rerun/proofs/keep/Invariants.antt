-- `rerun::keep`. The loop's invariant: the first i words are kept. Assumes nothing.
use Rattle.rerun.specs.Rerun.{Keeps}
use Rattle.rerun.proofs.keep.Given as goal

abbrev pub invariant-loop-i : goal.invariant-loop-i
invariant-loop-i l = Keeps l.words l.initial.before l.before l.i
