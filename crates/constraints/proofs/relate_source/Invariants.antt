-- `constraints::relate_source`. The loop's invariant: the constraints of the first i steps are added. Assumes nothing.
use Rattle.env.specs.Steps.{kinds_of, names_of}
use Rattle.constraint_list.specs.Listed.{Adds}
use Rattle.constraints.specs.Constraining.{source_constraints}
use Rattle.constraints.proofs.relate_source.Given as goal

abbrev pub invariant-loop-i : goal.invariant-loop-i
invariant-loop-i l = Adds (source_constraints l.at (kinds_of l.taken) (names_of l.taken) l.of.supporting l.of.region.0 l.i) l.initial.list l.list
