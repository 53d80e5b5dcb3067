use Rattle.bit_set.proofs.RunLaws.{Joining}
use Rattle.bit_set.proofs.union_from.Given as goal

abbrev pub invariant-loop-i : goal.invariant-loop-i
invariant-loop-i l = Joining l.initial.words l.dst l.from l.src l.n l.words l.changed l.i
