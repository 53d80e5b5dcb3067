-- `borrowck::accesses::Accesses::with_sources` meets its contract. Assumes nothing.
use Rattle.borrowck.specs.Accesses.{writing}
use Rattle.borrowck.proofs.AccessLaws.{Sourcing}
use Rattle.borrowck.proofs.accesses.Accesses.with_sources.Given as goal

abbrev pub invariant-loop-i : goal.invariant-loop-i
invariant-loop-i l = Sourcing l.s (writing l.fn.dest) l.initial.c.at l.many l.c.at l.i l.list
