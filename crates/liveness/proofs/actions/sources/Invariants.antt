-- `liveness::actions::sources`. The loop's invariant: what is left to read is what is left to put in. Assumes nothing.
use Rattle.liveness.proofs.NeedLaws.{Sourcing}
use Rattle.liveness.proofs.actions.sources.Given as goal

abbrev pub invariant-loop : goal.invariant-loop
invariant-loop l = Sourcing l.s l.initial.c l.count l.c l.counter l.p l.initial.sets l.sets
