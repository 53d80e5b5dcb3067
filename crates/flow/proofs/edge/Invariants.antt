-- `flow::edge`. The loop's invariant: the first k words are done, and the others of p are as they were read. Assumes nothing.
use Rattle.flow.specs.Running.{Ran, Lanes}
use Rattle.flow.proofs.RunningLaws.{Unchanged}
use Rattle.flow.proofs.edge.Given as goal

abbrev pub invariant-loop-k : goal.invariant-loop-k
invariant-loop-k l = Ran (Lanes l.k l.p l.q) l.pass l.initial.sets l.sets l.changed × Unchanged l.sets l.from l.p l.k
