-- `regionck::solve`. The loop's invariant: some rounds were run, fewer than `left` bits of the regions are 0, the constraints of `recent` are the job's, and the rows of `absent` are
-- right. Assumes nothing.
use Prim.Native.Nat.{◌-◌}
use Rattle.regionck.specs.Rounds.{Sound}
use Rattle.regionck.proofs.SolvedLaws.{GoingOn, Kept}
use Rattle.regionck.proofs.solve.Given as goal

abbrev pub invariant-loop : goal.invariant-loop
invariant-loop l = Sound l.setup l.absent × Kept l.setup l.initial.words l.recent × GoingOn l.setup l.initial.words l.words l.last l.grew (131073 - l.counter)
