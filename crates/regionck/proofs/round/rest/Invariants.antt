-- `regionck::round::rest`. The loop's invariant: the constraints of the points from `from` on, up to p, are run. Assumes nothing.
use Prim.Native.Nat.{ℕ}
use mathlib.Core.List.{List}
use Rattle.rerun.specs.Rerun.{OwnKept}
use Rattle.regionck.specs.Rounds.{Sound, RunsBelow}
use Rattle.regionck.proofs.round.rest.Given as goal

abbrev pub invariant-loop-p : goal.invariant-loop-p
invariant-loop-p l = ((ws : List ℕ) → RunsBelow l.setup l.last ws l.initial.words l.initial.grew l.from → RunsBelow l.setup l.last ws l.words l.grew l.p) × OwnKept l.setup l.initial.recent l.recent × Sound l.setup l.absent
