use Rattle.env.specs.Prefixes.{ShortestIn}
use Rattle.env.proofs.prefixes.shortest.Given as goal

abbrev pub invariant-loop-i : goal.invariant-loop-i
invariant-loop-i l = ShortestIn l.kinds l.i l.r
