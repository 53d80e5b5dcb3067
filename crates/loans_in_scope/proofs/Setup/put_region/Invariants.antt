-- `loans_in_scope::Setup::put_region`. The loop's invariant: the points of the first k words have been put. Assumes nothing.
use Prim.Native.Nat.{◌*◌}
use Rattle.loans_in_scope.specs.Gains.{Gains}
use Rattle.loans_in_scope.proofs.LoanLaws.{RegionPart}
use Rattle.loans_in_scope.proofs.Setup.put_region.Given as goal

abbrev pub invariant-loop-k : goal.invariant-loop-k
invariant-loop-k l = Gains (RegionPart l.self.words.now l.start l.self.code l.i (32 * l.k)) l.initial.sets l.sets
