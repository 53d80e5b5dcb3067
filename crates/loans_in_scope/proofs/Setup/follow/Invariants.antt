-- `loans_in_scope::Setup::follow`. The loop's invariant: the points so far have what leaves p. Assumes nothing.
use Prim.Native.Nat.{◌+◌}
use mathlib.Core.Path.{◌≡◌}
use lib.ListN.{length}
use Rattle.graph.specs.Tables.{row_start}
use Rattle.loans_in_scope.specs.Gains.{Gains, Leaving}
use Rattle.loans_in_scope.proofs.Setup.follow.Given as goal

abbrev pub invariant-loop-s : goal.invariant-loop-s
invariant-loop-s l =
    (length l.scope ≡ length l.initial.scope) × Gains (Leaving l.from l.self.code l.self.graph.now.first l.self.graph.now.succ l.p (row_start l.self.graph.now.first l.p + l.s-index)) l.initial.scope l.scope
