-- `loans_in_scope::Setup::gather`. The loop's invariant: what leaves the first p points has gone on. Assumes nothing.
use mathlib.Core.Path.{◌≡◌}
use lib.ListN.{length}
use Rattle.loans_in_scope.specs.Gains.{Gains, Rows}
use Rattle.loans_in_scope.proofs.Setup.gather.Given as goal

abbrev pub invariant-loop-p : goal.invariant-loop-p
invariant-loop-p l = (length l.scope ≡ length l.initial.scope) × Gains (Rows l.from l.self.code l.self.graph.now.first l.self.graph.now.succ l.p) l.initial.scope l.scope
