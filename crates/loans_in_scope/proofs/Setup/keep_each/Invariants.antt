-- `loans_in_scope::Setup::keep_each`. The loop's invariant: of the first i loans, those that may pass are in the set. Assumes nothing.
use mathlib.Core.Path.{◌≡◌}
use lib.ListN.{length}
use Rattle.nll_spec.specs.Syntax.{Job}
use Rattle.loans_in_scope.specs.Gains.{Gains}
use Rattle.loans_in_scope.specs.Scope.{paths_of}
use Rattle.loans_in_scope.specs.Filling.{KeptOf}
use Rattle.loans_in_scope.proofs.Setup.keep_each.Given as goal

abbrev pub invariant-loop-i : goal.invariant-loop-i
invariant-loop-i l = (length l.pass ≡ length l.initial.pass) × ((j : Job) → Gains (KeptOf j l.self l.region (paths_of l.self.graph.now.input.bytes.now l.d) l.p l.i) l.initial.pass l.pass)
