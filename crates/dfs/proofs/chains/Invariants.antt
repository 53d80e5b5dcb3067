-- `dfs::chains`. The loop's invariant: `Chained`. Assumes nothing.
use mathlib.Core.Path.{◌≡◌}
use lib.ListN.{length}
use Rattle.dfs.specs.Walk.{Chained}
use Rattle.dfs.proofs.chains.Given as goal

abbrev pub invariant-loop-q : goal.invariant-loop-q
invariant-loop-q l = (length l.chain ≡ 32) × Chained l.chain l.graph.first l.graph.succ
