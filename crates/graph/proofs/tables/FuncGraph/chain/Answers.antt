-- `graph::tables::FuncGraph::chain` meets its contract. Assumes nothing.
use mathlib.Core.Path.{refl}
use Rattle.graph.proofs.FillLaws.{chained_none, chained_more}
use Rattle.std.proofs.Common.{rules}
use native.Mathlib.Omega.{arith}
use Rattle.graph.proofs.tables.FuncGraph.chain.Goals as goal

pub loop-i-init : goal.loop-i-init
loop-i-init c = (chained_none _ _ (search rules), refl)

pub loop-i-preserved : goal.loop-i-preserved
loop-i-preserved c = (chained_more c.loop-i.invariant.0 (omega arith) (omega arith), c.loop-i.invariant.1)
