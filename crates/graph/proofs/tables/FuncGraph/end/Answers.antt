-- `graph::tables::FuncGraph::end` meets its contract. Assumes nothing.
use mathlib.Core.Path.{sym}
use Rattle.graph.proofs.FillLaws.{ending_all, ending_more}
use Rattle.std.proofs.Common.{rules}
use native.Mathlib.Omega.{arith}
use Rattle.graph.proofs.tables.FuncGraph.end.Goals as goal

pub returns : goal.returns
returns c = (
  rw c.loop-i.invariant.1 (ending_all c.loop-i.invariant.2 (omega arith) c.requires.0 c.requires.1 (omega arith) (search rules)),
  c.loop-i.invariant.0,
)

pub loop-i-preserved : goal.loop-i-preserved
loop-i-preserved c = (
  c.loop-i.invariant.0,
  c.loop-i.invariant.1,
  ending_more c.loop-i.invariant.2 (omega arith) (omega arith) (rw (sym c.loop-i.invariant.0) c.first_point.ensures),
)
