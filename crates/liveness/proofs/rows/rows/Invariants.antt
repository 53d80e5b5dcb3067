-- `liveness::rows::rows`. The loop's invariant: the points below p are done. Assumes nothing.
use mathlib.Core.Path.{◌≡◌}
use lib.ListN.{length}
use Rattle.liveness.specs.Needs.{start_of}
use Rattle.liveness.specs.Rows.{Columns}
use Rattle.liveness.proofs.rows.rows.Given as goal

abbrev pub invariant-loop-p : goal.invariant-loop-p
invariant-loop-p l = (length l.rows ≡ length l.initial.rows) × Columns l.width l.fn.graph.input.head.variables l.p (start_of l.half) l.graph.walked l.sets l.rows
