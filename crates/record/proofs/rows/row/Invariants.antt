-- `record::rows::row` meets its contract. Assumes nothing.
use Rattle.record.proofs.RowLaws.{Rowing}
use Rattle.record.specs.Rows.{Part, Ends}
use Rattle.record.proofs.rows.row.Given as goal

abbrev pub invariant-loop-entry : goal.invariant-loop-entry
invariant-loop-entry g l = (part : Part) → Ends part (goal.F-post g l.end) → Rowing part l.s l.initial.c l.c l.count l.entry-index l.entry-items
