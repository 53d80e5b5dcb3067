-- `seeds::declared::listed` meets its contract. Assumes nothing.
use Rattle.seeds.proofs.ClosureLaws.{listed_refused, listed_row}
use Rattle.seeds.proofs.declared.listed.Goals as goal

pub returns-in-Ok : goal.returns-in-Ok
returns-in-Ok c = listed_row c.args.input.now _ _ c.outlives_at-at.ensures _ c.count.ensures _ c.args.rows.now _ c.in-Ok.is c.from-row.ensures c.add.ensures.0 c.add_bytes.ensures

pub returns-in_default : goal.returns-in_default
returns-in_default c = listed_refused c.args.input.now _ _ c.outlives_at-at.ensures _ c.count.ensures _ _ c.in_default.is
