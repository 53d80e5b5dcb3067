-- `refusals::parts::outlived_named` meets its contract. Assumes nothing.
use Rattle.refusals.proofs.RowLaws.{outlives-row, sized, row-item}
use Rattle.refusals.proofs.PartLaws.{outlived_refused, outlived_row, outlived_declared}
use Rattle.refusals.proofs.parts.outlived_named.Goals as goal

pub returns-in-Ok : goal.returns-in-Ok
returns-in-Ok c = λ j w l. row-item (outlives-row w) l c.outlives_at.ensures (outlived_declared (sized w) (outlived_row _ c.count.ensures c.in-Ok.is c.all_below.ensures))

pub returns-in-Err : goal.returns-in-Err
returns-in-Err c = λ j w l. row-item (outlives-row w) l c.outlives_at.ensures (outlived_declared (sized w) (outlived_refused _ c.count.ensures c.in-Err.is))
