-- `refusals::parts::variable_named` meets its contract. Assumes nothing.
use Rattle.refusals.proofs.RowLaws.{variables-row, sized, row-item, only_test}
use Rattle.refusals.proofs.parts.variable_named.Goals as goal

pub returns : goal.returns
returns c = λ j w l. row-item (variables-row w) l c.variable_at.ensures (only_test (c.ty_named.ensures j (sized w)) c.is_ok.ensures.value)
