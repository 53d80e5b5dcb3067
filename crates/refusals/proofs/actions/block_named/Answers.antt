-- `refusals::actions::block_named` meets its contract. Assumes nothing.
use Rattle.std.proofs.Common.{rules}
use Rattle.refusals.proofs.PartLaws.{block_refused, block-fails, block-actions}
use Rattle.refusals.proofs.RowLaws.{along_passes, only_test, blocks-row, sized, row-item}
use Rattle.refusals.proofs.actions.block_named.Goals as goal

pub returns-in_default : goal.returns-in_default
returns-in_default c = λ j w l. row-item (blocks-row w) l c.block_at.ensures (block_refused c.block.ensures c.in_default.is j (sized w))

pub returns-then-all_below : goal.returns-then-all_below
returns-then-all_below c = λ j w l.
    let z = sized w in
    row-item (blocks-row w) l c.block_at.ensures (block-actions c.block.ensures c.in-Ok.is c.all_below.ensures j z c.if-all_below.true (only_test (along_passes _ _ _ (λ d r p. search rules) c.each.ensures) c.is_ok.ensures.value))

pub returns-else-all_below : goal.returns-else-all_below
returns-else-all_below c = λ j w l. row-item (blocks-row w) l c.block_at.ensures (block-fails c.block.ensures c.in-Ok.is c.all_below.ensures j (sized w) c.if-all_below.false)
