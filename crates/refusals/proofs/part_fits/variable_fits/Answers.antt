-- `refusals::part_fits::variable_fits` meets its contract. Assumes nothing.
use mathlib.Core.Path.{refl}
use mathlib.Core.List.{[]}
use Rattle.refusals.proofs.FitLaws.{alone}
use Rattle.refusals.proofs.RowLaws.{variables-row, row-item, only_test}
use Rattle.refusals.proofs.part_fits.variable_fits.Goals as goal

pub returns : goal.returns
returns c = λ j w l. row-item (variables-row w) l c.variable_at-c.ensures (only_test (c.ty_fits.ensures j [] (alone refl w)) c.is_ok.ensures.value)
