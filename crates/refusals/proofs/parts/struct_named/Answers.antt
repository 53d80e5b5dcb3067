-- `refusals::parts::struct_named` meets its contract. Assumes nothing.
use Rattle.std.proofs.Common.{rules}
use Rattle.refusals.proofs.RowLaws.{along_passes, only_test, fields_tested, sized}
use Rattle.refusals.proofs.parts.struct_named.Goals as goal

pub returns : goal.returns
returns c = λ j w. let z = sized w in fields_tested _ (c.struct_decl_at-d.ensures j w) (only_test (along_passes _ _ _ (λ d r p. search rules) c.each.ensures) c.is_ok.ensures.value)
