-- `well_formed::paths::sources_fit` meets its contract. Assumes nothing.
use Rattle.std.proofs.Common.{rules}
use Rattle.refusals.proofs.RowLaws.{along_passes, only_test}
use Rattle.well_formed.proofs.paths.sources_fit.Goals as goal

pub returns : goal.returns
returns c = λ j w. only_test (along_passes _ _ _ (λ d r p. search rules) c.each.ensures) c.is_ok.ensures.value
