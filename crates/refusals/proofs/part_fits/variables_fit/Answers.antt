-- `refusals::part_fits::variables_fit` meets its contract. Assumes nothing.
use Rattle.std.proofs.Common.{rules}
use Rattle.std.proofs.lemmas.Iterator.{YieldsList-from_range}
use native.Mathlib.Omega.{arith}
use mathlib.Core.Path.{refl}
use Rattle.nll_spec.specs.Syntax.{UnitTy}
use Rattle.nll_spec.specs.WellFormed.{variables_fit}
use Rattle.refusals.proofs.RowLaws.{every_all}
use Rattle.refusals.proofs.part_fits.variables_fit.Goals as goal

pub returns : goal.returns
unfolding variables_fit
returns c = λ j w. every_all UnitTy w.variable_count _ _ c.all.result c.all.ensures.ran (YieldsList-from_range 0 _ _ refl (omega arith)) (λ k b q p. search rules)
