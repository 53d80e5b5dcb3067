-- `refusals::types_fit` meets its contract. Assumes nothing.
use mathlib.Core.Path.{refl}
use Rattle.nll_spec.specs.WellFormed.{types_fit, variables_fit}
use Rattle.refusals.proofs.PartLaws.{both_done, one-done}
use Rattle.refusals.proofs.types_fit.Goals as goal

pub returns-then-structs_fit : goal.returns-then-structs_fit
unfolding types_fit
returns-then-structs_fit c = λ j w. both_done (c.structs_fit.ensures j w) c.if-structs_fit.true refl (c.variables_fit.ensures j w)

pub returns-else-structs_fit : goal.returns-else-structs_fit
unfolding types_fit
returns-else-structs_fit c = λ j w. one-done (c.structs_fit.ensures j w) (variables_fit j) c.if-structs_fit.false refl
