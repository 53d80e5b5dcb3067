-- `refusals::fits::Around::bound_fits` meets its contract. Assumes nothing.
use Rattle.repr.specs.Reading.{kind_of}
use Rattle.refusals.specs.Fits.{kind_test}
use mathlib.Core.Path.{refl}
use Rattle.refusals.proofs.FitLaws as laws
use Rattle.std.proofs.Common.{rules}
use Rattle.refusals.proofs.fits.Around.bound_fits.Goals as goal

pub returns-then-params-b : goal.returns-then-params-b
returns-then-params-b c = λ ps p. laws.bound_past (kind_test (kind_of c.args.wanted)) ps _ c.if-params-b.true p

pub returns-in_default : goal.returns-in_default
returns-in_default c = λ ps p. laws.bound_short (kind_test (kind_of c.args.wanted)) ps _ _ c.if-params-b.false refl p _ c.parameters.ensures c.in_default.is

pub returns-in-Ok-parameter : goal.returns-in-Ok-parameter
returns-in-Ok-parameter c = λ ps p. laws.bound_kind (kind_test (kind_of c.args.wanted)) ps _ _ c.if-params-b.false refl p _ c.parameters.ensures c.in-Ok.is _ c.parameter.ensures c.in-Ok-parameter.is (search rules)

pub returns-in-Err : goal.returns-in-Err
returns-in-Err c = λ ps p. laws.bound_none (kind_test (kind_of c.args.wanted)) ps _ _ c.if-params-b.false refl p _ c.parameters.ensures c.in-Ok.is _ c.parameter.ensures c.in-Err.is
