-- `refusals::fits::Around::field_fits` meets its contract. Assumes nothing.
use mathlib.Core.Path.{refl}
use Rattle.refusals.proofs.PartLaws.{field-type}
use Rattle.refusals.proofs.fits.Around.field_fits.Goals as goal

pub returns : goal.returns
returns c = λ j ps w. field-type _ _ c.in_ok-ty.ensures (λ t. refl) (c.ty_fits.ensures j ps w)
