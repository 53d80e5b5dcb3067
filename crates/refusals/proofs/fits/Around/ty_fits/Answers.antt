-- `refusals::fits::Around::ty_fits` meets its contract. Assumes nothing.
use Rattle.repr.proofs.ReadLaws.{passed_on}
use Rattle.refusals.proofs.WalkLaws as walks
use Rattle.refusals.proofs.fits.Around.ty_fits.Goals as goal

pub returns-in_err-type_fits : goal.returns-in_err-type_fits
returns-in_err-type_fits c = rw (passed_on c.from_residual.ensures) (λ j ps w. walks.whole-fails (c.type_fits.ensures.walks j ps w) c.in_err-type_fits.was)

pub returns : goal.returns
returns c = λ j ps w. walks.whole-passes (c.type_fits.ensures.walks j ps w) c.in_ok-type_fits.was
