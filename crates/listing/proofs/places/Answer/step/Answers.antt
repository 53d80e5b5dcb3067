-- `listing::places::Answer::step` meets its contract. Assumes nothing.
use native.Mathlib.Omega.{arith}
use Rattle.nll_spec.specs.Listing.{ascii, line}
use Rattle.listing.proofs.PlaceLaws.{steps_as, at_points}
use Rattle.listing.proofs.places.Answer.step.Goals as goal

pub returns-in-Points : goal.returns-in-Points
unfolding ascii line
returns-in-Points c = steps_as c.in-Points.is (at_points c.args.self.now (omega arith) c.line.ensures)
