-- `listing::places::Answer::at_region` meets its contract. Assumes nothing.
use native.Mathlib.Omega.{arith}
use Rattle.nll_spec.specs.Listing.{ascii}
use Rattle.buffer.proofs.AppendLaws.{appends_then}
use Rattle.listing.proofs.PlaceLaws.{region_over, region_line}
use Rattle.listing.proofs.places.Answer.at_region.Goals as goal

pub returns-then-r-self : goal.returns-then-r-self
returns-then-r-self c = region_over c.args.self.now c.args.r c.if-r-self.true

pub returns : goal.returns
unfolding ascii
returns c =
    region_line c.args.self.now c.args.r c.if-r-self.false (omega arith) (omega arith) (rw c.from.ensures at (appends_then (c.put.ensures.fits (omega arith)) c.spaced.ensures))
