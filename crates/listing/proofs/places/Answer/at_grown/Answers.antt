-- `listing::places::Answer::at_grown` meets its contract. Assumes nothing.
use native.Mathlib.Omega.{arith}
use Rattle.nll_spec.specs.Listing.{ascii, line}
use Rattle.listing.proofs.PlaceLaws.{grown_over, grown_none, grown_line}
use Rattle.listing.proofs.places.Answer.at_grown.Goals as goal
use Rattle.listing.proofs.places.Answer.at_grown.Goals.{then-get_or-ne0, else-get_or-ne0}

pub returns-then-r-self : goal.returns-then-r-self
returns-then-r-self c = grown_over c.args.self.now c.args.r c.if-r-self.true

pub returns : goal.returns
unfolding ascii line
returns c =
    let byte = rw (c.from.ensures, c.from-2.ensures) at c.get_or.ensures in
    elim c.if-get_or-ne0.branch [
      | then-get_or-ne0 w ↦ rw w.text-is (grown_line c.args.self.now c.args.r c.if-r-self.false byte w.if-get_or-ne0.true (omega arith) (rw w.from-then-get_or-ne0.ensures at w.line.ensures))
      | else-get_or-ne0 w ↦ rw w.text-is (grown_none c.args.self.now c.args.r c.if-r-self.false byte w.if-get_or-ne0.false)
    ]
