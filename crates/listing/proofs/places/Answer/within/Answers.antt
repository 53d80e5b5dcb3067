-- `listing::places::Answer::within` meets its contract. Assumes nothing.
use native.Mathlib.Omega.{arith}
use Rattle.listing.proofs.PlaceLaws.{within_over, within_in, within_out}
use Rattle.listing.proofs.places.Answer.within.Goals as goal
use Rattle.listing.proofs.places.Answer.within.Goals.{then-in_set, else-in_set}

pub returns-then-p-self : goal.returns-then-p-self
returns-then-p-self c = within_over c.args.self.now c.args.r c.args.p c.if-p-self.true (c.push.ensures.fits (omega arith)) c.after_region.ensures

pub returns : goal.returns
returns c =
    elim c.if-in_set.branch [
      | then-in_set w ↦ rw w.text-is (within_in c.args.self.now c.args.r c.args.p c.if-p-self.false c.in_set.ensures w.if-in_set.true (omega arith) w.spaced.ensures)
      | else-in_set w ↦ rw w.text-is (within_out c.args.self.now c.args.r c.args.p c.if-p-self.false c.in_set.ensures w.if-in_set.false)
    ]
