-- `listing::places::Answer::at_access` meets its contract. Assumes nothing.
use native.Mathlib.Omega.{arith}
use Rattle.nll_spec.specs.Listing.{ascii, line}
use Rattle.listing.proofs.PlaceLaws.{access_over, access_none, access_fault}
use Rattle.listing.proofs.places.Answer.at_access.Goals as goal
use Rattle.listing.proofs.places.Answer.at_access.Goals.{then-kind-ne0, else-kind-ne0}

pub returns-then-p-self : goal.returns-then-p-self
returns-then-p-self c = access_over c.args.self.now c.args.p c.if-p-self.true

pub returns : goal.returns
unfolding ascii line
returns c =
    let kind = rw c.from-at.ensures at c.get_or-kind.ensures in
    elim c.if-kind-ne0.branch [
      | then-kind-ne0 w ↦ rw w.text-is (access_fault c.args.self.now c.args.p c.if-p-self.false kind w.if-kind-ne0.true (omega arith) (omega arith) (rw c.from-at.ensures at w.get_or-operand.ensures) (omega arith) (rw (w.from.ensures, w.from-then-kind-ne0.ensures) at w.line.ensures))
      | else-kind-ne0 w ↦ rw w.text-is (access_none c.args.self.now c.args.p c.if-p-self.false kind w.if-kind-ne0.false)
    ]
