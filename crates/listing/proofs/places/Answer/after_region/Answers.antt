-- `listing::places::Answer::after_region` meets its contract. Assumes nothing.
use Rattle.listing.proofs.PlaceLaws.{follows_over}
use Rattle.listing.proofs.places.Answer.after_region.Goals as goal

pub returns-else-r-self : goal.returns-else-r-self
returns-else-r-self c = follows_over c.args.self.now.counts c.args.r c.if-r-self.false
