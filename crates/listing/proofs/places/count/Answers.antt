-- `listing::places::count` meets its contract. Assumes nothing.
use Rattle.listing.proofs.PlaceLaws.{count_job}
use Rattle.listing.proofs.places.count.Goals as goal

pub returns-in-Ok : goal.returns-in-Ok
returns-in-Ok c = count_job c.read.ensures c.in-Ok.is c.from.ensures
