-- `listing::writer::number` meets its contract. Assumes nothing.
use Rattle.listing.proofs.writer.+number.Given as goal

abbrev pub decreases-number : goal.decreases-number
decreases-number l = l.n
