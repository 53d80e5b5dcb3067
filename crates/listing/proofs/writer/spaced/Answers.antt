-- `listing::writer::spaced` meets its contract. Assumes nothing.
use native.Mathlib.Omega.{arith}
use Rattle.listing.proofs.WriteLaws.{decimal_room}
use Rattle.listing.proofs.writer.spaced.Goals as goal

pub number-requires : goal.number-requires
number-requires c = let put = c.push.ensures.fits (omega arith) in omega (arith, decimal_room c.args.n (omega arith), put.longer)
