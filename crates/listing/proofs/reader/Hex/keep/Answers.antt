-- `listing::reader::Hex::keep` meets its contract. Assumes nothing.
use mathlib.Core.Path.{refl}
use native.Mathlib.Omega.{arith}
use lib.ListN.{length}
use borrow.Author.Tests.{lt-ltb, le-ltb}
use Rattle.listing.specs.Reading.{room}
use Rattle.listing.proofs.reader.Hex.keep.Goals as goal

pub returns-then-room-gt0 : goal.returns-then-room-gt0
returns-then-room-gt0 c = record { same = rw (lt-ltb (length c.args.self.now.kept) room (omega arith)) (c.push.ensures.fits (omega arith)).same }

pub returns-else-room-gt0 : goal.returns-else-room-gt0
returns-else-room-gt0 c = record { same = rw (le-ltb (length c.args.self.now.kept) room (omega arith)) refl }
