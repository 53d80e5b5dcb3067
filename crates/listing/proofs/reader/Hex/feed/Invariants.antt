-- `listing::reader::Hex::feed`: what was fed so far. Assumes nothing.
use lib.ListN.{take}
use Rattle.listing.specs.Reading.{Feeds}
use Rattle.listing.proofs.reader.Hex.feed.Given as goal

abbrev pub invariant-loop-c : goal.invariant-loop-c
invariant-loop-c l = Feeds (take l.c-index l.piece) l.initial.self l.self
