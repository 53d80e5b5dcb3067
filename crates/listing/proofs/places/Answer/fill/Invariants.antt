-- `listing::places::Answer::fill`: the steps so far made the text. Assumes nothing.
use Rattle.listing.proofs.PlaceLaws.{Filling}
use Rattle.listing.proofs.places.Answer.fill.Given as goal

abbrev pub invariant-loop : goal.invariant-loop
invariant-loop l = Filling l.self l.initial.place l.place l.counter l.text
