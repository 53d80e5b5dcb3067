-- `replay::tally::replay`. The loop's invariant: the first entries are counted. Assumes nothing.
use Rattle.replay.proofs.FileLaws.{Counting}
use Rattle.replay.proofs.tally.replay.Given as goal

abbrev pub invariant-loop : goal.invariant-loop
invariant-loop l = Counting l.s l.entries l.good l.at l.counter
