-- `infer::is_subset`. The loop's invariant: lacks is `or_grows` of the words so far. Assumes nothing.
use lib.ListN.{length}
use mathlib.Core.Path.{◌≡◌}
use Rattle.bit_set.specs.Bits.{or_grows}
use Rattle.infer.proofs.is_subset.Given as goal

abbrev pub invariant-loop-inner : goal.invariant-loop-inner
invariant-loop-inner l = l.lacks ≡ or_grows l.words l.to l.words l.from (length l.yielded)
