-- `listing::writer::line` meets its contract. Assumes nothing.
use mathlib.Core.List.{◌++◌}
use Prim.Native.Nat.{◌+◌, ◌*◌, ◌≤◌}
use lib.ListN.{length, take}
use Rattle.nll_spec.specs.Lists.{gather}
use Rattle.nll_spec.specs.Listing.{spaced}
use Rattle.buffer.specs.Appending.{Appends}
use Rattle.listing.proofs.writer.line.Given as goal

abbrev pub invariant-loop-n : goal.invariant-loop-n
invariant-loop-n l = record {
  puts : Appends (l.word ++ gather spaced (take l.n-index l.numbers)) l.fn.text l.text;
  short : length l.text ≤ length l.fn.text + length l.word + 6 * l.n-index;
}
