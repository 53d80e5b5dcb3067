-- `listing::writer::line` meets its contract. Assumes nothing.
use native.Mathlib.Omega.{arith}
use lib.ListN.{get_or}
use Rattle.listing.proofs.WriteLaws.{gather_turn, spaced-room}
use Rattle.listing.proofs.writer.line.Goals as goal

pub loop-n-preserved : goal.loop-n-preserved
loop-n-preserved c =
    let l = c.loop-n in
    record {
      puts = gather_turn c.args.word.now c.args.numbers.now l.n-index (omega arith) l.invariant.puts c.spaced.ensures;
      short = omega (arith, spaced-room (get_or c.args.numbers.now l.n-index 0) (omega arith));
    }
