-- `listing::writer::number` meets its contract. Assumes nothing.
use mathlib.Core.Path.{refl, ap}
use native.Mathlib.Omega.{arith}
use lib.ListN.{length}
use Rattle.listing.proofs.WriteLaws.{decimal_last, decimal_longer, number_last, number_more}
use Rattle.listing.proofs.writer.+number.Goals as goal
use Rattle.listing.proofs.writer.+number.Goals.{then-n-ge10, else-n-ge10}

pub number-requires : goal.number-requires
number-requires t c = (omega (arith, c.decreases), omega (arith, c.requires, decimal_longer c.args.n c.if-n-ge10.true))

pub returns : goal.returns
returns t c =
    elim c.if-n-ge10.branch [
      | then-n-ge10 w ↦
          let put = c.push.ensures.fits (omega (arith, c.requires, decimal_longer c.args.n w.if-n-ge10.true, ap length w.text-is)) in
          number_more c.args.n w.if-n-ge10.true refl w.number.ensures (rw w.text-is at put)
      | else-n-ge10 w ↦
          let put = c.push.ensures.fits (omega (arith, c.requires, ap length (decimal_last c.args.n w.if-n-ge10.false), ap length w.text-is)) in
          number_last c.args.n w.if-n-ge10.false refl (rw w.text-is at put)
    ]
