-- `bit_slice::insert_bits_from_slice`: the run of n words from src is lent. Assumes nothing.
use Rattle.std.proofs.Common.{rules, tests}
use Rattle.bit_slice.proofs.LentLaws.{joined_run}
use Rattle.bit_slice.proofs.insert_bits_from_slice.Goals as goal

pub returns : goal.returns
returns c =
    let a = c.args in
    joined_run a.words.now a.dst a.from.now a.src a.n _ _ (search (rules, tests, c.run_fits.ensures)) (rw c.as_slice.ensures at c.set_from.ensures)
