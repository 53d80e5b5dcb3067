-- `nll::words::by_rows`. Assumes nothing.
use Rattle.nll.proofs.WordLaws.{seeds_by}
use borrow.Author.Rules.{rules}
use Rattle.nll.proofs.words.by_rows.Goals as goal

pub returns : goal.returns
returns c = seeds_by c.requires.0 c.requires.1 (search rules) (search rules) c.liveness.ensures c.seeds.ensures
