-- `nll::words::solve`. Assumes nothing.
use Rattle.nll.proofs.WordLaws.{solves}
use borrow.Author.Rules.{rules}
use Rattle.nll.proofs.words.solve.Goals as goal

pub returns : goal.returns
returns c = solves c.shape_of-shape.ensures.0 (search rules) c.seed.ensures c.regionck.ensures.0 c.regionck.ensures.1
