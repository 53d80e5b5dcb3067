-- `borrowck::search::search` meets its contract. Assumes nothing.
use Rattle.borrowck.proofs.SearchLaws.{searched_more}
use Rattle.borrowck.proofs.search.search.Goals as goal

pub loop-i-preserved : goal.loop-i-preserved
loop-i-preserved c = searched_more _ _ _ _ c.loop-i.invariant c.loop-i-test.true c.prefixes-k-end.ensures _ c.loop-k.invariant c.loop-k-test.false
