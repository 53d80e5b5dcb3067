-- `nll_list::read_text` meets its contract. Assumes nothing.
use Rattle.nll_list.proofs.TextLaws.{read_more}
use Rattle.nll_list.proofs.read_text.Goals as goal

pub loop-preserved : goal.loop-preserved
loop-preserved g c = read_more _ c.loop.invariant c.feed.ensures
