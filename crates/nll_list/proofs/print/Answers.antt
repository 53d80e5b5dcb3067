-- `nll_list::print` ends. Assumes nothing.
use Rattle.nll_list.proofs.TextLaws.{printing_none, printing_more}
use Rattle.nll_list.proofs.print.Goals as goal

pub loop-next-init : goal.loop-next-init
loop-next-init g c = printing_none c.args.answer.now c.args.first c.args.from

pub loop-next-preserved : goal.loop-next-preserved
loop-next-preserved g c = printing_more (rw c.in-Some.is at c.loop-next.invariant) c.fill-next.ensures
