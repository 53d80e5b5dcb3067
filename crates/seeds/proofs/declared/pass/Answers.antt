-- `seeds::declared::pass` meets its contract. Assumes nothing.
use Rattle.seeds.proofs.ClosureLaws.{pass-more}
use Rattle.seeds.proofs.declared.pass.Goals as goal

pub loop-r-preserved : goal.loop-r-preserved
loop-r-preserved c = pass-more _ _ _ _ c.loop-r.invariant c.link.ensures
