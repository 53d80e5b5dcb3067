-- `seeds::declared::add_bytes` meets its contract. Assumes nothing.
use mathlib.Core.Path.{refl}
use Rattle.seeds.proofs.AddLaws.{adding_more}
use Rattle.seeds.proofs.declared.add_bytes.Goals as goal

pub loop-x-preserved : goal.loop-x-preserved
loop-x-preserved c = adding_more _ _ _ c.loop-x-test.true c.loop-x.invariant refl c.from-in-loop-x.ensures c.add.ensures.0
