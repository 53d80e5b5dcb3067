-- `seeds::declared::ends` meets its contract. Assumes nothing.
use Rattle.seeds.proofs.ClosureLaws.{ends-are}
use Rattle.seeds.proofs.declared.ends.Goals as goal

pub returns : goal.returns
returns c = ends-are _ c.list_all.ensures c.from.ensures c.close.ensures
