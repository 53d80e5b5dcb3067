-- `constraints::Pair::relate_found`: where both types stand. Assumes nothing.
use Rattle.constraints.proofs.ConstrainLaws.{paths_add}
use Rattle.constraints.proofs.Pair.relate_found.Goals as goal

pub returns : goal.returns
returns c = λ k n kinds names u v. paths_add u v c.in-Some.is c.in-Some-q.is c.place_of.ensures c.place_of-2.ensures c.relate_types.ensures
