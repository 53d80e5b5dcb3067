-- `constraints::Pair::relate_stepped`: the types of both paths, related, and the supporting prefixes of a borrow's source. Assumes nothing.
use Rattle.constraints.proofs.ConstrainLaws.{pair_adds, pair_sourceless}
use Rattle.constraints.proofs.Pair.relate_stepped.Goals as goal

pub returns-in-Some : goal.returns-in-Some
returns-in-Some c = pair_adds c.path_type-y.ensures (c.relate_found.ensures _ _ _ _ c.path_type-x.ensures c.path_type-y.ensures) c.source.ensures c.in-Some.is c.relate_source.ensures

pub returns-in_default : goal.returns-in_default
returns-in_default c = pair_sourceless c.path_type-y.ensures (c.relate_found.ensures _ _ _ _ c.path_type-x.ensures c.path_type-y.ensures) c.source.ensures c.in_default.is
