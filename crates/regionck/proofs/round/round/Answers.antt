-- `regionck::round::round`: all constraints, then more. Assumes nothing.
use Rattle.rerun.proofs.RerunLaws.{own_then}
use Rattle.regionck.proofs.RoundLaws.{below_all}
use Rattle.regionck.proofs.round.round.Goals as goal

pub returns : goal.returns
returns c =
    let swept = c.sweep-grew.ensures in
    let more = c.repeat.ensures c.requires.0 in
    (below_all swept.0 swept.1 more, own_then swept.1 more.own, swept.2)
