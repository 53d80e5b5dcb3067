-- `regionck::round::sweep`: the constraints of the list, then those of the points that it leaves out. Assumes nothing.
use Rattle.rerun.proofs.RerunLaws.{own_then, own-fewer, own-drawn}
use Rattle.regionck.proofs.RoundLaws.{below_none, below_more}
use Rattle.regionck.proofs.round.sweep.Goals as goal

pub returns : goal.returns
returns c =
    let run = c.run.ensures in
    let rest = c.rest.ensures in
    (rest.0 c.args.words.now (below_more below_none c.requires.0 run.0), own_then (own_then (own-fewer c.make_room.ensures) (own-drawn c.requires.0 run.1)) rest.1, rest.2)
