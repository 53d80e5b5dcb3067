-- `rerun::turn`: the constraints of the list, then those of points near. Assumes nothing.
use Rattle.rerun.proofs.RerunLaws.{more-fewer, more-held, more_then}
use Rattle.rerun.proofs.turn.Goals as goal

pub returns : goal.returns
returns c = λ to held. more_then (more_then (more-fewer c.make_room.ensures) (more-held held c.rerun-fresh.ensures)) c.revisit_near.ensures
