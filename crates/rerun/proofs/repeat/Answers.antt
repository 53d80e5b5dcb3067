-- `rerun::repeat`: the constraints of `recent`, then turns. Assumes nothing.
use Rattle.rerun.proofs.RerunLaws.{more_recent, more_then}
use Rattle.rerun.proofs.repeat.Goals as goal

pub returns-then-setup-to : goal.returns-then-setup-to
returns-then-setup-to c = λ held. more_recent c.settle.ensures

pub returns : goal.returns
returns c = λ held. more_then (more_recent c.settle.ensures) (c.turns.ensures _ held)
