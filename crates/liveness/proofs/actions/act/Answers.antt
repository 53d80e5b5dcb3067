-- `liveness::actions::act`. Assumes nothing.
use Rattle.liveness.proofs.FillLaws.{acted_action}
use Rattle.liveness.proofs.actions.act.Goals as goal

pub returns-in-Ok : goal.returns-in-Ok
returns-in-Ok c = acted_action c.action_at.ensures c.in-Ok.is c.needs.ensures c.defines.ensures
