-- `refusals::actions::action_named` meets its contract. Assumes nothing.
use Rattle.std.proofs.Common.{rules}
use Rattle.refusals.proofs.PartLaws.{action_sources, action-fails}
use Rattle.refusals.proofs.RowLaws.{along_passes}
use Rattle.refusals.proofs.actions.action_named.Goals as goal

pub returns-then-own_named : goal.returns-then-own_named
returns-then-own_named c = λ j z. action_sources _ _ c.in_ok-a.ensures c.own_named.ensures j z c.if-own_named.true c.sources.ensures (along_passes _ _ _ (λ d r p. search rules) c.each.ensures)

pub returns-else-own_named : goal.returns-else-own_named
returns-else-own_named c = λ j z. action-fails _ _ c.in_ok-a.ensures c.own_named.ensures j z c.if-own_named.false
