-- `constraints::constrain`: by the action that is read. Assumes nothing.
use mathlib.Core.Path.{refl}
use Rattle.constraints.proofs.ConstrainLaws.{point_far, action-refused, action_other, action-borrow, action_assign, action-constraint}
use Rattle.constraints.proofs.constrain.Goals as goal

pub returns-then-at-gt1024 : goal.returns-then-at-gt1024
returns-then-at-gt1024 c = point_far c.if-at-gt1024.true

pub returns-in_default : goal.returns-in_default
returns-in_default c = action-refused c.from.ensures c.action_at.ensures c.in_default.is

pub returns-in-Borrow : goal.returns-in-Borrow
returns-in-Borrow c = action-borrow c.from.ensures c.action_at.ensures c.in-Ok.is refl refl c.in-Borrow.is c.relate_paths.ensures

pub returns-in-Assign : goal.returns-in-Assign
returns-in-Assign c = action_assign c.from.ensures c.action_at.ensures c.in-Ok.is refl refl c.in-Assign.is c.relate_paths-in-Assign.ensures

pub returns-in-Constraint : goal.returns-in-Constraint
returns-in-Constraint c = action-constraint c.from.ensures c.action_at.ensures c.in-Ok.is c.in-Constraint.is c.require_outlives.ensures

pub returns-in_default-a : goal.returns-in_default-a
returns-in_default-a c = action_other c.from.ensures c.action_at.ensures c.in-Ok.is c.in_default-a.not-Borrow c.in_default-a.not-Assign c.in_default-a.not-Constraint
