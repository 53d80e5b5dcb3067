-- `repr::Cursor::action` meets its contract. Assumes nothing.
use native.Mathlib.Omega.{arith}
use Rattle.repr.proofs.ReadLaws.{picked, unknown}
use Rattle.repr.specs.Parts.{init_action, borrow_action, assign_action, constraint_action, use_action, drop_action, dead_action}
use Rattle.nll_spec.specs.Decode.{action, done}
use mathlib.Core.Path.{◌∙◌}
use Rattle.repr.proofs.Cursor.action.Goals as goal

pub returns-in-0 : goal.returns-in-0
unfolding action done
returns-in-0 c = picked _ _ 0 c.in_ok-tag.ensures c.in-0.is

pub returns-in-1 : goal.returns-in-1
unfolding action init_action
returns-in-1 c = c.init_action.ensures ∙ picked _ _ 1 c.in_ok-tag.ensures c.in-1.is

pub returns-in-2 : goal.returns-in-2
unfolding action borrow_action
returns-in-2 c = c.borrow_action.ensures ∙ picked _ _ 2 c.in_ok-tag.ensures c.in-2.is

pub returns-in-3 : goal.returns-in-3
unfolding action assign_action
returns-in-3 c = c.assign_action.ensures ∙ picked _ _ 3 c.in_ok-tag.ensures c.in-3.is

pub returns-in-4 : goal.returns-in-4
unfolding action constraint_action
returns-in-4 c = c.constraint_action.ensures ∙ picked _ _ 4 c.in_ok-tag.ensures c.in-4.is

pub returns-in-5 : goal.returns-in-5
unfolding action use_action
returns-in-5 c = c.use_action.ensures ∙ picked _ _ 5 c.in_ok-tag.ensures c.in-5.is

pub returns-in-6 : goal.returns-in-6
unfolding action drop_action
returns-in-6 c = c.drop_action.ensures ∙ picked _ _ 6 c.in_ok-tag.ensures c.in-6.is

pub returns-in-7 : goal.returns-in-7
unfolding action dead_action
returns-in-7 c = c.dead_action.ensures ∙ picked _ _ 7 c.in_ok-tag.ensures c.in-7.is

pub returns-in_default : goal.returns-in_default
unfolding action
returns-in_default c = unknown _ _ c.in_ok-tag.ensures (omega arith)
