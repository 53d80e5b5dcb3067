-- `repr::Cursor::region` meets its contract. Assumes nothing.
use native.Mathlib.Omega.{arith}
use Rattle.repr.proofs.ReadLaws.{step, stop, picked, unknown, passed_on}
use Rattle.nll_spec.specs.Decode.{region, done}
use mathlib.Core.Path.{sym, ◌∙◌}
use Rattle.repr.proofs.Cursor.region.Goals as goal

pub returns-in_err-name-in-0 : goal.returns-in_err-name-in-0
unfolding region
returns-in_err-name-in-0 c = rw (passed_on c.from_residual-in_err-name-in-0.ensures) (sym (stop _ _ _ (sym c.in_err-name-in-0.ensures)) ∙ picked _ _ 0 c.in_ok-tag.ensures c.in-0.is)

pub returns-in_ok-name-in-0 : goal.returns-in_ok-name-in-0
unfolding region done
returns-in_ok-name-in-0 c = sym (step _ _ _ (sym c.in_ok-name-in-0.ensures)) ∙ picked _ _ 0 c.in_ok-tag.ensures c.in-0.is

pub returns-in_err-bound-in-1 : goal.returns-in_err-bound-in-1
unfolding region
returns-in_err-bound-in-1 c = rw (passed_on c.from_residual-in_err-bound-in-1.ensures) (sym (stop _ _ _ (sym c.in_err-bound-in-1.ensures)) ∙ picked _ _ 1 c.in_ok-tag.ensures c.in-1.is)

pub returns-in_ok-bound-in-1 : goal.returns-in_ok-bound-in-1
unfolding region done
returns-in_ok-bound-in-1 c = sym (step _ _ _ (sym c.in_ok-bound-in-1.ensures)) ∙ picked _ _ 1 c.in_ok-tag.ensures c.in-1.is

pub returns-in_default : goal.returns-in_default
unfolding region
returns-in_default c = unknown _ _ c.in_ok-tag.ensures (omega arith)
