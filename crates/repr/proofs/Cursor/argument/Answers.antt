-- `repr::Cursor::argument` meets its contract. Assumes nothing.
use native.Mathlib.Omega.{arith}
use Rattle.repr.proofs.ReadLaws.{step, stop, picked, unknown, passed_on}
use Rattle.nll_spec.specs.Decode.{args, one_of}
use mathlib.Core.Path.{sym, ◌∙◌}
use Rattle.repr.proofs.Cursor.argument.Goals as goal

pub returns-in_err-tag : goal.returns-in_err-tag
unfolding args one_of
returns-in_err-tag c = rw (passed_on c.from_residual.ensures) (record { same = λ inner n left. sym (stop _ _ _ (sym c.in_err-tag.ensures)) })

pub returns-in_err-region-in-0 : goal.returns-in_err-region-in-0
unfolding args
returns-in_err-region-in-0 c = rw (passed_on c.from_residual-in_err-region-in-0.ensures) (record { same = λ inner n left. sym (stop _ _ _ (sym c.in_err-region-in-0.ensures)) ∙ picked _ _ 0 c.in_ok-tag.ensures c.in-0.is })

pub returns-in_ok-region-in-0 : goal.returns-in_ok-region-in-0
unfolding args
returns-in_ok-region-in-0 c = record { same = λ inner n left. sym (step _ _ _ (sym c.in_ok-region-in-0.ensures)) ∙ picked _ _ 0 c.in_ok-tag.ensures c.in-0.is }

pub returns-in-1 : goal.returns-in-1
unfolding args
returns-in-1 c = record { same = λ inner n left. picked _ _ 1 c.in_ok-tag.ensures c.in-1.is }

pub returns-in_default : goal.returns-in_default
unfolding args
returns-in_default c = record { same = λ inner n left. unknown _ _ c.in_ok-tag.ensures (omega arith) }
