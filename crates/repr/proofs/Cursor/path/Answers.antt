-- `repr::Cursor::path` meets its contract. Assumes nothing.
use Rattle.repr.proofs.ReadLaws.{step, stop, passed_on}
use Rattle.nll_spec.specs.Decode.{path, done}
use mathlib.Core.Path.{sym, ◌∙◌}
use Rattle.repr.proofs.Cursor.path.Goals as goal

pub returns-in_err-end : goal.returns-in_err-end
unfolding path
returns-in_err-end c = rw (passed_on c.from_residual-in_err-end.ensures) (sym (step _ _ _ (sym c.in_ok-steps.ensures) ∙ step _ _ _ (sym c.in_ok-v.ensures) ∙ stop _ _ _ (sym c.in_err-end.ensures)))

pub returns : goal.returns
unfolding path done
returns c = sym (step _ _ _ (sym c.in_ok-steps.ensures) ∙ step _ _ _ (sym c.in_ok-v.ensures) ∙ step _ _ _ (sym c.in_ok-end.ensures))
