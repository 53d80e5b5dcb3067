-- `record::rows::outlives_end` meets its contract. Assumes nothing.
use Rattle.record.proofs.RowLaws.{bytes-end}
use Rattle.repr.proofs.ReadLaws.{step, stop, passed_on}
use Rattle.repr.specs.Reading.{ended}
use Rattle.nll_spec.specs.Decode.{counted}
use mathlib.Core.Path.{sym, ap, ◌∙◌}
use Rattle.record.proofs.rows.outlives_end.Goals as goal

pub returns-in_err-n : goal.returns-in_err-n
unfolding counted
returns-in_err-n c = rw (passed_on c.from_residual.ensures) (sym (ap ended (stop _ _ _ (sym c.in_err-n.ensures))))

pub returns : goal.returns
unfolding counted
returns c = bytes-end _ c.in_ok-n.next c.in_ok-n.n c.bytes.result ∙ ap ended (c.bytes.ensures ∙ sym (step _ _ _ (sym c.in_ok-n.ensures)))
