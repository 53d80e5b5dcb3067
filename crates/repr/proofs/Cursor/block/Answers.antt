-- `repr::Cursor::block` meets its contract. Assumes nothing.
use Rattle.repr.proofs.PartLaws.{counted_step, counted_stop}
use Rattle.repr.proofs.ReadLaws.{step, stop, passed_on}
use Rattle.repr.specs.Parts.{block_of}
use Rattle.nll_spec.specs.Decode.{block}
use mathlib.Core.Path.{sym, ◌∙◌}
use Rattle.repr.proofs.Cursor.block.Goals as goal

pub returns-in_err-end : goal.returns-in_err-end
unfolding block
returns-in_err-end c = rw (passed_on c.from_residual-in_err-end.ensures) (sym (counted_step _ _ _ _ (sym c.in_ok-count.ensures) ∙ stop _ _ _ (sym c.in_err-end.ensures)))

pub returns-in_err-count-2 : goal.returns-in_err-count-2
unfolding block
returns-in_err-count-2 c = rw (passed_on c.from_residual-in_err-count-2.ensures) (sym (counted_step _ _ _ _ (sym c.in_ok-count.ensures) ∙ step _ _ _ (sym c.in_ok-end.ensures) ∙ counted_stop _ _ _ _ (sym c.in_err-count-2.ensures)))

pub returns : goal.returns
unfolding block block_of
returns c = sym (counted_step _ _ _ _ (sym c.in_ok-count.ensures) ∙ step _ _ _ (sym c.in_ok-end.ensures) ∙ counted_step _ _ _ _ (sym c.in_ok-count-2.ensures))
