-- `repr::Cursor::struct_decl` meets its contract. Assumes nothing.
use Rattle.repr.proofs.PartLaws.{counted_step, counted_stop, end_halt, end_same, end-refuse, end_readable}
use Rattle.repr.proofs.ReadLaws.{passed_on}
use Rattle.repr.specs.Parts.{struct_of}
use Rattle.nll_spec.specs.Decode.{struct_decl}
use mathlib.Core.Path.{sym, ◌∙◌}
use Rattle.repr.proofs.Cursor.struct_decl.Goals as goal

pub returns-in_err-end : goal.returns-in_err-end
unfolding struct_decl
returns-in_err-end c = rw (passed_on c.from_residual-in_err-end.ensures) (record { same = sym (counted_step _ _ _ _ (sym c.in_ok-count.ensures) ∙ end_halt _ _ _ (sym c.in_err-end.ensures)); declared = tt })

pub returns-in_err-count-2 : goal.returns-in_err-count-2
unfolding struct_decl
returns-in_err-count-2 c = rw (passed_on c.from_residual-in_err-count-2.ensures) (record { same = sym (counted_step _ _ _ _ (sym c.in_ok-count.ensures) ∙ end-refuse _ _ _ (sym c.in_ok-end.ensures) (λ ps. counted_stop _ _ _ _ (sym c.in_err-count-2.ensures))); declared = tt })

pub returns : goal.returns
unfolding struct_decl struct_of
returns c = record { same = sym (counted_step _ _ _ _ (sym c.in_ok-count.ensures) ∙ end_same _ _ _ _ (sym c.in_ok-end.ensures) (λ ps. counted_step _ _ _ _ (sym c.in_ok-count-2.ensures))); declared = end_readable _ _ (sym c.in_ok-end.ensures) }
