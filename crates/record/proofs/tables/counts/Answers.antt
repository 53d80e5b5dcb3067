-- `record::tables::counts` meets its contract. Assumes nothing.
use Rattle.record.proofs.LayoutLaws.{count_most}
use Rattle.repr.proofs.ReadLaws.{step, stop, passed_on}
use mathlib.Core.Path.{sym, ◌∙◌}
use Rattle.record.proofs.tables.counts.Goals as goal

pub returns-in_err-structs : goal.returns-in_err-structs
returns-in_err-structs c = rw (passed_on c.from_residual.ensures) (record { same = λ f. sym (stop _ _ _ (sym c.in_err-structs.ensures)); fit = tt })

pub returns-in_err-regions : goal.returns-in_err-regions
returns-in_err-regions c = rw (passed_on c.from_residual-in_err-regions.ensures) (record { same = λ f. sym (step _ _ _ (sym c.in_ok-structs.ensures) ∙ stop _ _ _ (sym c.in_err-regions.ensures)); fit = tt })

pub returns-in_err-declared : goal.returns-in_err-declared
returns-in_err-declared c = rw (passed_on c.from_residual-in_err-declared.ensures) (record { same = λ f. sym (step _ _ _ (sym c.in_ok-structs.ensures) ∙ step _ _ _ (sym c.in_ok-regions.ensures) ∙ stop _ _ _ (sym c.in_err-declared.ensures)); fit = tt })

pub returns-in_err-variables : goal.returns-in_err-variables
returns-in_err-variables c = rw (passed_on c.from_residual-in_err-variables.ensures) (record { same = λ f. sym (step _ _ _ (sym c.in_ok-structs.ensures) ∙ step _ _ _ (sym c.in_ok-regions.ensures) ∙ step _ _ _ (sym c.in_ok-declared.ensures) ∙ stop _ _ _ (sym c.in_err-variables.ensures)); fit = tt })

pub returns-in_err-blocks : goal.returns-in_err-blocks
returns-in_err-blocks c = rw (passed_on c.from_residual-in_err-blocks.ensures) (record { same = λ f. sym (step _ _ _ (sym c.in_ok-structs.ensures) ∙ step _ _ _ (sym c.in_ok-regions.ensures) ∙ step _ _ _ (sym c.in_ok-declared.ensures) ∙ step _ _ _ (sym c.in_ok-variables.ensures) ∙ stop _ _ _ (sym c.in_err-blocks.ensures)); fit = tt })

pub returns : goal.returns
returns c = record {
  same = λ f. sym (step _ _ _ (sym c.in_ok-structs.ensures) ∙ step _ _ _ (sym c.in_ok-regions.ensures) ∙ step _ _ _ (sym c.in_ok-declared.ensures) ∙ step _ _ _ (sym c.in_ok-variables.ensures) ∙ step _ _ _ (sym c.in_ok-blocks.ensures));
  fit = record {
    structs = count_most 0 16 _ (sym c.in_ok-structs.ensures);
    regions = count_most 0 128 _ (sym c.in_ok-regions.ensures);
    declared = count_most 0 16 _ (sym c.in_ok-declared.ensures);
    variables = count_most 0 64 _ (sym c.in_ok-variables.ensures);
    blocks = count_most 1 64 _ (sym c.in_ok-blocks.ensures);
  };
}
