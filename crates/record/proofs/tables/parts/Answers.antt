-- `record::tables::parts` meets its contract. Assumes nothing.
use Rattle.record.proofs.LayoutLaws.{parts_end}
use Rattle.repr.proofs.ReadLaws.{step, stop, passed_on}
use Rattle.record.specs.Rows.{Struct, Outlives, Variable}
use Rattle.record.specs.Layout.{parts_of}
use mathlib.Core.Path.{refl, ◌∙◌}
use Rattle.record.proofs.tables.parts.Goals as goal

pub returns-in_err-second : goal.returns-in_err-second
unfolding parts_of
returns-in_err-second c = rw (passed_on c.from_residual.ensures) (record { result = stop _ _ _ (c.in_err-second.ensures Struct (λ _ _ _ e. e.1)).result })

pub returns-in_err-third : goal.returns-in_err-third
unfolding parts_of
returns-in_err-third c = rw (passed_on c.from_residual-in_err-third.ensures) (record { result = step _ _ _ (c.in_ok-second.ensures Struct (λ _ _ _ e. e.1)).result.reads ∙ stop _ _ _ (c.in_err-third.ensures Outlives (λ _ _ _ e. e.1)).result })

pub returns-in_err-last : goal.returns-in_err-last
unfolding parts_of
returns-in_err-last c = rw (passed_on c.from_residual-in_err-last.ensures) (record { result = step _ _ _ (c.in_ok-second.ensures Struct (λ _ _ _ e. e.1)).result.reads ∙ step _ _ _ (c.in_ok-third.ensures Outlives (λ _ _ _ e. e.1)).result.reads ∙ stop _ _ _ (c.in_err-last.ensures Variable (λ _ _ _ e. e.1)).result })

pub returns : goal.returns
returns c = parts_end _ c.requires.0 c.requires.1 (c.in_ok-second.ensures Struct (λ _ _ _ e. e.1)).result c.blocks-2.ensures.structs (c.in_ok-third.ensures Outlives (λ _ _ _ e. e.1)).result c.blocks-2.ensures.outlives (c.in_ok-last.ensures Variable (λ _ _ _ e. e.1)).result c.blocks-2.ensures.variables _ refl c.blocks-2.result c.blocks-2.ensures.result
