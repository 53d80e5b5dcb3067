-- `listing::writer::refused` meets its contract. Assumes nothing.
use mathlib.Core.Path.{◌∙◌, ap}
use mathlib.Core.List.{[], ◌∷◌}
use Prim.Native.Nat.{ℕ}
use Rattle.nll_spec.specs.Listing.{ascii, line}
use Rattle.buffer.proofs.AppendLaws.{appends_first}
use Rattle.listing.proofs.writer.refused.Goals as goal

pub returns : goal.returns
unfolding ascii line
returns c = appends_first c.new-text.ensures c.line.ensures ∙ ap (λ (k : ℕ). line "refused" (k ∷ [])) c.from.ensures
