-- Rows that are kept. Assumes nothing.
use mathlib.Core.Path.{◌∙◌}
use Rattle.seeds.specs.declared.rows.Rows.{Rows}
use Rattle.seeds.specs.Seeded.{Kept}

pub kept_then : {a b c : Rows} → Kept a b → Kept b c → Kept a c
kept_then x y = record { width = y.width ∙ x.width; same = y.same ∙ x.same; size = y.size ∙ x.size }
