-- `seeds::rows::Rows::declared_row` meets its contract. Assumes nothing.
use Rattle.seeds.specs.Seeded.{Kept}
use Rattle.seeds.proofs.RowLaws.{Ending}
use Rattle.seeds.proofs.rows.Rows.declared_row.Given as goal

abbrev pub invariant-loop-e : goal.invariant-loop-e
invariant-loop-e l = Kept l.initial.self l.self × Ending l.ends l.row l.fn.self.width l.code l.start l.e l.initial.self.words.now l.self.words.now
