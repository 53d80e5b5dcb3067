-- `seeds::rows::Rows::fill_declared` meets its contract. Assumes nothing.
use Rattle.seeds.specs.Seeded.{Kept}
use Rattle.seeds.proofs.RowLaws.{Filling}
use Rattle.seeds.proofs.rows.Rows.fill_declared.Given as goal

abbrev pub invariant-loop-r : goal.invariant-loop-r
invariant-loop-r l = Kept l.fn.self l.self × Filling l.fn.graph.input.head l.graph.walked l.ends l.fn.self.width l.r l.fn.self.words.now l.self.words.now
