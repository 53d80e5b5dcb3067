-- `seeds::rows::Rows::spread` meets its contract. Assumes nothing.
use Rattle.seeds.specs.Seeded.{Kept}
use Rattle.seeds.proofs.RowLaws.{Spreading}
use Rattle.seeds.proofs.rows.Rows.spread.Given as goal

abbrev pub invariant-loop-r : goal.invariant-loop-r
invariant-loop-r l = Kept l.fn.self l.self × Spreading l.fn.head l.names l.live l.from l.fn.self.width l.r l.fn.self.words.now l.self.words.now
