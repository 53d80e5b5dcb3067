-- `seeds::rows::Rows::fill_live` meets its contract. Assumes nothing.
use Rattle.seeds.specs.Seeded.{Kept}
use Rattle.seeds.proofs.LiveLaws.{Giving}
use Rattle.seeds.proofs.rows.Rows.fill_live.Given as goal

abbrev pub invariant-loop-v : goal.invariant-loop-v
invariant-loop-v l = Kept l.fn.self l.self × Giving l.input l.used l.dropped l.fn.self.width l.v l.fn.self.words.now l.self.words.now
