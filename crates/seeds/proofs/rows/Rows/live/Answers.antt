-- `seeds::rows::Rows::live` meets its contract. Assumes nothing.
use Rattle.seeds.proofs.LiveLaws.{live_none, live_adds}
use Rattle.seeds.proofs.rows.Rows.live.Goals as goal

pub returns-then-not-some_set-clause-adds : goal.returns-then-not-some_set-clause-adds
returns-then-not-some_set-clause-adds c = let a = c.args in λ j l hv hl room. live_none a.which a.points.now a.self.now.words.now c.from.ensures c.some_set.ensures c.if-not-some_set.true-raw j

pub returns-clause-adds : goal.returns-clause-adds
returns-clause-adds c = live_adds c.args.input.now c.args.which c.args.points.now _ _ _ _ c.variable_at-at.ensures c.type_regions.ensures c.spread.ensures.adds
