-- `loans_in_scope::Setup::keep_all`: a point that overwrites a path. Assumes nothing.
use Rattle.loans_in_scope.proofs.FillLaws.{kept_each}
use Rattle.loans_in_scope.proofs.Setup.keep_all.Goals as goal

pub returns-in-Some : goal.returns-in-Some
returns-in-Some c = let a = c.args in kept_each a.self.now a.region.now a.p c.overwritten_at-d.result c.overwritten_at-d.ensures c.keep_each.ensures
