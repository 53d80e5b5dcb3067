-- `loans_in_scope::Setup::with_tables`: the tables are empty and have room. Assumes nothing.
use native.Mathlib.Omega.{arith}
use Rattle.loans_in_scope.proofs.ScopeLaws.{zeros_empty, scope_says}
use Rattle.loans_in_scope.proofs.Setup.with_tables.Goals as goal

pub returns : goal.returns
returns g c = scope_says {v = c.args.self.now} (zeros_empty g.row.N) c.fill.ensures (c.flow.ensures.1 (omega arith) (omega arith)) c.args.scope.now c.requires.2 c.clear.ensures c.gather.ensures c.mask.ensures
