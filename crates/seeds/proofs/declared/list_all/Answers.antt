-- `seeds::declared::list_all` meets its contract. Assumes nothing.
use native.Mathlib.Omega.{arith}
use Rattle.std.proofs.Common.{rules}
use Rattle.seeds.proofs.ClosureLaws.{listing_start, listing-more}
use Rattle.seeds.proofs.declared.list_all.Goals as goal

pub loop-r-init : goal.loop-r-init
loop-r-init c = listing_start c.args.rows.now (search rules) c.clear.ensures

pub loop-r-preserved : goal.loop-r-preserved
loop-r-preserved c = listing-more c.loop-r.invariant (omega arith) c.listed.ensures
