-- `borrowck::checks::check_accesses` meets its contract. Assumes nothing.
use Rattle.std.proofs.Common.{rules}
use native.Mathlib.Omega.{arith}
use Rattle.borrowck.proofs.FaultLaws.{checked_pass, checked_more}
use Rattle.borrowck.proofs.checks.check_accesses.Goals as goal

pub loop-from-preserved-in-Some : goal.loop-from-preserved-in-Some
loop-from-preserved-in-Some c = (omega (arith, c.lent-many.ensures.1, c.args.here.now.most, c.part-part.ensures.most (omega (arith, c.lent-many.ensures.1, c.args.here.now.most))), checked_more c.loop-from.first c.loop-from.invariant.1 (omega (arith, c.lent-many.ensures.1, c.args.here.now.most)) c.part-part.ensures c.unwrap_or-below.ensures (search rules) c.search_in.ensures c.in-Some.is)

pub loop-from-preserved : goal.loop-from-preserved
loop-from-preserved c = (omega (arith, c.lent-many.ensures.1, c.args.here.now.most, c.part-part.ensures.most (omega (arith, c.lent-many.ensures.1, c.args.here.now.most))), checked_pass c.loop-from.first c.loop-from.invariant.1 (omega (arith, c.lent-many.ensures.1, c.args.here.now.most)) c.part-part.ensures c.unwrap_or-below.ensures (search rules) c.search_in.ensures c.in_default.is)
