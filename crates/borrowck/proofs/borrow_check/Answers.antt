-- `borrowck::borrow_check` meets its contract. Assumes nothing.
use mathlib.Core.Path.{refl}
use native.Mathlib.Omega.{arith}
use Rattle.borrowck.proofs.WriteLaws.{writing_more, written_nothing, written_all}
use Rattle.borrowck.proofs.borrow_check.Goals as goal

pub returns-then-bytes-points : goal.returns-then-bytes-points
returns-then-bytes-points c = (refl, written_nothing c.args.input.now c.args.loans.now c.args.scope.now c.args.bytes.now (omega (arith, c.from.ensures, c.from-2.ensures, c.if-bytes-points.true)))

pub loop-p-preserved : goal.loop-p-preserved
loop-p-preserved c = (c.loop-p.invariant.0, writing_more c.loop-p.invariant.1 c.verdict_at.ensures c.bytes_of.ensures (omega (arith, c.loop-p.invariant.0, c.loop-p-test.true)))

pub returns : goal.returns
returns c = (c.loop-p.invariant.1.size, written_all c.args.input.now c.args.loans.now c.args.scope.now c.args.bytes.now c.loop-p.invariant.1 (omega (arith, c.from.ensures, c.from-2.ensures, c.loop-p-test.false)))
