-- `record::blocks::blocks` meets its contract. Assumes nothing.
use Rattle.record.proofs.BlockLaws.{blocking_start, blocking_missing, blocking_stop, blocking_more, blocking_end}
use Rattle.repr.proofs.ReadLaws.{passed_on}
use Rattle.std.proofs.Common.{rules}
use native.Mathlib.Omega.{arith}
use mathlib.Core.Path.{sym}
use Rattle.record.proofs.blocks.blocks.Goals as goal

pub loop-b-init : goal.loop-b-init
loop-b-init c = blocking_start _ _ _ _

pub returns-in_err-d : goal.returns-in_err-d
returns-in_err-d c = rw (passed_on c.from_residual.ensures) (blocking_missing c.loop-b.invariant (omega arith) c.requires.0 c.offset.result (sym c.in_err-d.ensures))

pub returns-in_err-more : goal.returns-in_err-more
returns-in_err-more c = rw (passed_on c.from_residual-in_err-more.ensures) (blocking_stop c.loop-b.invariant (omega arith) c.requires.0 c.offset.result _ _ (sym c.in_ok-d.ensures) c.in_err-more.ensures.result)

pub loop-b-preserved : goal.loop-b-preserved
loop-b-preserved c = blocking_more c.loop-b.invariant (omega arith) c.requires.0 c.offset.result _ c.actions.ensures.kept _ _ (search rules) (search rules) c.requires.1 c.offset.ensures (sym c.in_ok-d.ensures) c.in_ok-more.ensures.result (c.from.ensures, omega arith)

pub returns : goal.returns
returns c = blocking_end c.loop-b.invariant (omega arith) c.requires.0
