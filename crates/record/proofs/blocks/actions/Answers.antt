-- `record::blocks::actions` meets its contract. Assumes nothing.
use Rattle.record.proofs.BlockLaws.{coding_start, coding_more, coding_stop, coding_end}
use Rattle.repr.proofs.ReadLaws.{passed_on}
use Rattle.std.proofs.Common.{rules}
use native.Mathlib.Omega.{arith}
use Rattle.record.proofs.blocks.actions.Goals as goal

pub loop-i-init : goal.loop-i-init
loop-i-init c = coding_start _ _ _ _ _ (search rules)

pub returns-in_err-more : goal.returns-in_err-more
returns-in_err-more c = rw (passed_on c.from_residual.ensures) (coding_stop c.loop-i.invariant (omega arith) c.offset.result c.keep.ensures c.in_err-more.ensures.result)

pub loop-i-preserved : goal.loop-i-preserved
loop-i-preserved c = coding_more c.loop-i.invariant (omega arith) c.offset.result c.keep.ensures c.requires.1 c.offset.ensures c.in_ok-more.ensures.result

pub returns : goal.returns
returns c = coding_end c.loop-i.invariant (omega arith) c.from-many.ensures c.keep-2.ensures
