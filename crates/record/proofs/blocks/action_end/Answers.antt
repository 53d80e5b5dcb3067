-- `record::blocks::action_end` meets its contract. Assumes nothing.
use Rattle.record.proofs.BlockLaws.{action-refused, action-ended}
use Rattle.repr.proofs.ReadLaws.{passed_on}
use mathlib.Core.Path.{sym}
use Rattle.record.proofs.blocks.action_end.Goals as goal

pub returns-in_err-end : goal.returns-in_err-end
returns-in_err-end c = rw (passed_on c.from_residual-in_err-end.ensures) (record { result = action-refused c.args.s.now c.args.c.at c.in_ok-a.a c.in_ok-a.next (sym c.in_ok-a.ensures) c.sources.ensures c.in_err-end.ensures })

pub returns : goal.returns
returns c = record { result = action-ended c.args.s.now c.args.c.at c.in_ok-a.a c.in_ok-a.next (sym c.in_ok-a.ensures) _ c.sources.ensures c.loans.ensures c.in_ok-end.ensures }
