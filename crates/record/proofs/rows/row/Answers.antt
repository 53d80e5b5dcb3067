-- `record::rows::row` meets its contract. Assumes nothing.
use Rattle.record.proofs.RowLaws.{rowing_start, rowing_more, rowing_stop, rowing_end}
use Rattle.repr.proofs.ReadLaws.{passed_on}
use native.Mathlib.Omega.{arith}
use Rattle.record.proofs.rows.row.Goals as goal

pub loop-entry-init : goal.loop-entry-init
loop-entry-init g c = λ part e. rw c.from.ensures (rowing_start _ c.requires.fits.0)

pub returns-in_err-c : goal.returns-in_err-c
returns-in_err-c g c = λ part e. rw (passed_on c.from_residual.ensures, c.from.ensures) (rowing_stop _ c.requires.fits.0 (c.loop-entry.invariant part e) _ (omega arith) (e _ _ _ c.in_err-c.ensures))

pub loop-entry-preserved : goal.loop-entry-preserved
loop-entry-preserved g c = λ part e. rowing_more (c.loop-entry.invariant part e) (omega arith) c.requires.fits.1 c.offset.ensures (e _ _ _ c.in_ok-c.ensures)

pub returns : goal.returns
returns g c = λ part e. rw c.from.ensures (rowing_end _ c.requires.fits.0 (c.loop-entry.invariant part e) (omega arith))
