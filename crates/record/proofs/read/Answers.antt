-- `record::read` meets its contract. Assumes nothing.
use Rattle.record.proofs.LayoutLaws.{version_missing, version_other, length-missing, length_over, length_other, length_right, says_as}
use mathlib.Core.Path.{refl}
use Rattle.record.proofs.read.Goals as goal

pub returns-then-s-lt1 : goal.returns-then-s-lt1
returns-then-s-lt1 c = record { says = version_missing _ c.if-s-lt1.true }

pub returns-then-s-ne1 : goal.returns-then-s-ne1
returns-then-s-ne1 c = record { says = version_other _ c.if-s-lt1.false c.if-s-ne1.true }

pub returns-then-s-lt3 : goal.returns-then-s-lt3
returns-then-s-lt3 c = record { says = length-missing _ c.if-s-lt1.false c.if-s-ne1.false c.if-s-lt3.true }

pub returns-then-n-gt16384 : goal.returns-then-n-gt16384
returns-then-n-gt16384 c = record { says = length_over _ c.if-s-ne1.false c.if-s-lt3.false c.from.ensures c.from-2.ensures c.if-n-gt16384.true }

pub returns-then-n-s : goal.returns-then-n-s
returns-then-n-s c = record { says = length_other _ c.if-s-ne1.false c.if-s-lt3.false c.from.ensures c.from-2.ensures c.if-n-gt16384.false c.if-n-s.true }

pub returns : goal.returns
returns c = says_as (length_right _ c.if-s-ne1.false c.if-s-lt3.false c.from.ensures c.from-2.ensures c.if-n-gt16384.false c.if-n-s.false) refl c.job.ensures
