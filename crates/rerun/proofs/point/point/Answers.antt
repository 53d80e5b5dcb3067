-- `rerun::point::point` meets its contract. Assumes nothing.
use mathlib.Core.Path.{refl, sym, ◌∙◌}
use mathlib.Core.Bool.{true≢false}
use Rattle.rerun.proofs.PointLaws.{point_far, point-passed, point_idle, point-added}
use Rattle.rerun.proofs.point.point.Goals as goal
use Rattle.rerun.proofs.point.point.Goals.{in-Borrow, in_default}

pub returns-then-p-gt1024 : goal.returns-then-p-gt1024
returns-then-p-gt1024 c = point_far c.if-p-gt1024.true

pub returns-then-not-test : goal.returns-then-not-test
returns-then-not-test c = point-passed c.test.ensures c.if-not-test.true

pub returns-then-not-matches : goal.returns-then-not-matches
returns-then-not-matches c = elim c.match-matches.branch [
  | in-Borrow w ↦ absurd (true≢false (sym w.matches-is ∙ c.if-not-matches.true))
  | in_default w ↦ point_idle c.kind_at.ensures w.in_default.not-Borrow w.in_default.not-Assign w.in_default.not-Constraint
]

pub returns : goal.returns
returns c = point-added c.test.ensures c.if-not-test.false refl c.constrain.ensures
