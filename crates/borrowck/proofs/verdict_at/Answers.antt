-- `borrowck::verdict_at` meets its contract. Assumes nothing.
use native.Mathlib.Omega.{arith}
use Rattle.borrowck.proofs.WriteLaws.{judged_idle}
use Rattle.borrowck.proofs.verdict_at.Goals as goal

pub returns-then-from-p : goal.returns-then-from-p
returns-then-from-p c = judged_idle (omega (arith, c.from.ensures))
