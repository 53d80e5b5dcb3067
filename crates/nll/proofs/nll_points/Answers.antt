-- `nll::nll_points`. Assumes nothing.
use native.Mathlib.Omega.{arith}
use Rattle.nll.proofs.AnalyseLaws.{judged, no_points, points-fit, points-counted}
use Rattle.nll.proofs.nll_points.Goals as goal

pub overflow_cast-result : goal.overflow_cast-result
overflow_cast-result c = omega (arith, points-fit (judged c.judge.ensures c.in-Ok.is) c.shape_of.ensures.0)

pub returns-in-Err : goal.returns-in-Err
returns-in-Err c = no_points (judged c.judge.ensures c.in-Err.is)

pub returns-in-Ok : goal.returns-in-Ok
returns-in-Ok c = points-counted (judged c.judge.ensures c.in-Ok.is) c.shape_of.ensures.0
