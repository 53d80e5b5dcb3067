-- `well_formed::points::points_refusal` meets its contract. Assumes nothing.
use Rattle.nll_spec.specs.Syntax.{Job}
use Rattle.record.specs.Layout.{Holds}
use Rattle.well_formed.proofs.PointLaws as laws
use Rattle.well_formed.proofs.points.points_refusal.Given as goal

abbrev pub invariant-loop-p : goal.invariant-loop-p
invariant-loop-p l = (j : Job) → Holds l.input j → laws.Judged j l.p l.fits
