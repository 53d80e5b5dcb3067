-- `well_formed::paths::path_fits` meets its contract. Assumes nothing.
use mathlib.Core.Path.{ap}
use mathlib.Core.Bool.{Bool, true}
use Rattle.well_formed.specs.Tests.{refusal_of}
use Rattle.well_formed.proofs.PathLaws as laws
use Rattle.well_formed.proofs.paths.path_fits.Goals as goal

pub returns-then-p-eq0 : goal.returns-then-p-eq0
returns-then-p-eq0 c = λ j w. ap (λ (b : Bool). refusal_of b true) (laws.stepless_taken c.args.input.now c.args.p c.if-input-p.false c.if-p-eq0.true j w)
