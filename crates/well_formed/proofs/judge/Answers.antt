-- `well_formed::judge` meets its contract. Assumes nothing.
use mathlib.Core.Path.{ap}
use Rattle.repr.proofs.ReadLaws.{passed_on}
use Rattle.well_formed.specs.Tests.{number_in}
use Rattle.well_formed.proofs.JudgeLaws as laws
use Rattle.well_formed.proofs.judge.Goals as goal

pub returns-in_err-head : goal.returns-in_err-head
returns-in_err-head c = rw (passed_on c.from_residual.ensures) (laws.record_refused c.read.ensures c.in_err-head.was)

pub returns-in_err-refusal : goal.returns-in_err-refusal
returns-in_err-refusal c = rw (passed_on c.from_residual-in_err-refusal.ensures) (laws.job-refused c.read.ensures c.in_ok-head.was c.refusal.ensures (ap number_in c.in_err-refusal.was))

pub returns : goal.returns
returns c = laws.record_accepted c.read.ensures c.in_ok-head.was c.refusal.ensures (ap number_in c.in_ok-refusal.was)
