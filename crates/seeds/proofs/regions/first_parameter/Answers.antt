-- `seeds::regions::first_parameter` meets its contract. Assumes nothing.
use Rattle.repr.proofs.ReadLaws.{passed_on}
use Rattle.seeds.proofs.ChosenLaws.{first-none, first-refused, first-is}
use Rattle.seeds.proofs.regions.first_parameter.Goals as goal

pub returns-then-parameters-eq0 : goal.returns-then-parameters-eq0
returns-then-parameters-eq0 c = first-none _ c.args.parameters c.if-parameters-eq0.true

pub returns-in_err-first : goal.returns-in_err-first
returns-in_err-first c = rw (passed_on c.from_residual.ensures) (first-refused _ c.args.parameters c.parameter.ensures c.if-parameters-eq0.false _ c.in_err-first.was)

pub returns : goal.returns
returns c = first-is _ c.args.parameters c.parameter.ensures c.if-parameters-eq0.false c.in_ok-first.was
