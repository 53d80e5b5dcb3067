-- `infer::Setup::run_one`: the constraint is run, and it alone may come into the list. Assumes nothing.
use Rattle.constraint_list.proofs.ListLaws.{draws_none}
use Rattle.infer.proofs.RunLaws.{runs_one}
use Rattle.infer.proofs.Setup.run_one.Goals as goal

pub returns-then-test-before : goal.returns-then-test-before
returns-then-test-before c = (runs_one c.from-point.ensures c.outlives.ensures, draws_none)

pub returns : goal.returns
returns c = (runs_one c.from-point.ensures c.outlives.ensures, c.add.ensures.1)
