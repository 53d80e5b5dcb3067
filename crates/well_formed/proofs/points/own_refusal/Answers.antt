-- `well_formed::points::own_refusal` meets its contract. Assumes nothing.
use Rattle.well_formed.proofs.PathLaws as laws
use Rattle.well_formed.proofs.points.own_refusal.Goals as goal

pub returns-in-Assign : goal.returns-in-Assign
returns-in-Assign c = λ j w. rw c.in-Assign.is (laws.assign_is c.pair_refusal-in-Assign.ensures j w)
