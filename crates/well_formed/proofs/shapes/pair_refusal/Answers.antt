-- `well_formed::shapes::pair_refusal` meets its contract. Assumes nothing.
use Rattle.well_formed.proofs.PathLaws as laws
use Rattle.well_formed.proofs.shapes.pair_refusal.Goals as goal

pub returns-then-p-eq0 : goal.returns-then-p-eq0
returns-then-p-eq0 c = laws.pair_typed (laws.stepless_typed c.args.p c.if-input-p.false _ c.if-p-eq0.true c.variable_at-x.ensures) c.second_refusal.ensures
