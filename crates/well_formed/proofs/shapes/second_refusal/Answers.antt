-- `well_formed::shapes::second_refusal` meets its contract. Assumes nothing.
use Rattle.well_formed.proofs.PathLaws as laws
use Rattle.well_formed.proofs.shapes.second_refusal.Goals as goal

pub returns-then-q-eq0 : goal.returns-then-q-eq0
returns-then-q-eq0 c = laws.second_typed (laws.stepless_typed c.args.q c.if-input-q.false _ c.if-q-eq0.true c.variable_at.ensures) c.types_refusal.ensures
