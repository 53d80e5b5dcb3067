use Rattle.env.proofs.ShortestLaws as laws
use Rattle.env.proofs.prefixes.shortest_of.Goals as goal

pub returns-then-p-eq0 : goal.returns-then-p-eq0
returns-then-p-eq0 c = λ j l o f few. laws.stepless_shortest c.args.input.now c.args.p j c.if-p-eq0.true

pub returns : goal.returns
returns c = λ j l o f few. laws.found-shortest c.args.input.now c.args.p j c.path_type.ensures l o f c.steps_of.ensures (rw c.kinds.ensures at c.shortest.ensures) few
