-- `well_formed::points::action_refusal` meets its contract. Assumes nothing.
use Rattle.well_formed.proofs.PathLaws as laws
use Rattle.well_formed.proofs.points.action_refusal.Goals as goal

pub returns-then-not-sources_fit : goal.returns-then-not-sources_fit
returns-then-not-sources_fit c = λ j a w m. laws.sources_refused m j c.in-Ok.is c.sources.ensures (c.sources_fit.ensures j w) c.if-not-sources_fit.true

pub returns : goal.returns
returns c = λ j a w m. laws.own-refused m j c.in-Ok.is c.sources.ensures (c.sources_fit.ensures j w) c.if-not-sources_fit.false (c.own_refusal.ensures j w)
