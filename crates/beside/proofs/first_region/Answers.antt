-- `beside::first_region` meets its contract. Assumes nothing.
use Rattle.std.specs.Prelude.{Ok}
use Rattle.repr.proofs.ReadLaws.{passed_on}
use mathlib.Core.Path.{ap, ◌∙◌}
use Rattle.beside.proofs.BesideLaws as laws
use Rattle.beside.proofs.first_region.Goals as goal

pub returns-then-row-eq0 : goal.returns-then-row-eq0
returns-then-row-eq0 c = laws.region-none c.if-row-eq0.true

pub returns-in_err-r : goal.returns-in_err-r
returns-in_err-r c = rw (passed_on c.from_residual.ensures) (laws.region-refused c.argument.ensures c.if-row-eq0.false c.in_err-r.was)

pub returns-in-Region : goal.returns-in-Region
returns-in-Region c = laws.region-first c.argument.ensures c.if-row-eq0.false (c.in_ok-r.was ∙ ap Ok c.in-Region.is)

pub returns-in_err-nodes-in-Type : goal.returns-in_err-nodes-in-Type
returns-in_err-nodes-in-Type c = rw (passed_on c.from_residual-in_err-nodes-in-Type.ensures) (laws.region-short c.argument.ensures c.if-row-eq0.false (c.in_ok-r.was ∙ ap Ok c.in-Type.is) c.nodes.ensures c.in_err-nodes-in-Type.was)

pub returns-in_ok-nodes-in-Type : goal.returns-in_ok-nodes-in-Type
returns-in_ok-nodes-in-Type c = laws.region-passed c.argument.ensures c.if-row-eq0.false (c.in_ok-r.was ∙ ap Ok c.in-Type.is) c.nodes.ensures c.in_ok-nodes-in-Type.was
