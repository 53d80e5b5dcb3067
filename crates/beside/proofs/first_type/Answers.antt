-- `beside::first_type` meets its contract. Assumes nothing.
use Rattle.std.specs.Prelude.{Ok}
use Rattle.repr.proofs.ReadLaws.{passed_on}
use mathlib.Core.Path.{ap, ◌∙◌}
use Rattle.beside.proofs.BesideLaws as laws
use Rattle.beside.proofs.first_type.Goals as goal

pub returns-then-row-eq0 : goal.returns-then-row-eq0
returns-then-row-eq0 c = laws.type-none c.if-row-eq0.true

pub returns-in_err-next : goal.returns-in_err-next
returns-in_err-next c = rw (passed_on c.from_residual.ensures) (laws.type-refused c.argument.ensures c.if-row-eq0.false c.in_err-next.was)

pub returns-in-Region : goal.returns-in-Region
returns-in-Region c = laws.type_other c.argument.ensures c.if-row-eq0.false (c.in_ok-next.was ∙ ap Ok c.in-Region.is)

pub returns-in-Type : goal.returns-in-Type
returns-in-Type c = laws.type-first c.argument.ensures c.if-row-eq0.false (c.in_ok-next.was ∙ ap Ok c.in-Type.is)
