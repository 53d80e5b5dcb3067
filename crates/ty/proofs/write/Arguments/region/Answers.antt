use mathlib.Core.Path.{ap, ◌∙◌}
use Rattle.std.specs.Prelude.{Some}
use Rattle.ty.proofs.FoundLaws as laws
use Rattle.ty.proofs.write.Arguments.region.Goals as goal

pub returns-in-Some-Region : goal.returns-in-Some-Region
returns-in-Some-Region c = laws.region-found c.in-Bound.is c.found.ensures (c.in-Some-Region.is ∙ ap Some c.in-Some-Region.field-0-is)

pub returns-in-Some-Type : goal.returns-in-Some-Type
returns-in-Some-Type c = laws.region-type c.in-Bound.is c.found.ensures (c.in-Some-Type.is ∙ ap Some c.in-Some-Type.field-0-is)

pub returns-in-None : goal.returns-in-None
returns-in-None c = laws.region-none c.in-Bound.is c.found.ensures c.in-None.is
