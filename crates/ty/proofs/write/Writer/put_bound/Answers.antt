use mathlib.Core.Path.{ap, ◌∙◌}
use Rattle.std.specs.Prelude.{Some}
use Rattle.ty.proofs.WriteLaws as laws
use Rattle.ty.proofs.write.Writer.put_bound.Goals as goal

pub returns-in-Some-Type : goal.returns-in-Some-Type
returns-in-Some-Type c = laws.bound_type c.found.ensures (c.in-Some-Type.is ∙ ap Some c.in-Some-Type.field-0-is) c.put_type.ensures

pub returns-in-Some-Region : goal.returns-in-Some-Region
returns-in-Some-Region c = laws.bound_unit (λ g y. (laws.found c.found.ensures (c.in-Some-Region.is ∙ ap Some c.in-Some-Region.field-0-is) g y).type) c.put.ensures

pub returns-in-None : goal.returns-in-None
returns-in-None c = laws.bound_unit (λ g y. (laws.found c.found.ensures c.in-None.is g y).type) c.put-in-None.ensures
