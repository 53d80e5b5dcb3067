use Rattle.ty.proofs.ShapeLaws as laws
use Rattle.ty.proofs.shape.same_shape.Goals as goal

pub returns : goal.returns
returns c = rw c.is_some.ensures (laws.whole c.same_types.ensures)
