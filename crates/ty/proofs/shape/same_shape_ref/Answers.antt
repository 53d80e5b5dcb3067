use mathlib.Core.Path.{ap, sym, ◌∙◌}
use Rattle.std.specs.Prelude.{Ok}
use Rattle.ty.proofs.ShapeLaws as laws
use Rattle.ty.proofs.shape.same_shape_ref.Goals as goal

pub returns-in_default : goal.returns-in_default
returns-in_default c = laws.ref_none c.type_node.ensures _ c.in_default.is

pub returns-then-eq : goal.returns-then-eq
returns-then-eq c = laws.ref_same c.type_node.ensures _ (c.in-Ok.is ∙ ap Ok c.in-Ref.is) (sym (c.if-eq.ensures ∙ laws.kinds_alike _ _)) c.same_shape.ensures

pub returns-else-eq : goal.returns-else-eq
returns-else-eq c = rw c.if-eq.false (laws.ref_differ c.type_node.ensures _ (c.in-Ok.is ∙ ap Ok c.in-Ref.is) (sym (c.if-eq.ensures ∙ laws.kinds_alike _ _)))

pub returns-in_default-node : goal.returns-in_default-node
returns-in_default-node c = laws.ref_other c.type_node.ensures _ c.in-Ok.is c.in_default-node.not-Ref
