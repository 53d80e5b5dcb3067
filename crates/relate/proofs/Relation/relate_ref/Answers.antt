use Rattle.relate.proofs.RelateLaws as laws
use Rattle.repr.specs.declared.Node.TheVariants as nodes
use Rattle.std.specs.Prelude.{Ok}
use mathlib.Core.Path.{ap, ◌∙◌}
use Rattle.relate.proofs.Relation.relate_ref.Goals as goal

pub returns-in_default : goal.returns-in_default
returns-in_default c = laws.ref_other c.type_node.ensures (λ j r n e. c.in_default.not-Ok (nodes.Ref j r n) e)

pub returns-in_default-node : goal.returns-in_default-node
returns-in_default-node c = laws.ref_not c.type_node.ensures c.in-Ok.is c.in_default-node.not-Ref

pub returns : goal.returns
returns c = laws.ref_adds c.type_node.ensures (c.in-Ok.is ∙ ap Ok c.in-Ref.is) c.invert.ensures c.referent_variance.ensures c.within-v.ensures c.relate_regions.ensures c.relate.ensures
