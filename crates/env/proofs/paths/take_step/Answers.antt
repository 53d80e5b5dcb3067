use mathlib.Core.Path.{refl, ap, ◌∙◌}
use Rattle.std.specs.Prelude.{Ok}
use Rattle.repr.proofs.ReadLaws.{ok_some, ok_none}
use Rattle.env.proofs.PathLaws as laws
use Rattle.env.proofs.paths.take_step.Goals as goal

pub returns-in_err-kind : goal.returns-in_err-kind
returns-in_err-kind c = rw c.from_residual.ensures (laws.step-none c.type_node.ensures (ok_none c.ok.ensures.value c.in_err-kind.was).1)

pub returns-then-f-ne0 : goal.returns-then-f-ne0
returns-then-f-ne0 c = laws.step_other c.type_node.ensures (ok_some c.ok.ensures.value c.in_ok-kind.was ∙ ap Ok c.in-Ref.is) c.if-f-ne0.true

pub returns-else-f-ne0 : goal.returns-else-f-ne0
returns-else-f-ne0 c = laws.step-star c.type_node.ensures (ok_some c.ok.ensures.value c.in_ok-kind.was ∙ ap Ok c.in-Ref.is) c.if-f-ne0.false refl c.name_of-region.ensures (laws.noted _ _ _ c.note.ensures)

pub returns-in-Struct : goal.returns-in-Struct
returns-in-Struct c = laws.step_struct c.type_node.ensures refl (ok_some c.ok.ensures.value c.in_ok-kind.was ∙ ap Ok c.in-Struct.is) (laws.noted _ _ _ c.note-in-Struct.ensures) c.field_step.ensures

pub returns-in_default : goal.returns-in_default
returns-in_default c = laws.step-leaf c.type_node.ensures (ok_some c.ok.ensures.value c.in_ok-kind.was) c.in_default.not-Ref c.in_default.not-Struct
