-- `refusals::parts::field_named` meets its contract. Assumes nothing.
use Rattle.refusals.proofs.PartLaws.{field-fails, field-type, field_zero, field_numbered}
use Rattle.refusals.proofs.parts.field_named.Goals as goal

pub returns-then-number-eq0 : goal.returns-then-number-eq0
returns-then-number-eq0 c = λ j z. field-fails _ _ c.in_ok-number.ensures (λ t. field_zero j _ t c.if-number-eq0.true)

pub returns : goal.returns
returns c = λ j z. field-type _ _ c.in_ok-number.ensures (λ t. field_numbered j _ t c.if-number-eq0.false) (c.ty_named.ensures j z)
