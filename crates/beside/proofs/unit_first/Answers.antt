-- `beside::unit_first` meets its contract. Assumes nothing.
use Rattle.std.specs.Prelude.{Ok}
use Rattle.repr.proofs.ReadLaws.{ok_some, ok_none}
use mathlib.Core.Path.{ap, ◌∙◌}
use Rattle.beside.proofs.BesideLaws as laws
use Rattle.beside.proofs.unit_first.Goals as goal

pub returns-in_err-a : goal.returns-in_err-a
returns-in_err-a c = rw c.from_residual.ensures (laws.unit_none c.type_node.ensures (ok_none c.ok.ensures.value c.in_err-a.was))

pub returns-in-Unit : goal.returns-in-Unit
returns-in-Unit c = laws.unit-there c.type_node.ensures (ok_some c.ok.ensures.value c.in_ok-a.was ∙ ap Ok c.in-Unit.is)

pub returns-in_default : goal.returns-in_default
returns-in_default c = laws.unit_other c.type_node.ensures (ok_some c.ok.ensures.value c.in_ok-a.was) c.in_default.not-Unit
