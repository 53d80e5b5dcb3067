-- `beside::first_parameter` meets its contract. Assumes nothing.
use mathlib.Core.Path.{refl}
use Rattle.beside.proofs.BesideLaws as laws
use Rattle.beside.proofs.first_parameter.Goals as goal

pub returns-then-row-eq0 : goal.returns-then-row-eq0
returns-then-row-eq0 c = laws.parameter_none c.if-row-eq0.true refl refl

pub returns-in-Err : goal.returns-in-Err
returns-in-Err c = laws.parameter_refused c.if-row-eq0.false c.parameter.ensures c.in-Err.is

pub returns-in-Ok : goal.returns-in-Ok
returns-in-Ok c = laws.parameter_first c.if-row-eq0.false c.parameter.ensures c.in-Ok.is refl c.after.ensures
