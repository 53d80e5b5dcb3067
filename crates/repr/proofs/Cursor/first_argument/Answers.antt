-- `repr::Cursor::first_argument` meets its contract. Assumes nothing.
use Rattle.std.specs.Prelude.{Ok}
use Rattle.repr.proofs.TypeLaws.{first-region, first-type}
use mathlib.Core.Path.{ap, ◌∙◌}
use Rattle.repr.proofs.Cursor.first_argument.Goals as goal

pub returns-in-Region : goal.returns-in-Region
returns-in-Region c = first-region _ c.argument.ensures (c.in_ok-next.was ∙ ap Ok c.in-Region.is)

pub returns-in-Type : goal.returns-in-Type
returns-in-Type c = first-type _ c.argument.ensures (c.in_ok-next.was ∙ ap Ok c.in-Type.is) c.opened.ensures
