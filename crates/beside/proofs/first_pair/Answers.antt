-- `beside::first_pair` meets its contract. Assumes nothing.
use Rattle.std.specs.Prelude.{Ok}
use Rattle.repr.proofs.ReadLaws.{ok_some, ok_none}
use mathlib.Core.Path.{ap, ◌∙◌}
use Rattle.beside.proofs.BesideLaws as laws
use Rattle.beside.proofs.first_pair.Goals as goal

pub returns-in_err-r : goal.returns-in_err-r
returns-in_err-r c = rw c.from_residual.ensures (laws.pair_refused c.argument.ensures (ok_none c.ok.ensures.value c.in_err-r.was).1)

pub returns-in_err-o-in-Region : goal.returns-in_err-o-in-Region
returns-in_err-o-in-Region c = rw c.from_residual-in_err-o-in-Region.ensures (laws.pair_region-refused c.argument.ensures (ok_some c.ok.ensures.value c.in_ok-r.was ∙ ap Ok c.in-Region.is) c.first_region.ensures (ok_none c.ok-in-Region.ensures.value c.in_err-o-in-Region.was).1)

pub returns-in_ok-o-in-Region : goal.returns-in_ok-o-in-Region
returns-in_ok-o-in-Region c = laws.pair_regions c.argument.ensures (ok_some c.ok.ensures.value c.in_ok-r.was ∙ ap Ok c.in-Region.is) c.first_region.ensures (ok_some c.ok-in-Region.ensures.value c.in_ok-o-in-Region.was)

pub returns-in_err-q-in-Type : goal.returns-in_err-q-in-Type
returns-in_err-q-in-Type c = rw c.from_residual-in_err-q-in-Type.ensures (laws.pair_type-refused c.argument.ensures (ok_some c.ok.ensures.value c.in_ok-r.was ∙ ap Ok c.in-Type.is) c.first_type.ensures (ok_none c.ok-in-Type.ensures.value c.in_err-q-in-Type.was).1)

pub returns-in-Other : goal.returns-in-Other
returns-in-Other c = laws.pair_unit c.argument.ensures (ok_some c.ok.ensures.value c.in_ok-r.was ∙ ap Ok c.in-Type.is) c.first_type.ensures (ok_some c.ok-in-Type.ensures.value c.in_ok-q-in-Type.was ∙ ap Ok c.in-Other.is) c.unit_first.ensures

pub returns-in-Type-2 : goal.returns-in-Type-2
returns-in-Type-2 c = laws.pair_types c.argument.ensures (ok_some c.ok.ensures.value c.in_ok-r.was ∙ ap Ok c.in-Type.is) c.first_type.ensures (ok_some c.ok-in-Type.ensures.value c.in_ok-q-in-Type.was ∙ ap Ok c.in-Type-2.is)
