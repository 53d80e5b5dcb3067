-- `refusals::parts::structs_named` meets its contract. Assumes nothing.
use Rattle.std.proofs.Common.{rules}
use Rattle.std.proofs.lemmas.Iterator.{YieldsList-from_range}
use native.Mathlib.Omega.{arith}
use mathlib.Core.Path.{refl}
use mathlib.Core.List.{[]}
use Rattle.nll_spec.specs.WellFormed.{structs_named}
use Rattle.refusals.proofs.RowLaws.{every_all}
use Rattle.refusals.proofs.parts.structs_named.Goals as goal

pub returns : goal.returns
unfolding structs_named
returns c = λ j w. every_all (record { params = []; fields = [] }) w.struct_count _ _ c.all.result c.all.ensures.ran (YieldsList-from_range 0 _ _ refl (omega arith)) (λ k b q p. search rules)
