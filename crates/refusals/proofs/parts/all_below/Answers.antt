-- `refusals::parts::all_below` meets its contract. Assumes nothing.
use mathlib.Core.Path.{ap, ◌∙◌}
use mathlib.Core.List.{List}
use Prim.Native.Nat.{ℕ}
use lib.Dec.{ltb}
use lib.ListN.{take}
use Rattle.std.proofs.lemmas.List.{take_rest}
use Rattle.refusals.specs.Tests.{all_below}
use Rattle.std.proofs.Common.{rules}
use Rattle.std.proofs.lemmas.Iterator.{YieldsList-from_slice, YieldsList-from_take}
use Rattle.std.proofs.lemmas.Iterator.Search.{all_from_yields_List}
use Rattle.refusals.proofs.RowLaws.{list_every}
use Rattle.refusals.proofs.parts.all_below.Goals as goal

pub returns : goal.returns
returns c =
    let bytes = rw (← c.take.ensures.source) at (YieldsList-from_slice {s = c.iter.result} c.in-Some.rest.now c.iter.ensures.rest) in
    let taken = YieldsList-from_take {s = c.take.result} c.args.count bytes (c.take.ensures.count ∙ c.from.ensures) in
    all_from_yields_List (λ x. ltb x c.args.limit) _ _ c.all.result c.all.ensures.ran taken (λ x b q p. search rules) ∙ list_every (λ x. ltb x c.args.limit) (take c.args.count c.in-Some.rest.now) ∙ ap (λ (l : List ℕ). all_below c.args.limit (take c.args.count l)) (c.in-Some.ensures.lookup.0.2 ∙ take_rest c.args.s.now c.args.from.at)
