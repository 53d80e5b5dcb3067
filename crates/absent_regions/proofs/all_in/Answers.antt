-- `absent_regions::all_in` meets its contract. Assumes nothing.
use mathlib.Core.Path.{refl, ◌∙◌}
use Rattle.std.proofs.Common.{rules, tests}
use Rattle.std.proofs.lemmas.Iterator.{YieldsList-from_range}
use Rattle.std.proofs.lemmas.Iterator.Search.{all_from_yields_List}
use Rattle.absent_regions.proofs.AbsentLaws.{word_in, all_words, all_in_lem}
use Rattle.absent_regions.proofs.all_in.Goals as goal

pub returns-then-p-absent : goal.returns-then-p-absent
returns-then-p-absent c =
    let t = c.args.absent.now in
    let p = c.args.p in
    let set = c.args.set.now in
    all_in_lem t p set
    (all_from_yields_List (word_in t p set) _ _ c.all.result c.all.ensures.ran (YieldsList-from_range 0 4 4 refl refl) (λ x b q k. search (rules, tests)) ∙ all_words t p set)
    c.if-p-absent.true
