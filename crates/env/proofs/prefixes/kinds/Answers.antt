-- `env::prefixes::kinds`: entry by entry. Assumes nothing.
use mathlib.Core.Path.{◌≡◌, sym, ◌∙◌}
use lib.ListN.{get_or}
use Rattle.std.proofs.Common.{rules}
use Rattle.std.proofs.lemmas.List.{ext_get_or, get_or-map, length-map}
use Rattle.env.specs.Steps.{kind_in, kinds_of}
use Rattle.env.specs.declared.Step.TheVariants.{Owned}
use Rattle.env.proofs.prefixes.kinds.Goals as goal

pub returns : goal.returns
returns c =
    let m = c.map.ensures.items in
    let taken = c.args.taken.now in
    let long = m.long ∙ sym (length-map taken kind_in ∙ c.told-taken) in
    ext_get_or 0 c.map.result (kinds_of taken) long (λ i h.
    let a = m.at i Owned 0 (rw m.long at h) in
    let e : get_or c.map.result i 0 ≡ kind_in (get_or taken i Owned) = search rules in
    e ∙ sym (get_or-map kind_in taken i Owned 0 (rw (m.long ∙ sym c.told-taken) at h)))
