-- `bit_slice::some_set` meets its contract. Assumes nothing.
use mathlib.Core.Path.{◌≡◌, refl}
use Prim.Native.Nat.{◌+◌}
use Rattle.std.proofs.Common.{rules, tests}
use Rattle.std.proofs.lemmas.Iterator.{cases_from_any, YieldsList-from_slice}
use Rattle.bit_slice.proofs.SomeLaws.{run, some_any}
use Rattle.bit_slice.proofs.some_set.Goals as goal

pub returns-else-not-run_fits : goal.returns-else-not-run_fits
returns-else-not-run_fits c =
    let a = c.args in
    some_any a.words.now a.start a.n (a.start + a.n) c.any.result refl (search (rules, tests, c.run_fits.ensures))
    (cases_from_any _ _ _ (λ x. x ≡ 0 → ⊥) (λ x. x ≡ 0) c.any.ensures.ran (YieldsList-from_slice (run a.words.now a.start (a.start + a.n)) cc)
    (λ x q k. search (rules, tests)) (λ x q k. search (rules, tests)))
