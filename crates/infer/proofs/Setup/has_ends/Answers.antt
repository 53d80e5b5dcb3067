-- `infer::Setup::has_ends`: what `all` shows of the ends. Assumes nothing.
use mathlib.Core.Path.{◌≡◌, refl}
use mathlib.Core.Bool.{true, false}
use Prim.Native.Nat.{◌+◌, ◌-◌, ◌*◌}
use Rattle.std.proofs.Common.{rules, tests}
use Rattle.std.proofs.lemmas.Iterator.{cases_from_all, YieldsList-from_range}
use Rattle.nll_spec.specs.Output.{word_bits}
use Rattle.bit_set.specs.Bits.{has}
use Rattle.infer.specs.Search.{has_run}
use Rattle.infer.proofs.SubsetLaws.{run_all}
use Rattle.infer.proofs.Setup.has_ends.Goals as goal

pub returns : goal.returns
returns c =
    let ws = c.args.words.now in
    let code = c.args.self.now.shape.code in
    let many = c.args.self.now.shape.points - code in
    let r : c.all.result ≡ has_run ws c.args.to code many = run_all ws c.args.to code many c.all.result
    (cases_from_all _ _ _ (λ x. has ws (word_bits * c.args.to + x) ≡ true) (λ x. has ws (word_bits * c.args.to + x) ≡ false) c.all.ensures.ran (YieldsList-from_range code c.args.self.now.shape.points many refl refl)
    (λ x q k. search (rules, tests)) (λ x q k. search (rules, tests))) in
    search (rules, tests)
