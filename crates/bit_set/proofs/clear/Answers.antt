use mathlib.Core.Path.{sym, ◌∙◌}
use Rattle.bit_set.proofs.RunLaws.{clear_filled}
use Rattle.bit_set.proofs.clear.Goals as goal

pub returns-then-run_fits : goal.returns-then-run_fits
returns-then-run_fits c =
    let a = c.args in
    clear_filled a.words.now a.start a.n c.fill.new.self (sym c.run_fits.ensures ∙ c.if-run_fits.true) (c.fill.ensures.after (λ y q. q))
