-- `replay::compare::agree`. Assumes nothing.
use mathlib.Core.Path.{sym, ap, ◌∙◌}
use mathlib.Core.Bool.{Bool, ◌&&◌}
use Rattle.replay.specs.File.{words_before, bytes_before}
use Rattle.replay.proofs.AgreeLaws.{agree_no, agree_rest, agree_not}
use Rattle.replay.proofs.compare.agree.Goals as goal

pub returns-then-number-get_or : goal.returns-then-number-get_or
unfolding words_before bytes_before
returns-then-number-get_or c = agree_no c.args.s.now c.args.e c.nll_analyse-number.ensures c.get_or.ensures c.if-number-get_or.true

pub returns-then-same_words : goal.returns-then-same_words
unfolding words_before bytes_before
returns-then-same_words c =
    ap (λ (b : Bool). b && c.same_bytes.result) (sym c.if-same_words.true)
    ∙ agree_rest c.args.s.now c.args.e c.nll_analyse-number.ensures c.get_or.ensures c.if-number-get_or.false c.same_words.ensures c.same_bytes.ensures

pub returns-else-same_words : goal.returns-else-same_words
unfolding words_before bytes_before
returns-else-same_words c = agree_not c.args.s.now c.args.e c.nll_analyse-number.ensures c.get_or.ensures c.if-number-get_or.false c.same_words.ensures c.if-same_words.false
