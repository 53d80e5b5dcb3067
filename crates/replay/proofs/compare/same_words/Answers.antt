-- `replay::compare::same_words`. Assumes nothing.
use native.Mathlib.Omega.{arith}
use Rattle.std.proofs.lemmas.Bool.Decides.{Decides-eqb}
use Rattle.std.proofs.lemmas.Slice.Eq.{slice_eq-Decides}
use Rattle.replay.specs.File.{words_at}
use Rattle.replay.proofs.SameLaws.{longer, other_front, same_front, length-words_at, words_decide}
use Rattle.replay.proofs.compare.same_words.Goals as goal

pub returns-then-count-gt4112 : goal.returns-then-count-gt4112
returns-then-count-gt4112 c =
    let a = c.args in
    longer a.words.now (words_at a.s.now a.at a.count) a.before.now (length-words_at a.s.now a.at a.count) (omega arith)

pub returns-then-are_words_at : goal.returns-then-are_words_at
returns-then-are_words_at c =
    let a = c.args in
    let rest = slice_eq-Decides Decides-eqb _ _ _ c.eq.ensures in
    same_front a.words.now (words_at a.s.now a.at a.count) a.before.now (length-words_at a.s.now a.at a.count) c.split_at.ensures.front
    (words_decide a.s.now a.at c.split_at.result.0.now c.split_at.ensures.front_len c.are_words_at.ensures)
    c.if-are_words_at.true c.split_at.ensures.back c.split_at-then-are_words_at.ensures.back rest

pub returns-else-are_words_at : goal.returns-else-are_words_at
returns-else-are_words_at c =
    let a = c.args in
    other_front a.words.now (words_at a.s.now a.at a.count) a.before.now (length-words_at a.s.now a.at a.count) c.split_at.ensures.front
    (words_decide a.s.now a.at c.split_at.result.0.now c.split_at.ensures.front_len c.are_words_at.ensures)
    c.if-are_words_at.false
