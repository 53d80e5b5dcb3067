use mathlib.Core.Path.{◌∙◌}
use Rattle.bit_set.proofs.BitLaws.{test_in, test_out}
use Rattle.bit_set.proofs.test.Goals as goal

pub returns-in-Some : goal.returns-in-Some
returns-in-Some c = let a = c.args in c.has_bit.ensures ∙ rw c.in-Some.ensures.0 (test_in a.words.now a.start a.p)

pub returns-in-None : goal.returns-in-None
returns-in-None c = let a = c.args in test_out a.words.now a.start a.p c.in-None.ensures
