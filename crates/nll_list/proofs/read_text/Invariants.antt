-- `nll_list::read_text`: what was read so far is some text. Assumes nothing.
use Rattle.nll_list.specs.Text.{IsRead}
use Rattle.nll_list.proofs.read_text.Given as goal

abbrev pub invariant-loop : goal.invariant-loop
invariant-loop g l = IsRead l.text
