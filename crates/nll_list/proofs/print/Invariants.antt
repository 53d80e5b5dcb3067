-- `nll_list::print`: what was printed so far, and then all from the place on, is all. Assumes nothing.
use Rattle.listing.specs.Places.{left_after}
use Rattle.nll_list.proofs.TextLaws.{Printing}
use Rattle.nll_list.proofs.print.Given as goal

abbrev pub invariant-loop-next : goal.invariant-loop-next
invariant-loop-next g l = Printing l.answer l.fn.first l.initial.next l.next

abbrev pub decreases-loop-next : goal.decreases-loop-next
decreases-loop-next g l = left_after l.answer.counts l.next
