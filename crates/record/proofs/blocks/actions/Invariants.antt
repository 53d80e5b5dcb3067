-- `record::blocks::actions` meets its contract. Assumes nothing.
use Rattle.record.proofs.BlockLaws.{Coding}
use Rattle.record.proofs.blocks.actions.Given as goal

abbrev pub invariant-loop-i : goal.invariant-loop-i
invariant-loop-i l = Coding l.s l.initial.c l.c l.count l.i l.first l.loans l.initial.points l.points
