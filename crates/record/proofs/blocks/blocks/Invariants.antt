-- `record::blocks::blocks` meets its contract. Assumes nothing.
use Rattle.record.proofs.BlockLaws.{Blocking}
use Rattle.record.proofs.blocks.blocks.Given as goal

abbrev pub invariant-loop-b : goal.invariant-loop-b
invariant-loop-b l = Blocking l.s l.initial.c l.c l.count l.b l.points l.loans l.initial.layout l.layout
