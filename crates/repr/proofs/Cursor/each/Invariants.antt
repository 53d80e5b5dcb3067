-- `repr::Cursor::each` meets its contract. Assumes nothing.
use Rattle.repr.proofs.RowLaws.{Going}
use Rattle.repr.proofs.Cursor.each.Given as goal

abbrev pub invariant-loop : goal.invariant-loop
invariant-loop g l = Going (goal.F-post g l.part) l.count l.initial.c l.counter l.c
