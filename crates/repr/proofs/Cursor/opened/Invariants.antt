-- `repr::Cursor::opened` meets its contract. The loop's invariant: up to c there are Refs. Assumes nothing.
use Rattle.repr.proofs.TypeLaws.{Down}
use Rattle.repr.proofs.Cursor.opened.Given as goal

abbrev pub invariant-loop-few : goal.invariant-loop-few
invariant-loop-few l = Down l.s l.initial.c.at l.left l.c.at l.few
