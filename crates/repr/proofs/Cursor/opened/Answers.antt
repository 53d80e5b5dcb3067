-- `repr::Cursor::opened` meets its contract. Assumes nothing.
use Rattle.std.specs.Prelude.{Ok}
use Rattle.repr.proofs.ReadLaws.{passed_on}
use native.Mathlib.Omega.{arith}
use mathlib.Core.Path.{sym, ap, ◌∙◌}
use Rattle.repr.proofs.TypeLaws.{down_ref, opened_missing, opened_full, opened_refused, opened_end, opened_struct}
use Rattle.repr.proofs.Cursor.opened.Goals as goal

pub returns-in_err-referent : goal.returns-in_err-referent
returns-in_err-referent c = rw (passed_on c.from_residual.ensures) (opened_refused c.loop-few.invariant c.type_node.ensures (omega arith) c.in_err-referent.was)

pub loop-few-preserved : goal.loop-few-preserved
loop-few-preserved c = down_ref c.loop-few.invariant c.type_node.ensures (omega arith) (c.in_ok-referent.was ∙ ap Ok c.in-Ref.is)

pub returns-in-Struct : goal.returns-in-Struct
returns-in-Struct c = opened_struct c.loop-few.invariant c.type_node.ensures (omega arith) (c.in_ok-referent.was ∙ ap Ok c.in-Struct.is) (omega arith)

pub returns-in-Unit : goal.returns-in-Unit
returns-in-Unit c = opened_end c.loop-few.invariant c.type_node.ensures (omega arith) c.in_ok-referent.was c.in-Unit.is

pub returns-in-Unit-2 : goal.returns-in-Unit-2
returns-in-Unit-2 c = opened_end c.loop-few.invariant c.type_node.ensures (omega arith) c.in_ok-referent.was c.in-Unit.is

pub returns-in_err-byte : goal.returns-in_err-byte
returns-in_err-byte c = rw (passed_on c.from_residual-in_err-byte.ensures) (opened_missing c.loop-few.invariant (sym c.in_err-byte.ensures))

pub returns : goal.returns
returns c = opened_full c.loop-few.invariant (sym c.in_ok-byte.ensures) (omega arith)
