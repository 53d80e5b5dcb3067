-- `record::Record::struct_decl_at` meets its contract. Assumes nothing.
use Rattle.record.proofs.AccessLaws.{struct_past, struct_there, struct_refused}
use Rattle.record.proofs.Record.struct_decl_at.Goals as goal

pub returns-then-self-name : goal.returns-then-self-name
returns-then-self-name c = λ j w. struct_past w c.struct_at-at.ensures c.if-self-name.true

pub returns-in-Ok : goal.returns-in-Ok
returns-in-Ok c = λ j w. struct_there w c.struct_at-at.ensures c.if-self-name.false c.struct_decl.ensures c.in-Ok.is

pub returns-in-Err : goal.returns-in-Err
returns-in-Err c = λ j w. struct_refused w c.struct_at-at.ensures c.if-self-name.false c.struct_decl.ensures c.in-Err.is
