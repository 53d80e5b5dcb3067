use Rattle.env.proofs.PathLaws as laws
use Rattle.env.proofs.paths.field_step.Goals as goal

pub returns-in_err-x : goal.returns-in_err-x
returns-in_err-x c = rw c.from_residual.ensures (laws.field_absent _ c.struct_decl_at.ensures c.field_type.ensures c.in_err-x.was)

pub returns-in_err-subst : goal.returns-in_err-subst
returns-in_err-subst c = rw c.from_residual-in_err-subst.ensures (laws.field_large _ c.struct_decl_at.ensures c.field_type.ensures c.in_ok-x.was c.subst.ensures c.in_err-subst.was)

pub returns : goal.returns
returns c = laws.field_written _ c.struct_decl_at.ensures c.field_type.ensures c.in_ok-x.was c.subst.ensures c.in_ok-subst.was
