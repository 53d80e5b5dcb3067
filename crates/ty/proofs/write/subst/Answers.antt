use mathlib.Core.Path.{refl}
use Rattle.std.proofs.Common.{rules}
use Rattle.ty.proofs.SubstLaws as laws
use Rattle.ty.proofs.write.subst.Goals as goal

pub returns-in_err-subst_type : goal.returns-in_err-subst_type
returns-in_err-subst_type c = rw c.from_residual.ensures (laws.whole-over refl refl c.subst_type.ensures c.in_err-subst_type.was)

pub returns : goal.returns
returns c = let s = (laws.room_there c.subst_type.ensures.room c.in_ok-subst_type.was).same in let k = laws.whole_written refl refl c.subst_type.ensures c.in_ok-subst_type.was in search rules
