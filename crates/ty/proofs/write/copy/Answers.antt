use mathlib.Core.Path.{refl}
use Rattle.std.proofs.Common.{rules}
use Rattle.ty.proofs.SubstLaws as laws
use Rattle.ty.proofs.write.copy.Goals as goal

pub returns-in_err-put_type : goal.returns-in_err-put_type
returns-in_err-put_type c = rw c.from_residual.ensures (laws.copied_over refl refl c.put_type.ensures c.in_err-put_type.was)

pub returns : goal.returns
returns c = let s = (laws.room_there c.put_type.ensures.room c.in_ok-put_type.was).same in let k = laws.copied_written refl refl c.put_type.ensures c.in_ok-put_type.was in search rules
