use mathlib.Core.Path.{refl}
use native.Mathlib.Omega.{arith}
use Rattle.env.proofs.PrefixLaws as laws
use Rattle.env.proofs.prefixes.shortest.Goals as goal

pub loop-i-preserved : goal.loop-i-preserved
loop-i-preserved c = laws.shortest-more c.loop-i.invariant (omega arith) (rw c.from.ensures refl) c.later-r.ensures
