-- `absent_regions::absent_in` meets its contract. Assumes nothing.
use mathlib.Core.Path.{◌≡◌}
use native.Mathlib.Omega.{arith}
use Rattle.absent_regions.proofs.MarkLaws.{absent_none, absent_more}
use Rattle.absent_regions.proofs.absent_in.Goals as goal

pub loop-i-init : goal.loop-i-init
loop-i-init c = absent_none

pub loop-i-preserved : goal.loop-i-preserved
loop-i-preserved c = absent_more c.loop-i.i c.loop-i.invariant c.get.ensures c.from-region.ensures c.kill.ensures.0

pub returns : goal.returns
returns c = let e : c.loop-i.i ≡ c.count-i-end.result = omega arith in
    rw (← c.count-i-end.ensures, ← e) c.loop-i.invariant
