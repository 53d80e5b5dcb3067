-- `liveness::actions::add`. Assumes nothing.
use Rattle.liveness.specs.Needs.{start_of}
use Rattle.liveness.proofs.HalfLaws.{add_large, add_small}
use native.Mathlib.Omega.{arith}
use Rattle.liveness.proofs.actions.add.Goals as goal

pub returns-then-k-lt64 : goal.returns-then-k-lt64
returns-then-k-lt64 c = let a = c.args in
    add_small a.p a.sets.now _ a.v.0 c.from-k.ensures (start_of a.half) (omega (arith, c.start.ensures.0, c.start.ensures.1)) c.requires c.if-k-lt64.true (rw c.start.ensures.0 at c.add.ensures.0)

pub returns-else-k-lt64 : goal.returns-else-k-lt64
returns-else-k-lt64 c = let a = c.args in add_large a.p a.sets.now _ a.v.0 c.from-k.ensures (start_of a.half) (omega (arith, c.if-k-lt64.false))
