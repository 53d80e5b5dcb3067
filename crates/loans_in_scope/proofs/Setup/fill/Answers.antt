-- `loans_in_scope::Setup::fill`. The loop's invariant: the loans that may pass the first p points are in their sets. Assumes nothing.
use mathlib.Core.Path.{◌≡◌}
use native.Mathlib.Omega.{arith}
use Rattle.loans_in_scope.proofs.FillLaws.{kept_to_more, all-filled}
use Rattle.loans_in_scope.proofs.Setup.fill.Goals as goal

pub loop-p-preserved : goal.loop-p-preserved
loop-p-preserved c = let l = c.loop-p in (omega (arith, l.invariant.0), kept_to_more c.args.self.now _ l.p l.invariant.1 c.keep_all.ensures)

pub returns : goal.returns
returns c = let r = c.requires in
    let l = c.loop-p in
    let e : l.p ≡ c.args.self.now.code = omega arith in
    all-filled {v = c.args.self.now} r.1 c.enter.ensures.0 c.enter.ensures.1 (rw e at l.invariant.1)
