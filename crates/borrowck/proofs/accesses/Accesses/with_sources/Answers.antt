-- `borrowck::accesses::Accesses::with_sources` meets its contract. Assumes nothing.
use mathlib.Core.Path.{refl, ap}
use mathlib.Core.List.{[], ◌∷◌}
use native.Mathlib.Omega.{arith}
use Rattle.borrowck.proofs.AccessLaws.{sourcing_all, sources_refused, sourcing_more, sources_end}
use Rattle.borrowck.proofs.accesses.Accesses.with_sources.Goals as goal

pub loop-i-init : goal.loop-i-init
loop-i-init c = sourcing_all refl (ap (λ x. x ∷ []) c.shallow_write-list.ensures)

pub returns-in_default : goal.returns-in_default
returns-in_default c = sources_refused c.loop-i.invariant (omega (arith, c.min.ensures, c.from-sources.ensures)) (omega (arith, c.min.ensures, c.from-sources.ensures, c.loop-i-test.true)) c.path.ensures c.in_default.is

pub loop-i-preserved : goal.loop-i-preserved
loop-i-preserved c = sourcing_more c.loop-i.invariant (omega (arith, c.min.ensures, c.from-sources.ensures)) (omega (arith, c.min.ensures, c.from-sources.ensures, c.loop-i-test.true)) c.path.ensures c.in-Ok.is c.read.ensures (omega (arith, c.min.ensures, c.from-sources.ensures, c.loop-i-test.true))

pub returns : goal.returns
returns c = sources_end c.loop-i.invariant (omega (arith, c.min.ensures, c.from-sources.ensures)) refl (omega (arith, c.loop-i-test.false)) (omega (arith, c.min.ensures, c.from-sources.ensures, c.loop-i-test.false))
