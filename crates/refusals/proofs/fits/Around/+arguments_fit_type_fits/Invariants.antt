-- `refusals::fits::Around::arguments_fit` and `refusals::fits::Around::type_fits` meet their contracts. The loop's invariant: the answer from the rest on is the answer for the whole. Assumes nothing.
use Rattle.refusals.proofs.WalkLaws as walks
use Rattle.refusals.specs.Fits.{ArgumentsFit}
use Prim.Native.Nat.{◌+◌, ◌*◌, ◌-◌}
use Rattle.refusals.proofs.fits.Around.+arguments_fit_type_fits.Given as goal

abbrev pub decreases-arguments_fit : goal.decreases-arguments_fit
decreases-arguments_fit l = 2 * l.left + 1

abbrev pub decreases-type_fits : goal.decreases-type_fits
decreases-type_fits l = 2 * l.left

abbrev pub invariant-arguments_fit-loop : goal.invariant-arguments_fit-loop
invariant-arguments_fit-loop l = walks.Onward l.rest.left l.left (ArgumentsFit l.self l.declared l.rest.next.at (l.fn.of.count - l.counter) l.rest.left) (ArgumentsFit l.self l.initial.declared l.initial.rest.next.at l.fn.of.count l.left)
