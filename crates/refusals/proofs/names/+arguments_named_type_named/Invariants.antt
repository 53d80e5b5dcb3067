-- `refusals::names::arguments_named` and `refusals::names::type_named` meet their contracts. The loop's invariant: the answer from the rest on is the answer for the whole. Assumes nothing.
use Rattle.refusals.proofs.WalkLaws as walks
use Rattle.refusals.specs.Tests.{ArgumentsNamed}
use Prim.Native.Nat.{◌+◌, ◌*◌, ◌-◌}
use Rattle.refusals.proofs.names.+arguments_named_type_named.Given as goal

abbrev pub decreases-arguments_named : goal.decreases-arguments_named
decreases-arguments_named l = 2 * l.left + 1

abbrev pub decreases-type_named : goal.decreases-type_named
decreases-type_named l = 2 * l.left

abbrev pub invariant-arguments_named-loop : goal.invariant-arguments_named-loop
invariant-arguments_named-loop l = walks.Onward l.rest.left l.left (ArgumentsNamed l.input l.rest.next.at (l.count - l.counter) l.rest.left) (ArgumentsNamed l.input l.initial.rest.next.at l.count l.left)
