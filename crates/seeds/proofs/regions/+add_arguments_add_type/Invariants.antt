-- `seeds::regions::add_arguments` and `seeds::regions::add_type` meet their contracts. Assumes nothing.
use Prim.Native.Nat.{◌+◌, ◌*◌}
use Rattle.seeds.proofs.ChosenLaws.{Passing}
use Rattle.seeds.proofs.regions.+add_arguments_add_type.Given as goal

abbrev pub decreases-add_arguments : goal.decreases-add_arguments
decreases-add_arguments l = 300 * l.from.left + 1

abbrev pub decreases-add_type : goal.decreases-add_type
decreases-add_type l = 300 * l.from.left

abbrev pub invariant-add_arguments-loop : goal.invariant-add_arguments-loop
invariant-add_arguments-loop l = Passing l.input l.which l.initial.params l.initial.rest l.count l.initial.set l.params l.rest l.counter l.set
