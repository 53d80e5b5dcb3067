-- `seeds::regions::add_arguments` and `seeds::regions::add_type` meet their contracts. Assumes nothing.
use mathlib.Core.Path.{ap, ◌∙◌}
use Rattle.std.specs.Prelude.{Ok}
use Rattle.repr.proofs.ReadLaws.{passed_on}
use Rattle.seeds.proofs.ChosenLaws.{adds_none, adds-refused, adds_end, adds_ref, adds_struct, args_unread, args-refused, args-stopped, args-region, args-type, passing_more, passing_all}
use native.Mathlib.Omega.{arith}
use native.Mathlib.Nat.{le_refl}
use Rattle.seeds.proofs.regions.+add_arguments_add_type.Goals as goal
use Rattle.seeds.proofs.regions.+add_arguments_add_type.Goals.{add_arguments-in-Region, add_arguments-in-Type+in_ok-rest-in-Type}

pub add_arguments-returns-in_err-dangles : goal.add_arguments-returns-in_err-dangles
add_arguments-returns-in_err-dangles t c = rw (passed_on c.from_residual.ensures) (c.loop.invariant.onward _ _ (args_unread c.first_parameter.ensures c.in_err-dangles.was))

pub add_arguments-returns-in_err-region : goal.add_arguments-returns-in_err-region
add_arguments-returns-in_err-region t c = rw (passed_on c.from_residual-in_err-region.ensures) (c.loop.invariant.onward _ _ (args-refused c.argument.ensures (omega arith) c.in_err-region.was))

pub add_arguments-returns-in_err-rest-in-Type : goal.add_arguments-returns-in_err-rest-in-Type
add_arguments-returns-in_err-rest-in-Type t c =
    rw (passed_on c.from_residual-in_err-rest-in-Type.ensures)
    (c.loop.invariant.onward _ _ (args-stopped c.argument.ensures (omega arith) (c.in_ok-region.was ∙ ap Ok c.in-Type.is) c.add_type.ensures c.in_err-rest-in-Type.was))

pub add_arguments-loop-preserved : goal.add_arguments-loop-preserved
add_arguments-loop-preserved t c =
    elim c.match-branch-3.branch [
      | add_arguments-in-Region w ↦
          rw (w.set-is, w.rest-is)
          (passing_more c.loop.invariant (le_refl _) (λ after r v. args-region c.argument.ensures (omega arith) c.first_parameter.ensures c.in_ok-dangles.was c.in_argument-inner.ensures (c.in_ok-region.was ∙ ap Ok w.in-Region.is) w.add_region.ensures v))
      | add_arguments-in-Type+in_ok-rest-in-Type w ↦
          rw (w.set-is, w.rest-is)
          (passing_more c.loop.invariant (w.add_type.ensures.fewer _ w.in_ok-rest-in-Type.was)
          (λ after r v. args-type c.argument.ensures (omega arith) c.first_parameter.ensures c.in_ok-dangles.was c.in_argument-inner.ensures (c.in_ok-region.was ∙ ap Ok w.in-Type.is) w.add_type.ensures w.in_ok-rest-in-Type.was v))
    ]

pub add_arguments-returns : goal.add_arguments-returns
add_arguments-returns t c = passing_all c.loop.invariant (omega arith)

pub add_type-returns-then-from-eq0 : goal.add_type-returns-then-from-eq0
add_type-returns-then-from-eq0 t c = adds_none c.if-from-eq0.true

pub add_type-returns-in_err-next : goal.add_type-returns-in_err-next
add_type-returns-in_err-next t c = rw (passed_on c.from_residual.ensures) (adds-refused c.type_node.ensures c.in_err-next.was)

pub add_type-returns-in-Unit : goal.add_type-returns-in-Unit
add_type-returns-in-Unit t c = adds_end c.type_node.ensures c.in_ok-next.was c.in-Unit.is

pub add_type-returns-in-Unit-2 : goal.add_type-returns-in-Unit-2
add_type-returns-in-Unit-2 t c = adds_end c.type_node.ensures c.in_ok-next.was c.in-Unit.is

pub add_type-returns-in-Ref : goal.add_type-returns-in-Ref
add_type-returns-in-Ref t c = adds_ref c.type_node.ensures (c.in_ok-next.was ∙ ap Ok c.in-Ref.is) c.if-from-eq0.false c.add_region.ensures c.in_ref.ensures c.add_type.ensures

pub add_type-returns-in-Struct : goal.add_type-returns-in-Struct
add_type-returns-in-Struct t c = adds_struct c.type_node.ensures (c.in_ok-next.was ∙ ap Ok c.in-Struct.is) c.if-from-eq0.false c.struct_decl_at-d.ensures c.add_arguments.ensures
