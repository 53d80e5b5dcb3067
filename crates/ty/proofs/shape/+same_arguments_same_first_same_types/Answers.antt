use mathlib.Core.Path.{refl, ap, ◌∙◌}
use native.Mathlib.Omega.{arith}
use Rattle.std.specs.Prelude.{Some}
use Rattle.repr.proofs.ReadLaws.{ok_some, ok_none}
use Rattle.ty.proofs.ShapeLaws as laws
use Rattle.ty.proofs.shape.+same_arguments_same_first_same_types.Goals as goal

pub same_arguments-returns-in_err-same : goal.same_arguments-returns-in_err-same
same_arguments-returns-in_err-same t c = rw c.from_residual.ensures (c.loop.invariant.onward _ (laws.arguments_differ (λ e. omega arith) c.same_first.ensures c.in_err-same.was))

pub same_arguments-loop-preserved : goal.same_arguments-loop-preserved
same_arguments-loop-preserved t c = record {
  fewer = let k = laws.rest-fewer _ c.same_first.ensures.fewer c.in_ok-same.was in let f = c.loop.invariant.fewer in omega arith;
  onward = λ r u. c.loop.invariant.onward r (laws.arguments_more (λ e. omega arith) c.same_first.ensures c.in_ok-same.was (refl, omega arith) c.after-row.ensures u);
}

pub same_arguments-returns-in_err-rest : goal.same_arguments-returns-in_err-rest
same_arguments-returns-in_err-rest t c = rw c.from_residual-in_err-rest.ensures (c.loop.invariant.onward _ (laws.arguments_short c.arguments.ensures (omega arith) (ok_none c.ok.ensures.value c.in_err-rest.was).1))

pub same_arguments-returns : goal.same_arguments-returns
same_arguments-returns t c = c.loop.invariant.onward _ (laws.arguments_none c.arguments.ensures (omega arith) (ok_some c.ok.ensures.value c.in_ok-rest.was))

pub same_first-returns-in_err-a : goal.same_first-returns-in_err-a
same_first-returns-in_err-a t c = rw c.from_residual.ensures (laws.first-differ c.first_pair.ensures c.in_err-a.was)

pub same_first-returns-in_err-left-in-Units : goal.same_first-returns-in_err-left-in-Units
same_first-returns-in_err-left-in-Units t c = rw c.from_residual-in_err-left-in-Units.ensures (laws.first_spent c.first_pair.ensures (c.in_ok-a.was ∙ ap Some c.in-Units.is) (omega (arith, c.in_err-left-in-Units.ensures)))

pub same_first-returns-in-Regions : goal.same_first-returns-in-Regions
same_first-returns-in-Regions t c = laws.first-regions c.first_pair.ensures (c.in_ok-a.was ∙ ap Some c.in-Regions.is)

pub same_first-returns-in_ok-left-in-Units : goal.same_first-returns-in_ok-left-in-Units
same_first-returns-in_ok-left-in-Units t c = let h = c.in_ok-left-in-Units.ensures in rw h.1 (laws.first_units c.first_pair.ensures (c.in_ok-a.was ∙ ap Some c.in-Units.is) (λ z. let k = h.0 in omega arith))

pub same_first-returns-in-Types : goal.same_first-returns-in-Types
same_first-returns-in-Types t c = laws.first_types c.first_pair.ensures (c.in_ok-a.was ∙ ap Some c.in-Types.is) c.same_types.ensures

pub same_types-returns-then-left-eq0 : goal.same_types-returns-then-left-eq0
same_types-returns-then-left-eq0 t c = laws.types_none c.if-left-eq0.true

pub same_types-returns-in_err-a : goal.same_types-returns-in_err-a
same_types-returns-in_err-a t c = rw c.from_residual.ensures (laws.types_differ c.type_node.ensures c.type_node-2.ensures c.beside.ensures c.in_err-a.was)

pub same_types-returns-in-Units : goal.same_types-returns-in-Units
same_types-returns-in-Units t c = laws.types_units c.type_node.ensures c.type_node-2.ensures c.beside.ensures (c.in_ok-a.was ∙ ap Some c.in-Units.is)

pub same_types-returns-in-Refs : goal.same_types-returns-in-Refs
same_types-returns-in-Refs t c = laws.types_refs c.type_node.ensures c.type_node-2.ensures c.beside.ensures (c.in_ok-a.was ∙ ap Some c.in-Refs.is) c.if-left-eq0.false c.same_types.ensures

pub same_types-returns-in-Structs : goal.same_types-returns-in-Structs
same_types-returns-in-Structs t c = laws.types_structs c.type_node.ensures c.type_node-2.ensures c.beside.ensures (c.in_ok-a.was ∙ ap Some c.in-Structs.is) c.if-left-eq0.false c.same_arguments.ensures
