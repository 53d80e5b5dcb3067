-- `relate::Relation::relate_types`, `relate::Relation::relate_first` and `relate::Relation::relate_arguments` meet their contracts. Assumes nothing.
use Rattle.relate.proofs.RelateLaws as laws
use Rattle.repr.proofs.ReadLaws.{ok_some, ok_none}
use Rattle.std.specs.Prelude.{Some}
use mathlib.Core.Path.{sym, ap, ◌∙◌}
use native.Mathlib.Omega.{arith}
use native.Mathlib.Nat.{le_refl, sub-zero}
use Rattle.relate.proofs.Relation.+relate_arguments_relate_first_relate_types.Goals as goal

pub relate_arguments-loop-init : goal.relate_arguments-loop-init
relate_arguments-loop-init t c = record { count = sym (sub-zero _); fewer = le_refl _; onward = λ ls r u. u }

pub relate_arguments-relate_first-requires : goal.relate_arguments-relate_first-requires
relate_arguments-relate_first-requires t c = let k = c.loop.invariant.count in let f = c.loop.invariant.fewer in (omega arith, λ z. omega arith)

pub relate_arguments-returns-in_err-one : goal.relate_arguments-returns-in_err-one
relate_arguments-returns-in_err-one t c = rw c.from_residual.ensures (c.loop.invariant.onward _ _ (laws.arguments_stopped c.first_parameter-own.ensures c.within-w.ensures c.relate_first.ensures c.in_err-one.was))

pub relate_arguments-loop-preserved : goal.relate_arguments-loop-preserved
relate_arguments-loop-preserved t c = record {
  count = let k = c.loop.invariant.count in let m = c.after.ensures.1 in omega arith;
  fewer = let k = laws.rest-fewer _ c.relate_first.ensures.fewer c.in_ok-one.was in let f = c.loop.invariant.fewer in omega arith;
  onward = λ ls r u. c.loop.invariant.onward ls r (laws.arguments_more c.first_parameter-own.ensures c.within-w.ensures c.relate_first.ensures c.in_ok-one.was c.after.ensures c.after-in-loop.ensures u);
}

pub relate_arguments-returns-in_err-end : goal.relate_arguments-returns-in_err-end
relate_arguments-returns-in_err-end t c = let k = c.loop.invariant.count in rw c.from_residual-in_err-end.ensures (c.loop.invariant.onward _ _ (laws.arguments_short c.arguments.ensures (omega arith) (ok_none c.ok.ensures.value c.in_err-end.was).1))

pub relate_arguments-returns : goal.relate_arguments-returns
relate_arguments-returns t c = let k = c.loop.invariant.count in c.loop.invariant.onward _ _ (laws.arguments_none c.arguments.ensures (omega arith) (ok_some c.ok.ensures.value c.in_ok-end.was))

pub relate_first-returns-in_err-r : goal.relate_first-returns-in_err-r
relate_first-returns-in_err-r t c = rw c.from_residual.ensures (laws.first-differ c.requires c.first_pair.ensures c.in_err-r.was)

pub relate_first-returns-then-left-eq0 : goal.relate_first-returns-then-left-eq0
relate_first-returns-then-left-eq0 t c = laws.first_spent c.requires c.first_pair.ensures (c.in_ok-r.was ∙ ap Some c.in-Units.is) c.if-left-eq0.true

pub relate_first-returns-in-Regions : goal.relate_first-returns-in-Regions
relate_first-returns-in-Regions t c = laws.first-regions c.requires c.first_pair.ensures (c.in_ok-r.was ∙ ap Some c.in-Regions.is) c.relate_regions.ensures

pub relate_first-returns-else-left-eq0 : goal.relate_first-returns-else-left-eq0
relate_first-returns-else-left-eq0 t c = laws.first_units c.requires c.first_pair.ensures (c.in_ok-r.was ∙ ap Some c.in-Units.is)

pub relate_first-returns-in-Types : goal.relate_first-returns-in-Types
relate_first-returns-in-Types t c = laws.first_types c.requires c.first_pair.ensures (c.in_ok-r.was ∙ ap Some c.in-Types.is) c.relate_types.ensures

pub relate_types-returns-then-two-eq0 : goal.relate_types-returns-then-two-eq0
relate_types-returns-then-two-eq0 t c = laws.types_none c.if-two-eq0.true

pub relate_types-returns-in_err-p : goal.relate_types-returns-in_err-p
relate_types-returns-in_err-p t c = rw c.from_residual.ensures (laws.types_differ c.type_node.ensures c.type_node-2.ensures c.beside.ensures c.in_err-p.was)

pub relate_types-returns-in-Units : goal.relate_types-returns-in-Units
relate_types-returns-in-Units t c = laws.types_units c.type_node.ensures c.type_node-2.ensures c.beside.ensures (c.in_ok-p.was ∙ ap Some c.in-Units.is)

pub relate_types-returns-in-Refs : goal.relate_types-returns-in-Refs
relate_types-returns-in-Refs t c = laws.types_refs c.type_node.ensures c.type_node-2.ensures c.beside.ensures (c.in_ok-p.was ∙ ap Some c.in-Refs.is) c.if-two-eq0.false c.invert.ensures c.referent_variance.ensures c.within-w.ensures c.relate_regions.ensures c.relate_types.ensures

pub relate_types-returns-in-Structs : goal.relate_types-returns-in-Structs
relate_types-returns-in-Structs t c = laws.types_structs c.type_node.ensures c.type_node-2.ensures c.beside.ensures (c.in_ok-p.was ∙ ap Some c.in-Structs.is) c.if-two-eq0.false c.parameters_of-params.ensures c.relate_arguments.ensures
