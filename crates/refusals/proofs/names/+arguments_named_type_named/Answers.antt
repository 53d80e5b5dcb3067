-- `refusals::names::arguments_named` and `refusals::names::type_named` meet their contracts. Assumes nothing.
use Rattle.std.specs.Prelude.{Ok}
use mathlib.Core.Path.{◌≡◌, ap, ◌∙◌}
use Prim.Native.Nat.{◌+◌, ◌-◌}
use native.Mathlib.Omega.{arith}
use Rattle.repr.proofs.ReadLaws.{passed_on}
use Rattle.refusals.proofs.NameLaws as laws
use Rattle.refusals.proofs.WalkLaws as walks
use Rattle.refusals.proofs.names.+arguments_named_type_named.Goals as goal
use Rattle.refusals.proofs.names.+arguments_named_type_named.Goals.{arguments_named-in-Region+else-not-region_named, arguments_named-in-Type+in_ok-rest-in-Type}

pub type_named-returns-then-left-eq0 : goal.type_named-returns-then-left-eq0
type_named-returns-then-left-eq0 t c = laws.named_none (omega arith)

pub type_named-returns-in_err-next : goal.type_named-returns-in_err-next
type_named-returns-in_err-next t c = rw (passed_on c.from_residual.ensures) (laws.named-refused c.type_node.ensures c.in_err-next.was)

pub type_named-returns-then-not-region_named : goal.type_named-returns-then-not-region_named
type_named-returns-then-not-region_named t c = laws.ref_unnamed c.type_node.ensures (c.in_ok-next.was ∙ ap Ok c.in-Ref.is) c.region_named.ensures c.if-not-region_named.true

pub type_named-returns-then-input-name : goal.type_named-returns-then-input-name
type_named-returns-then-input-name t c = laws.struct_unnamed c.type_node.ensures (c.in_ok-next.was ∙ ap Ok c.in-Struct.is) (omega arith)

pub type_named-returns-else-not-region_named : goal.type_named-returns-else-not-region_named
type_named-returns-else-not-region_named t c = laws.named_ref c.type_node.ensures (c.in_ok-next.was ∙ ap Ok c.in-Ref.is) c.region_named.ensures c.if-not-region_named.false (omega arith) c.type_named.ensures

pub type_named-returns-else-input-name : goal.type_named-returns-else-input-name
type_named-returns-else-input-name t c = laws.named_struct c.type_node.ensures (c.in_ok-next.was ∙ ap Ok c.in-Struct.is) (omega arith) (omega arith) c.arguments_named.ensures

pub type_named-returns-in-Unit : goal.type_named-returns-in-Unit
type_named-returns-in-Unit t c = laws.named-end c.type_node.ensures c.in_ok-next.was c.in-Unit.is

pub type_named-returns-in-Unit-2 : goal.type_named-returns-in-Unit-2
type_named-returns-in-Unit-2 t c = laws.named-end c.type_node.ensures c.in_ok-next.was c.in-Unit.is

pub arguments_named-returns-in_err-region : goal.arguments_named-returns-in_err-region
arguments_named-returns-in_err-region t c = rw (passed_on c.from_residual.ensures) (c.loop.invariant.whole _ (laws.arguments_refused c.argument.ensures (omega arith) c.in_err-region.was))

pub arguments_named-returns-then-not-region_named : goal.arguments_named-returns-then-not-region_named
arguments_named-returns-then-not-region_named t c = c.loop.invariant.whole _ (laws.region_unnamed c.argument.ensures (omega arith) (c.in_ok-region.was ∙ ap Ok c.in-Region.is) c.region_named.ensures c.if-not-region_named.true)

pub arguments_named-returns-in_err-rest-in-Type : goal.arguments_named-returns-in_err-rest-in-Type
arguments_named-returns-in_err-rest-in-Type t c = rw (passed_on c.from_residual-in_err-rest-in-Type.ensures) (c.loop.invariant.whole _ (laws.type_unnamed c.argument.ensures (omega arith) (c.in_ok-region.was ∙ ap Ok c.in-Type.is) c.type_named.ensures c.in_err-rest-in-Type.was))

pub arguments_named-loop-preserved : goal.arguments_named-loop-preserved
arguments_named-loop-preserved t c =
    let e : c.args.count - (c.loop.counter + 1) ≡ c.args.count - c.loop.counter - 1 = omega arith in
    elim c.match-branch-2.branch [
      | arguments_named-in-Region+else-not-region_named w ↦ rw (w.rest-is, e) (walks.further c.loop.invariant (omega arith) (λ r. laws.arguments_region c.argument.ensures (omega arith) (c.in_ok-region.was ∙ ap Ok w.in-Region.is) w.region_named.ensures w.if-not-region_named.false))
      | arguments_named-in-Type+in_ok-rest-in-Type w ↦ rw (w.rest-is, e) (walks.further c.loop.invariant (walks.rest-fewer w.type_named.ensures.fewer w.in_ok-rest-in-Type.was) (λ r. laws.arguments_type c.argument.ensures (omega arith) (c.in_ok-region.was ∙ ap Ok w.in-Type.is) w.type_named.ensures w.in_ok-rest-in-Type.was))
    ]

pub arguments_named-returns : goal.arguments_named-returns
arguments_named-returns t c = c.loop.invariant.whole _ (laws.arguments_none _ (omega arith))
