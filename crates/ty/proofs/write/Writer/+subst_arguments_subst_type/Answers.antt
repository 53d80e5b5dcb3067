use Prim.Native.Nat.{ℕ, ◌+◌, ◌-◌}
use mathlib.Core.Path.{◌≡◌, ap, ◌∙◌}
use native.Mathlib.Omega.{arith}
use Rattle.std.specs.Prelude.{Ok}
use Rattle.repr.proofs.ReadLaws.{ok_some, ok_none}
use Rattle.ty.proofs.SubstLaws as laws
use Rattle.ty.proofs.write.Writer.+subst_arguments_subst_type.Goals.{subst_arguments-in-Region, subst_arguments-in-Type+in_ok-next-in-Type}
use Rattle.ty.proofs.write.Writer.+subst_arguments_subst_type.Goals as goal

less : (n i : ℕ) → n - (i + 1) ≡ n - i - 1
less n i = omega arith

pub subst_arguments-returns-in_err-region : goal.subst_arguments-returns-in_err-region
subst_arguments-returns-in_err-region t c = rw c.from_residual.ensures (c.loop.invariant.onward _ _ (laws.arguments_refused c.argument.ensures (λ e. omega arith) (ok_none c.ok.ensures.value c.in_err-region.was).1))

pub subst_arguments-returns-in_err-next-in-Type : goal.subst_arguments-returns-in_err-next-in-Type
subst_arguments-returns-in_err-next-in-Type t c = rw c.from_residual-in_err-next-in-Type.ensures (c.loop.invariant.onward _ _ (laws.arguments_over c.argument.ensures (λ e. omega arith) (ok_some c.ok.ensures.value c.in_ok-region.was ∙ ap Ok c.in-Type.is) c.put-in-Type.ensures c.subst_type.ensures c.in_err-next-in-Type.was))

pub subst_arguments-loop-preserved : goal.subst_arguments-loop-preserved
subst_arguments-loop-preserved t c = elim c.match-branch-2.branch [
  | subst_arguments-in-Region w ↦ record {
    fewer = rw w.self-is (omega (arith, w.put.ensures.took, c.loop.invariant.fewer));
    room = rw w.self-is (omega (arith, w.put.ensures.took, w.put.ensures.ends, c.loop.invariant.room));
    onward = λ new r u. c.loop.invariant.onward new r (laws.arguments_region c.argument.ensures (λ e. omega arith) (ok_some c.ok.ensures.value c.in_ok-region.was ∙ ap Ok w.in-Region.is) w.region.ensures (rw w.spelled.ensures at w.put.ensures) (rw (w.self-is, w.next-is, less c.args.count c.loop.counter) at u));
  }
  | subst_arguments-in-Type+in_ok-next-in-Type w ↦ record {
    fewer = let s = laws.room_there w.subst_type.ensures.room w.in_ok-next-in-Type.was in rw w.self-is (omega (arith, w.put-in-Type.ensures.took, s.fewer, c.loop.invariant.fewer));
    room = let s = laws.room_there w.subst_type.ensures.room w.in_ok-next-in-Type.was in rw w.self-is (omega (arith, w.put-in-Type.ensures.took, w.put-in-Type.ensures.ends, s.room, c.loop.invariant.room));
    onward = λ new r u. c.loop.invariant.onward new r (laws.arguments_type c.argument.ensures (λ e. omega arith) (ok_some c.ok.ensures.value c.in_ok-region.was ∙ ap Ok w.in-Type.is) w.put-in-Type.ensures w.subst_type.ensures w.in_ok-next-in-Type.was (rw (w.self-is, w.next-is, less c.args.count c.loop.counter) at u));
  }
]

pub subst_arguments-returns : goal.subst_arguments-returns
subst_arguments-returns t c = c.loop.invariant.onward _ _ (laws.arguments_none _ (omega arith))

pub subst_type-returns-then-self-eq0 : goal.subst_type-returns-then-self-eq0
subst_type-returns-then-self-eq0 t c = laws.subst-none c.if-self-eq0.true

pub subst_type-returns-in_err-next : goal.subst_type-returns-in_err-next
subst_type-returns-in_err-next t c = rw c.from_residual.ensures (laws.subst-refused c.type_node.ensures (ok_none c.ok.ensures.value c.in_err-next.was).1)

pub subst_type-returns-then-count-gt4 : goal.subst_type-returns-then-count-gt4
subst_type-returns-then-count-gt4 t c = laws.subst-wide c.type_node.ensures (ok_some c.ok.ensures.value c.in_ok-next.was ∙ ap Ok c.in-Struct.is) c.if-count-gt4.true

pub subst_type-returns-in-Unit : goal.subst_type-returns-in-Unit
subst_type-returns-in-Unit t c = laws.subst-unit c.type_node.ensures (ok_some c.ok.ensures.value c.in_ok-next.was ∙ ap Ok c.in-Unit.is) c.put.ensures

pub subst_type-returns-in-Bound : goal.subst_type-returns-in-Bound
subst_type-returns-in-Bound t c = laws.subst_bound c.type_node.ensures (ok_some c.ok.ensures.value c.in_ok-next.was ∙ ap Ok c.in-Bound.is) c.put_bound.ensures

pub subst_type-returns-in-Ref : goal.subst_type-returns-in-Ref
subst_type-returns-in-Ref t c = laws.subst_ref c.type_node.ensures (ok_some c.ok.ensures.value c.in_ok-next.was ∙ ap Ok c.in-Ref.is) c.region.ensures (rw (c.spelled.ensures, c.kind_byte.ensures) at c.put-in-Ref.ensures) c.subst_type.ensures

pub subst_type-returns-else-count-gt4 : goal.subst_type-returns-else-count-gt4
subst_type-returns-else-count-gt4 t c = laws.subst_struct c.type_node.ensures (ok_some c.ok.ensures.value c.in_ok-next.was ∙ ap Ok c.in-Struct.is) (omega arith) c.put-in-Struct.ensures c.subst_arguments.ensures
