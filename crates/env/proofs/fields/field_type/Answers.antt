use Prim.Native.Nat.{◌+◌, ◌-◌}
use mathlib.Core.Path.{◌≡◌, sym}
use native.Mathlib.Omega.{arith}
use borrow.Author.Tests.{eqb-true}
use Rattle.repr.proofs.ReadLaws.{ok_some, ok_none}
use Rattle.env.proofs.FieldLaws as laws
use Rattle.env.proofs.fields.field_type.Goals as goal

pub returns-in_err-number : goal.returns-in_err-number
returns-in_err-number c = rw c.from_residual.ensures (record { says = λ x w. laws.seeking_refused c.loop.invariant (λ z. omega arith) c.field.ensures (ok_none c.ok.ensures.value c.in_err-number.was).1 x.fields w.fields })

pub returns-then-eq : goal.returns-then-eq
returns-then-eq c = record { says = λ x w. laws.seeking_found c.loop.invariant (λ z. omega arith) c.field.ensures (ok_some c.ok.ensures.value c.in_ok-number.was) (eqb-true _ _ (sym c.if-eq.ensures)) x.fields w.fields }

pub returns-in_err-c : goal.returns-in_err-c
returns-in_err-c c = rw c.from_residual-in_err-c.ensures (record { says = λ x w. laws.seeking_short c.loop.invariant (λ z. omega arith) c.field.ensures (ok_some c.ok.ensures.value c.in_ok-number.was) (laws.differ c.if-eq.ensures) c.ty.ensures (ok_none c.ok-in-loop.ensures.value c.in_err-c.was).1 x.fields w.fields })

pub loop-preserved : goal.loop-preserved
loop-preserved c =
    let i : c.args.d.fields.count - (c.loop.counter + 1) ≡ c.args.d.fields.count - c.loop.counter - 1 = omega arith in
    rw i (laws.seeking_more c.loop.invariant (λ z. omega arith) c.field.ensures (ok_some c.ok.ensures.value c.in_ok-number.was) (laws.differ c.if-eq.ensures) c.ty.ensures (ok_some c.ok-in-loop.ensures.value c.in_ok-c.was))

pub returns : goal.returns
returns c = record { says = λ x w. laws.seeking_end c.loop.invariant (omega arith) x.fields w.fields }
