use Prim.Native.Nat.{◌-◌}
use Rattle.env.proofs.FieldLaws as laws
use Rattle.env.proofs.fields.field_type.Given as goal

abbrev pub invariant-loop : goal.invariant-loop
invariant-loop l = laws.Seeking l.s l.initial.c.at l.fn.d.fields.count l.f.0 l.c.at (l.fn.d.fields.count - l.counter)
