-- `replay::compare::same_bytes`. Assumes nothing.
use mathlib.Core.Path.{refl}
use native.Mathlib.Omega.{arith}
use Rattle.std.proofs.lemmas.Bool.Decides.{Decides-eqb}
use Rattle.std.proofs.lemmas.Slice.Eq.{slice_eq-Decides}
use Rattle.replay.proofs.SameLaws.{longer, other_front, same_front}
use Rattle.replay.proofs.compare.same_bytes.Goals as goal

pub returns-then-due-gt2080 : goal.returns-then-due-gt2080
returns-then-due-gt2080 c = let a = c.args in longer a.bytes.now a.due.now a.before.now refl (omega arith)

pub returns-then-eq : goal.returns-then-eq
returns-then-eq c =
    let a = c.args in
    let first = slice_eq-Decides Decides-eqb _ _ _ c.eq.ensures in
    let rest = slice_eq-Decides Decides-eqb _ _ _ c.eq-then-eq.ensures in
    same_front a.bytes.now a.due.now a.before.now refl c.split_at.ensures.front first c.if-eq.true c.split_at.ensures.back c.split_at-then-eq.ensures.back rest

pub returns-else-eq : goal.returns-else-eq
returns-else-eq c =
    let a = c.args in
    let first = slice_eq-Decides Decides-eqb _ _ _ c.eq.ensures in
    other_front a.bytes.now a.due.now a.before.now refl c.split_at.ensures.front first c.if-eq.false
