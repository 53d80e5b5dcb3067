-- Parts one after the other, each with an answer of where it ends.
use Rattle.std.specs.Prelude.{ℕ, suc, Result, Ok, Err}
use Rattle.repr.specs.declared.Cursor.{Cursor}
use Rattle.repr.specs.declared.refusal.Refusal.{Refusal}

-- Each of n parts begins where the one before it ended; the first that is refused ends them.
pub data Along (Test : Cursor → Result Cursor Refusal → Type 0) : ℕ → Cursor → Result Cursor Refusal → Type 0 where
  none : {c : Cursor} → Along Test 0 c (Ok c)
  more : {n : ℕ} {c next : Cursor} {r : Result Cursor Refusal} → Test c (Ok next) → Along Test n next r → Along Test (suc n) c r
  stop : {n : ℕ} {c : Cursor} {k : Refusal} → Test c (Err k) → Along Test (suc n) c (Err k)
