-- Parts one after the other, each with an answer of where it ends. Assumes nothing.
use mathlib.Core.Path.{◌≡◌, refl, sym, ◌∙◌}
use mathlib.Core.List.{List, ◌∷◌}
use Prim.Native.Nat.{ℕ, suc, ◌+◌, ◌-◌, ◌<◌}
use native.Mathlib.Omega.{arith}
use lib.ListN.{drop}
use Rattle.nll_spec.specs.Decode.{Reader, done, items}
use Rattle.repr.specs.Reading.{rest, ended, end_says}
use Rattle.repr.specs.Rows.{Along, none, more, stop}
use Rattle.repr.specs.declared.Cursor.{Cursor}
use Rattle.repr.specs.declared.refusal.Refusal.{Refusal}
use Rattle.repr.proofs.PartLaws.{end_stop, end_then, end-done}
use Rattle.std.specs.Prelude.{Result, Ok, Err}

-- where each part ends is where all of them end
pub along_ends : {A : Type 0} (item : Reader A) (s : List ℕ) {Test : Cursor → Result Cursor Refusal → Type 0} → ((c : Cursor) (r : Result Cursor Refusal) → Test c r → end_says s r ≡ ended (item (drop c.at s))) → {n : ℕ} {c : Cursor} {r : Result Cursor Refusal} → Along Test n c r → end_says s r ≡ ended (items n item (drop c.at s))
unfolding items done
along_ends item s h none = refl
along_ends item s h (more {n = n} {c = c} {next = next} p q) = along_ends item s h q ∙ sym (end_then item _ (drop c.at s) (sym (h c (Ok next) p)) (λ x. end-done (items n item) (λ xs. x ∷ xs) (rest s next)))
along_ends item s h (stop {c = c} {k = k} p) = sym (end_stop item _ (drop c.at s) (sym (h c (Err k) p)))

-- Of n parts from one place on, `over` were passed, up to c.
pub record Going (Test : Cursor → Result Cursor Refusal → Type 0) (n : ℕ) (from : Cursor) (over : ℕ) (c : Cursor) : Type 0 where
  pub whole : (r : Result Cursor Refusal) → Along Test (n - over) c r → Along Test n from r

module _ {Test : Cursor → Result Cursor Refusal → Type 0} {n over : ℕ} {from c : Cursor} (g : Going Test n from over c) where
  pub going_more : {next : Cursor} → over < n → Test c (Ok next) → Going Test n from (over + 1) next
  going_more h t = record { whole = λ r p. g.whole r (let e : n - over ≡ suc (n - (over + 1)) = omega arith in rw e (more t p)) }

  pub going_stop : {k : Refusal} → over < n → Test c (Err k) → Along Test n from (Err k)
  going_stop {k} h t = g.whole (Err k) (let e : n - over ≡ suc (n - (over + 1)) = omega arith in rw e (stop t))

  pub going_end : over ≡ n → Along Test n from (Ok c)
  going_end h = g.whole (Ok c) (let e : n - over ≡ 0 = omega arith in rw e none)
