-- What an action does, by the byte that it begins with. Assumes nothing.
use mathlib.Core.Path.{◌≡◌, refl, sym, ap, ◌∙◌}
use mathlib.Core.List.{List}
use Prim.Native.Nat.{ℕ}
use Rattle.nll_spec.specs.Syntax.{Action}
use Rattle.nll_spec.specs.Decode.{byte, action}
use Rattle.repr.specs.Reading.{says, itself}
use Rattle.repr.specs.Stands.{Stands}
use Rattle.repr.specs.declared.Cursor.{Cursor}
use Rattle.repr.proofs.SpellLaws.{clash, carry}
use Rattle.repr.proofs.ActionLaws.{ActionParts, noop, init, borrowed, assigned, constraint, used, dropped, dead, action-read}
use Rattle.record.specs.Access.{kind_of_tag, kind_of}
use Rattle.repr.specs.declared.refusal.Refusal.{Refusal}
use Rattle.std.specs.Prelude.{Result, Ok, Err}

kind_is : {n : ℕ} {a : Action} → ActionParts n a → kind_of_tag n ≡ kind_of a
kind_is noop = refl
kind_is (init p qs) = refl
kind_is (borrowed p q) = refl
kind_is (assigned p q) = refl
kind_is constraint = refl
kind_is (used p) = refl
kind_is (dropped p) = refl
kind_is dead = refl

-- what is read of the byte where an action stands
module _ (s : List ℕ) {bs : List ℕ} {a : Action} (h : Stands action a bs) {r : Result (ℕ × Cursor) Refusal} (e : says itself s r ≡ byte bs) where
  pub byte_kind : {n : ℕ} {c : Cursor} → r ≡ Ok (n, c) → kind_of_tag n ≡ kind_of a
  byte_kind i = let w = action-read bs h.reads in carry (λ x o. kind_of_tag x ≡ kind_of a) (sym (sym (ap (says itself s) i) ∙ e ∙ w.first.reads)) (kind_is w.parts)

  pub byte-refused : {k : Refusal} → r ≡ Err k → ⊥
  byte-refused i = let w = action-read bs h.reads in clash (sym (ap (says itself s) i) ∙ e ∙ w.first.reads)
