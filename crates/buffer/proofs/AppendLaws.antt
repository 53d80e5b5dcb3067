-- Bytes that are put one after the other. Assumes nothing.
use mathlib.Core.Path.{◌≡◌, sym, ap, ◌∙◌}
use mathlib.Core.List.{List, [], ◌++◌, append_assoc, append-nil}
use Prim.Native.Nat.{ℕ}
use native.Mathlib.Omega.{arith}
use lib.ListN.{length-append}
use Rattle.buffer.specs.Appending.{Appends}

pub appends_none : (t : List ℕ) → Appends [] t t
appends_none t = record { longer = omega arith; same = sym (append-nil t) }

pub appends_then : {a b old between new : List ℕ} → Appends a old between → Appends b between new → Appends (a ++ b) old new
appends_then {a} {b} {old} p q =
    record { longer = omega (arith, p.longer, q.longer, length-append a b); same = q.same ∙ ap (λ (l : List ℕ). l ++ b) p.same ∙ append_assoc old a b }

-- bytes that are put into an empty buffer
pub appends_first : {a old new : List ℕ} → old ≡ [] → Appends a old new → new ≡ a
appends_first {a} e p = p.same ∙ ap (λ (l : List ℕ). l ++ a) e
