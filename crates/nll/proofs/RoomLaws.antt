-- How many words and bytes an answer takes. Assumes nothing.
use mathlib.Core.Path.{◌≡◌, refl, sym, ap₂, ◌∙◌}
use mathlib.Core.Bool.{Bool, true, false, ◌&&◌, true≢false}
use Prim.Native.Nat.{ℕ, ◌+◌, ◌*◌, ◌≤◌}
use native.Mathlib.Omega.{arith}
use lib.Dec.{leb}
use borrow.Author.Tests.{leb-true, le-leb}
use Rattle.nll_spec.specs.Output.{verdict_bytes}
use Rattle.record.specs.declared.Head.{Head}
use Rattle.nll.specs.Steps.{shape_of, room_for}

-- ---- Both tests

pub both : (a b c d : ℕ) → (leb a b && leb c d) ≡ true → (a ≤ b) × (c ≤ d)
both a b c d e = go (leb a b) (leb c d) refl refl e
  where
    go : (x y : Bool) → leb a b ≡ x → leb c d ≡ y → (x && y) ≡ true → (a ≤ b) × (c ≤ d)
    go true true f g e = (leb-true a b f, leb-true c d g)
    go true false f g e = absurd (true≢false (sym e))
    go false y f g e = absurd (true≢false (sym e))

pub none : (a b c d : ℕ) → (leb a b && leb c d) ≡ false → (a ≤ b) × (c ≤ d) → ⊥
none a b c d e (h, k) = true≢false (sym (ap₂ (λ (x y : Bool). x && y) (le-leb a b h) (le-leb c d k)) ∙ e)

-- ---- The marks' place

pub marks-room : (h : Head) (words bytes : ℕ) {after : ℕ} → room_for h words bytes ≡ true → after ≡ bytes → verdict_bytes * (shape_of h).points + h.declared ≤ after
marks-room h words bytes {after} room e = let l = both (h.regions * (shape_of h).width) words (verdict_bytes * (shape_of h).points + h.declared) bytes room in omega (arith, l.1)
