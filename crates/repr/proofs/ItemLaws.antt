-- Items and bytes that are read one after the other. Assumes nothing.
use mathlib.Core.Path.{◌≡◌, refl, sym, ap}
use mathlib.Core.List.{List, [], ◌∷◌}
use Prim.Native.Nat.{ℕ, zero, suc, ◌-◌}
use native.Mathlib.Numerals.{sub-one}
use lib.ListN.{length, take}
use Rattle.nll_spec.specs.Decode.{refused, read, Reader, done, byte, items}
use Rattle.repr.proofs.SpellLaws.{clash, carry, then}

-- ---- Items

-- the first of n items, and the others
pub record FirstOf {A : Type 0} (m : Reader A) (n : ℕ) (bs : List ℕ) (xs : List A) (end : List ℕ) : Type 0 where
  pub item : A
  pub others : List A
  pub mid : List ℕ
  pub same : xs ≡ item ∷ others
  pub first : m bs ≡ read item mid
  pub reads : items (n - 1) m mid ≡ read others end

pub first_of : {A : Type 0} (m : Reader A) (n : ℕ) (bs : List ℕ) {xs : List A} {end : List ℕ} → (n ≡ 0 → ⊥) → items n m bs ≡ read xs end → FirstOf m n bs xs end
unfolding items done
first_of m zero bs z e = absurd (z refl)
first_of m (suc n) bs z e =
    let w = then m _ bs e in
    let v = then (items n m) _ w.mid w.last in
    carry (λ ys o. FirstOf m (suc n) bs ys o) v.last (record { item = w.got; others = v.got; mid = w.mid; same = refl; first = w.first; reads = rw (sub-one (suc n)) v.first })

pub none_of : {A : Type 0} (m : Reader A) (n : ℕ) (bs : List ℕ) {xs : List A} {end : List ℕ} → n ≡ 0 → items n m bs ≡ read xs end → (xs ≡ []) × (bs ≡ end)
unfolding items done
none_of m n bs z e = carry (λ ys o. (ys ≡ []) × (bs ≡ o)) (rw z at e) (refl, refl)

pub items-length : {A : Type 0} (m : Reader A) (n : ℕ) (bs : List ℕ) {xs : List A} {end : List ℕ} → items n m bs ≡ read xs end → length xs ≡ n
unfolding items done
items-length m zero bs e = carry (λ ys o. length ys ≡ 0) e refl
items-length m (suc n) bs e =
    let w = then m _ bs e in
    let v = then (items n m) _ w.mid w.last in
    carry (λ ys o. length ys ≡ suc n) v.last (ap suc (items-length m n w.mid v.first))

-- ---- Bytes

pub byte-none : {k : ℕ} (bs : List ℕ) → byte bs ≡ refused k → bs ≡ []
unfolding byte
byte-none [] e = refl
byte-none (y ∷ ys) e = absurd (clash (sym e))

pub take-first : (n x : ℕ) (bs : List ℕ) → (n ≡ 0 → ⊥) → take n (x ∷ bs) ≡ x ∷ take (n - 1) bs
take-first zero x bs z = absurd (z refl)
take-first (suc n) x bs z = rw (sub-one (suc n))
