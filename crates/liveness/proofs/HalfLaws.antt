-- Numbers of variables in the halves of a point's set, put in and taken out. Assumes nothing.
use mathlib.Core.Path.{◌≡◌, refl, sym, ap, ap₂, ◌∙◌}
use mathlib.Core.Bool.{Bool, true, false, not, ◌&&◌, ◌||◌, and-true, and-false, or-true, or-false, or_assoc, and-or_distrib_left}
use mathlib.Core.List.{List, [], ◌∷◌, ◌++◌}
use Prim.Native.Nat.{ℕ, ◌+◌, ◌-◌, ◌*◌, ◌≤◌, ◌<◌}
use native.Mathlib.Omega.{arith}
use native.Mathlib.Decide.{ℕ_discrete, dec_lt}
use lib.ListN.{length}
use lib.Dec.{eqb, leb, ltb}
use borrow.Author.Tests.{eq-eqb, ne_eqb, lt-ltb, le-ltb, le-leb, lt-leb}
use Rattle.nll_spec.specs.Lists.{contains}
use Rattle.nll_spec.specs.Output.{word_bits}
use Rattle.bit_set.specs.Bits.{has, with_bit, without_bit}
use Rattle.bit_set.proofs.BitLaws.{has_with, has_with_other, has_without, has_without_other}
use Rattle.flow.specs.Flows.{bit_at}
use Rattle.liveness.specs.Needs.{in_half, in_either, Added, Removed}

-- ---- Halves

contains-append : (xs ys : List ℕ) (n : ℕ) → contains (xs ++ ys) n ≡ (contains xs n || contains ys n)
contains-append [] ys n = refl
contains-append (x ∷ xs) ys n = ap (λ (b : Bool). eqb n x || b) (contains-append xs ys n) ∙ sym (or_assoc (eqb n x) (contains xs n) (contains ys n))

pub half_append : (from : ℕ) (xs ys : List ℕ) (b : ℕ) → (in_half from xs b || in_half from ys b) ≡ in_half from (xs ++ ys) b
half_append from xs ys b =
    sym (ap (λ (c : Bool). (leb from b && ltb b (from + 64)) && c) (contains-append xs ys (b - from)) ∙ and-or_distrib_left (leb from b && ltb b (from + 64)) (contains xs (b - from)) (contains ys (b - from)))

pub half_none : (from b : ℕ) → false ≡ in_half from [] b
half_none from b = sym (and-false (leb from b && ltb b (from + 64)))

-- a number past the half
half_past : (from : ℕ) (vs : List ℕ) (b : ℕ) → from + 64 ≤ b → in_half from vs b ≡ false
half_past from vs b h = ap (λ (c : Bool). (leb from b && c) && contains vs (b - from)) (le-ltb b (from + 64) h) ∙ ap (λ (c : Bool). c && contains vs (b - from)) (and-false (leb from b))

-- and one before it
half_before : (from : ℕ) (vs : List ℕ) (b : ℕ) → b < from → in_half from vs b ≡ false
half_before from vs b h = ap (λ (c : Bool). (c && ltb b (from + 64)) && contains vs (b - from)) (lt-leb from b h)

-- a variable's number
half_at : (from : ℕ) (vs : List ℕ) (v : ℕ) → v < 64 → in_half from vs (from + v) ≡ contains vs v
half_at from vs v h =
    let e : from + v - from ≡ v = omega arith in
    ap₂ (λ (c d : Bool). (c && d) && contains vs (from + v - from)) (le-leb from (from + v) (omega arith)) (lt-ltb (from + v) (from + 64) (omega arith)) ∙ ap (contains vs) e

pub half_one : (from v b : ℕ) → v < 64 → eqb b (from + v) ≡ in_half from (v ∷ []) b
half_one from v b h = go (dec_lt b from) (dec_lt b (from + 64))
  where
    go : Dec (b < from) → Dec (b < from + 64) → eqb b (from + v) ≡ in_half from (v ∷ []) b
    go (yes l) d = ne_eqb b (from + v) (λ e. omega arith) ∙ sym (half_before from (v ∷ []) b l)
    go (no l) (no m) = ne_eqb b (from + v) (λ e. omega arith) ∙ sym (half_past from (v ∷ []) b (omega (arith, m)))
    go (no l) (yes m) = same (ℕ_discrete b (from + v))
      where
        k : ℕ
        k = b - from

        at : from + k ≡ b
        at = omega (arith, l)

        here : in_half from (v ∷ []) b ≡ eqb k v
        here = ap (in_half from (v ∷ [])) (sym at) ∙ half_at from (v ∷ []) k (omega arith) ∙ or-false (eqb k v)

        same : Dec (b ≡ from + v) → eqb b (from + v) ≡ in_half from (v ∷ []) b
        same (yes e) = eq-eqb b (from + v) e ∙ sym (here ∙ eq-eqb k v (omega arith))
        same (no n) = ne_eqb b (from + v) n ∙ sym (here ∙ ne_eqb k v (λ e. n (omega arith)))

pub half_large : (from v b : ℕ) → 64 ≤ v → false ≡ in_half from (v ∷ []) b
half_large from v b h = sym (go (dec_lt b (from + 64)))
  where
    go : Dec (b < from + 64) → in_half from (v ∷ []) b ≡ false
    go (no m) = half_past from (v ∷ []) b (omega (arith, m))
    go (yes m) = ap (λ (c : Bool). (leb from b && ltb b (from + 64)) && (c || false)) (ne_eqb (b - from) v (λ e. omega arith)) ∙ and-false (leb from b && ltb b (from + 64))

-- the number v of a used variable, and the number 64 + v of a dropped one
pub first_half : (us ds : List ℕ) (v : ℕ) → v < 64 → (in_half 0 us (0 + v) || in_half 64 ds (0 + v)) ≡ contains us v
first_half us ds v h = ap₂ (λ (c d : Bool). c || d) (half_at 0 us v h) (half_before 64 ds (0 + v) (omega arith)) ∙ or-false (contains us v)

pub second_half : (us ds : List ℕ) (v : ℕ) → v < 64 → (in_half 0 us (64 + v) || in_half 64 ds (64 + v)) ≡ contains ds v
second_half us ds v h = ap₂ (λ (c d : Bool). c || d) (half_past 0 us (64 + v) (omega arith)) (half_at 64 ds v h)

-- ---- What is put in

pub or_spread : (h e f g : Bool) → ((h || (e && f)) || (e && g)) ≡ (h || (e && (f || g)))
or_spread true e f g = refl
or_spread false true f g = refl
or_spread false false f g = refl

and_spread : (h e f g : Bool) → ((h && not (e && f)) && not (e && g)) ≡ (h && not (e && (f || g)))
and_spread false e f g = refl
and_spread true false f g = refl
and_spread true true true g = refl
and_spread true true false g = refl

module _ (x : ℕ) where
  pub added_as : {f g : ℕ → Bool} {ws u : List ℕ} → Added x f ws u → ((b : ℕ) → f b ≡ g b) → Added x g ws u
  added_as {ws = ws} a e = record { bits = λ p b m. a.bits p b m ∙ ap (λ (c : Bool). has ws (bit_at p b) || (eqb p x && c)) (e b) }

  pub added_none : {f : ℕ → Bool} (ws : List ℕ) → ((b : ℕ) → false ≡ f b) → Added x f ws ws
  added_none {f} ws e = added_as {f = λ b. false} (record { bits = λ p b m. sym (ap (λ (c : Bool). has ws (bit_at p b) || c) (and-false (eqb p x)) ∙ or-false (has ws (bit_at p b))) }) e

  pub added_then : {f g : ℕ → Bool} {ws u w : List ℕ} → Added x f ws u → Added x g u w → Added x (λ b. f b || g b) ws w
  added_then {f} {g} {ws} a c =
      record { bits = λ p b m. c.bits p b m ∙ ap (λ (d : Bool). d || (eqb p x && g b)) (a.bits p b m) ∙ or_spread (has ws (bit_at p b)) (eqb p x) (f b) (g b) }

  pub removed_as : {f g : ℕ → Bool} {ws u : List ℕ} → Removed x f ws u → ((b : ℕ) → f b ≡ g b) → Removed x g ws u
  removed_as {ws = ws} a e = record { bits = λ p b m. a.bits p b m ∙ ap (λ (c : Bool). has ws (bit_at p b) && not (eqb p x && c)) (e b) }

  pub removed-none : {f : ℕ → Bool} (ws : List ℕ) → ((b : ℕ) → false ≡ f b) → Removed x f ws ws
  removed-none {f} ws e = removed_as {f = λ b. false} (record { bits = λ p b m. sym (ap (λ (c : Bool). has ws (bit_at p b) && not c) (and-false (eqb p x)) ∙ and-true (has ws (bit_at p b))) }) e

  pub removed_then : {f g : ℕ → Bool} {ws u w : List ℕ} → Removed x f ws u → Removed x g u w → Removed x (λ b. f b || g b) ws w
  removed_then {f} {g} {ws} a c =
      record { bits = λ p b m. c.bits p b m ∙ ap (λ (d : Bool). d && not (eqb p x && g b)) (a.bits p b m) ∙ and_spread (has ws (bit_at p b)) (eqb p x) (f b) (g b) }

-- ---- One number

module _ (x n : ℕ) (hn : n < 128) where
  -- another number, or another point
  apart : (p b : ℕ) → b < 128 → Dec (p ≡ x) → Dec (b ≡ n) → (bit_at p b ≡ bit_at x n → ⊥) → (eqb p x && eqb b n) ≡ false
  apart p b l (no q) d h = ap (λ (c : Bool). c && eqb b n) (ne_eqb p x q)
  apart p b l (yes q) (no r) h = ap (λ (c : Bool). eqb p x && c) (ne_eqb b n r) ∙ and-false (eqb p x)
  apart p b l (yes q) (yes r) h = absurd (h (omega arith))

  together : (p b : ℕ) → b < 128 → bit_at p b ≡ bit_at x n → (eqb p x && eqb b n) ≡ true
  together p b l e = ap₂ (λ (c d : Bool). c && d) (eq-eqb p x (omega arith)) (eq-eqb b n (omega arith))

  added_one : (ws : List ℕ) → 4 * x + 4 ≤ length ws → Added x (λ b. eqb b n) ws (with_bit ws (bit_at x n))
  added_one ws hl = record { bits = λ p b m. go p b m (ℕ_discrete (bit_at p b) (bit_at x n)) }
    where
      go : (p b : ℕ) → b < 128 → Dec (bit_at p b ≡ bit_at x n) → has (with_bit ws (bit_at x n)) (bit_at p b) ≡ (has ws (bit_at p b) || (eqb p x && eqb b n))
      go p b m (yes e) =
          ap (has (with_bit ws (bit_at x n))) e ∙ has_with ws (bit_at x n) (omega arith) ∙ sym (ap (λ (c : Bool). has ws (bit_at p b) || c) (together p b m e) ∙ or-true (has ws (bit_at p b)))
      go p b m (no e) =
          has_with_other ws (bit_at x n) (bit_at p b) e ∙ sym (ap (λ (c : Bool). has ws (bit_at p b) || c) (apart p b m (ℕ_discrete p x) (ℕ_discrete b n) e) ∙ or-false (has ws (bit_at p b)))

  removed_one : (ws : List ℕ) → Removed x (λ b. eqb b n) ws (without_bit ws (bit_at x n))
  removed_one ws = record { bits = λ p b m. go p b m (ℕ_discrete (bit_at p b) (bit_at x n)) }
    where
      go : (p b : ℕ) → b < 128 → Dec (bit_at p b ≡ bit_at x n) → has (without_bit ws (bit_at x n)) (bit_at p b) ≡ (has ws (bit_at p b) && not (eqb p x && eqb b n))
      go p b m (yes e) =
          ap (has (without_bit ws (bit_at x n))) e ∙ has_without ws (bit_at x n) ∙ sym (ap (λ (c : Bool). has ws (bit_at p b) && not c) (together p b m e) ∙ and-false (has ws (bit_at p b)))
      go p b m (no e) =
          has_without_other ws (bit_at x n) (bit_at p b) e ∙ sym (ap (λ (c : Bool). has ws (bit_at p b) && not c) (apart p b m (ℕ_discrete p x) (ℕ_discrete b n) e) ∙ and-true (has ws (bit_at p b)))

-- ---- A variable, as the code goes

module _ (x : ℕ) (ws : List ℕ) (k v : ℕ) (e : k ≡ v) where
  pub add_large : (from : ℕ) → 64 ≤ k → Added x (in_half from (v ∷ [])) ws ws
  add_large from h = added_none x ws (λ b. half_large from v b (omega arith))

  pub add_small : {u : List ℕ} (from : ℕ) → from ≤ 64 → 4 * x + 4 ≤ length ws → k < 64 → u ≡ with_bit ws (word_bits * (4 * x) + (from + k)) → Added x (in_half from (v ∷ [])) ws u
  add_small {u} from l hl h q = rw q (added_as x (added_one x (from + k) (omega arith) ws hl) (λ b. rw (← e) (half_one from k b h)))

  pub kill_large : 64 ≤ k → Removed x (in_either (v ∷ [])) ws ws
  kill_large h = removed-none x ws (λ b. ap₂ (λ (c d : Bool). c || d) (half_large 0 v b (omega arith)) (half_large 64 v b (omega arith)))

  pub kill_small : {u w : List ℕ} → k < 64 → u ≡ without_bit ws (word_bits * (4 * x) + k) → w ≡ without_bit u (word_bits * (4 * x) + (64 + k)) → Removed x (in_either (v ∷ [])) ws w
  kill_small {u} {w} h q r =
      let z : 0 + k ≡ k = omega arith in
      let a : Removed x (λ b. eqb b k) ws u = rw q (removed_one x k (omega arith) ws) in
      let c : Removed x (λ b. eqb b (64 + k)) u w = rw r (removed_one x (64 + k) (omega arith) u) in
      removed_as x (removed_then x a c) (λ b. rw (← e) (ap₂ (λ (c d : Bool). c || d) (ap (eqb b) (sym z) ∙ half_one 0 k b h) (half_one 64 k b h)))
