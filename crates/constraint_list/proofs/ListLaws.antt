-- A table of constraints. Assumes nothing.
use mathlib.Core.Path.{◌≡◌, refl, sym, ap, ap₂, ◌∙◌, subst}
use mathlib.Core.Logic.{inl, inr, ⊎_elim}
use mathlib.Core.Bool.{false}
use mathlib.Core.List.{List, [], ◌∷◌, ◌++◌, append-nil, append_assoc}
use Prim.Native.Nat.{ℕ, zero, suc, ◌+◌, ◌<◌}
use native.Mathlib.Omega.{arith}
use native.Mathlib.Numerals.{add-one}
use lib.ListN.{length, get_or, set, length-set, length-append}
use lib.Seq.{get_or-set_same, get_or-set_other}
use Rattle.nll_spec.specs.Lists.{Member, here, there}
use Rattle.nll_spec.specs.Constraints.{Outlives}
use Rattle.nll_spec.proofs.Members.{every_member, member_left, member_right, member_append}
use Rattle.constraint_list.specs.Listed.{outlives_from, count_in, room_in, first_in, constraints_in, Adds, Draws}

-- ---- The first constraints

first-same : (t t' : List ℕ) (n : ℕ) → ((i : ℕ) → i < n → get_or t' (suc i) 0 ≡ get_or t (suc i) 0) → first_in t' n ≡ first_in t n
unfolding first_in
first-same t t' zero h = refl
first-same t t' (suc n) h = ap₂ (λ (xs : List Outlives) (x : ℕ). xs ++ (outlives_from x ∷ [])) (first-same t t' n (λ i l. h i (omega arith))) (h n (omega arith))

pub first-length : (t : List ℕ) (n : ℕ) → length (first_in t n) ≡ n
unfolding first_in
first-length t zero = refl
first-length t (suc n) = length-append (first_in t n) (outlives_from (get_or t (suc n) 0) ∷ []) ∙ omega (arith, first-length t n)

pub first-none : (t : List ℕ) → first_in t 0 ≡ []
unfolding first_in
first-none t = refl

pub first_more : (t : List ℕ) (n : ℕ) → first_in t (n + 1) ≡ first_in t n ++ (outlives_from (get_or t (n + 1) 0) ∷ [])
unfolding first_in
first_more t n = rw (add-one n)

no_member : {c : Outlives} → Member c [] → ⊥
no_member {c} m = every_member (λ (x : Outlives). false) [] tt m

member_one : {c d : Outlives} → Member c (d ∷ []) → d ≡ c
member_one here = refl
member_one (there m) = absurd (no_member m)

-- where one of them stands
pub first_place : (t : List ℕ) (n : ℕ) {c : Outlives} → Member c (first_in t n) → (i : ℕ) × (i < n) × (outlives_from (get_or t (suc i) 0) ≡ c)
unfolding first_in
first_place t zero m = absurd (no_member m)
first_place t (suc n) {c} m = ⊎_elim
    (λ k. let p = first_place t n k in (p.0, (let l = p.1 in omega (arith, l)), p.2))
    (λ k. (n, omega arith, member_one k))
    (member_append (first_in t n) (outlives_from (get_or t (suc n) 0) ∷ []) m)

-- ---- Constraints that come after those of the table

module _ (t : List ℕ) (n w : ℕ) (e : n ≡ count_in t) (l : n + 1 < length t) where
  abbrev with : List ℕ
  with = set (set t (n + 1) w) 0 (n + 1)

  held : (i : ℕ) → (i ≡ 0 → ⊥) → get_or with i 0 ≡ get_or (set t (n + 1) w) i 0
  held i h = get_or-set_other (set t (n + 1) w) 0 i (n + 1) 0 h

  one_more : {c : Outlives} → outlives_from w ≡ c → constraints_in with ≡ constraints_in t ++ (c ∷ [])
  one_more {c} f =
      ap (first_in with) (get_or-set_same (set t (n + 1) w) 0 (n + 1) 0 (omega (arith, length-set t (n + 1) w)))
      ∙ first_more with n
      ∙ ap₂ (λ (xs : List Outlives) (x : Outlives). xs ++ (x ∷ []))
      (first-same t with n (λ i h. held (suc i) (λ z. omega arith) ∙ get_or-set_other t (n + 1) (suc i) w 0 (λ z. omega arith)) ∙ ap (first_in t) e)
      (ap outlives_from (held (n + 1) (λ z. omega arith) ∙ get_or-set_same t (n + 1) w 0 l) ∙ f)

  adds-there : {c : Outlives} → outlives_from w ≡ c → Adds (c ∷ []) t with
  adds-there f = record { as_long = length-set (set t (n + 1) w) 0 (n + 1) ∙ length-set t (n + 1) w; adds = λ h. one_more f }

-- the number after the last one, and then one more
pub adds_one : (t : List ℕ) (n w : ℕ) {c : Outlives} → n ≡ count_in t → n + 1 < length t → outlives_from w ≡ c
    → Adds (c ∷ []) t (set (set t (n + 1) w) 0 (get_or (set t (n + 1) w) 0 0 + 1))
adds_one t n w e l f =
    let z : get_or (set t (n + 1) w) 0 0 ≡ n = get_or-set_other t (n + 1) 0 w 0 (λ q. omega arith) ∙ sym e in
    rw z (adds-there t n w e l f)

pub adds_none : {cs : List Outlives} {t : List ℕ} → cs ≡ [] → Adds cs t t
adds_none {t = t} e = record { as_long = refl; adds = λ h. sym (ap (λ (xs : List Outlives). constraints_in t ++ xs) e ∙ append-nil (constraints_in t)) }

-- how many there are then
pub count-more : (t t' : List ℕ) (cs : List Outlives) → constraints_in t' ≡ constraints_in t ++ cs → count_in t' ≡ count_in t + length cs
count-more t t' cs e =
    sym (first-length t' (count_in t')) ∙ ap length e ∙ length-append (constraints_in t) cs ∙ ap (λ (n : ℕ). n + length cs) (first-length t (count_in t))

pub adds-append : {cs ds : List Outlives} {t t₁ t₂ : List ℕ} → Adds cs t t₁ → Adds ds t₁ t₂ → Adds (cs ++ ds) t t₂
adds-append {cs} {ds} {t} {t₁} {t₂} x y = record {
  as_long = y.as_long ∙ x.as_long;
  adds = λ h.
      let k = length-append cs ds in
      let e = x.adds (omega (arith, h, k)) in
      let n = count-more t t₁ cs e in
      y.adds (omega (arith, h, k, n, x.as_long)) ∙ ap (λ (xs : List Outlives). xs ++ ds) e ∙ append_assoc (constraints_in t) cs ds;
}

-- ---- What is drawn from others

pub draws_none : {cs : List Outlives} {t : List ℕ} → Draws cs t t
draws_none = record { drawn = λ c m. inl m }

-- one that was added
pub draws_one : {c : Outlives} {t t' : List ℕ} → 0 < room_in t → Adds (c ∷ []) t t' → Draws (c ∷ []) t t'
draws_one {c} {t} {t'} l x =
    record { drawn = λ d m. member_append (constraints_in t) (c ∷ []) (subst (λ (cs : List Outlives). Member d cs) (x.adds (omega arith)) m) }

pub draws_append : {cs ds : List Outlives} {t t₁ t₂ : List ℕ} → Draws cs t t₁ → Draws ds t₁ t₂ → Draws (cs ++ ds) t t₂
draws_append {cs} {ds} x y = record {
  drawn = λ c m. ⊎_elim (λ k. ⊎_elim inl (λ z. inr (member_left cs ds z)) (x.drawn c k)) (λ k. inr (member_right cs ds k)) (y.drawn c m);
}

-- all were taken away
pub draws_cleared : {cs : List Outlives} {t t' : List ℕ} → count_in t' ≡ 0 → Draws cs t t'
draws_cleared {t' = t'} e = record { drawn = λ c m. absurd (no_member (subst (λ (ds : List Outlives). Member c ds) (ap (first_in t') e ∙ first-none t') m)) }
