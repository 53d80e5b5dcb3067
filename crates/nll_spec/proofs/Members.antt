-- Laws of `Member`: an element of a list, by its place, in a selection, in lists one after the other, and by a test that it passes.
-- Assumes nothing.
use mathlib.Core.Path.{◌≡◌, refl, subst}
use mathlib.Core.Logic.{◌⊎◌, inl, inr}
use mathlib.Core.Bool.{Bool}
use mathlib.Core.List.{List, [], ◌∷◌, ◌++◌, map}
use Prim.Native.Nat.{ℕ, zero, suc, ◌<◌, suc-le-suc}
use native.Mathlib.Nat.{not-suc-le-zero, le_of_suc-le-suc, zero-lt-suc}
use lib.ListN.{length, get_or}
use lib.Dec.{T, eqb, eqb→eq}
use Rattle.nll_spec.specs.Lists.{any, every, gather, contains, Member, here, there}
use Rattle.nll_spec.proofs.Tests.{or_left, or_right, or_cases, and_left, and_right, contains-here, any-there}

module _ {A : Type 0} where
  -- the place of an element
  pub member_place : (d : A) {x : A} {xs : List A} → Member x xs → (k : ℕ) × (k < length xs) × (get_or xs k d ≡ x)
  member_place d (here {xs = xs}) = (0, zero-lt-suc (length xs), refl)
  member_place d (there m) = let p = member_place d m in (suc p.0, suc-le-suc p.1, p.2)

  pub place_member : (d : A) (xs : List A) (k : ℕ) → k < length xs → Member (get_or xs k d) xs
  place_member d [] k h = absurd (not-suc-le-zero h)
  place_member d (x ∷ xs) zero h = here
  place_member d (x ∷ xs) (suc k) h = there (place_member d xs k (le_of_suc-le-suc h))

  pub member_left : {x : A} (xs ys : List A) → Member x xs → Member x (xs ++ ys)
  member_left (x ∷ xs) ys here = here
  member_left (x ∷ xs) ys (there m) = there (member_left xs ys m)
  member_left [] ys x'' = elim x'' [ ]

  pub member_right : {x : A} (xs ys : List A) → Member x ys → Member x (xs ++ ys)
  member_right [] ys m = m
  member_right (x ∷ xs) ys m = there (member_right xs ys m)

  pub member_append : {x : A} (xs ys : List A) → Member x (xs ++ ys) → Member x xs ⊎ Member x ys
  member_append [] ys m = inr m
  member_append (y ∷ xs) ys here = inl here
  member_append {x} (y ∷ xs) ys (there m) = go (member_append xs ys m)
    where
      go : Member x xs ⊎ Member x ys → Member x (y ∷ xs) ⊎ Member x ys
      go (inl h) = inl (there h)
      go (inr h) = inr h

  -- an element that passes a test, and the test of the whole list
  pub any_member : (f : A → Bool) {x : A} {xs : List A} → Member x xs → T (f x) → T (any f xs)
  any_member f {x} (here {xs = xs}) t = or_left (f x) (any f xs) t
  any_member f (there {y = y} {xs = xs} m) t = or_right (f y) (any f xs) (any_member f m t)

  pub any_element : (f : A → Bool) (xs : List A) → T (any f xs) → (x : A) × Member x xs × T (f x)
  any_element f (x ∷ xs) t = go (or_cases (f x) (any f xs) t) (λ w. any_element f xs w)
    where
      go : T (f x) ⊎ T (any f xs) → (T (any f xs) → (y : A) × Member y xs × T (f y)) → (y : A) × Member y (x ∷ xs) × T (f y)
      go (inl h) ih = (x, here, h)
      go (inr h) ih = let r = ih h in (r.0, there r.1, r.2)
  any_element f [] t = elim t [ ]

  pub every_member : (f : A → Bool) {x : A} (xs : List A) → T (every f xs) → Member x xs → T (f x)
  every_member f (x ∷ xs) t here = and_left (f x) (every f xs) t
  every_member f (y ∷ xs) t (there m) = every_member f xs (and_right (f y) (every f xs) t) m
  every_member f [] t x3 = elim x3 [ ]

  -- an element of lists one after the other is one of some of them
  pub member_gather : (f : ℕ → List A) (ns : List ℕ) (n : ℕ) {x : A} → T (contains ns n) → Member x (f n) → Member x (gather f ns)
  member_gather f (m ∷ ns) n {x} h k = go (or_cases (eqb n m) (contains ns n) h) (λ w. member_gather f ns n w k)
    where
      go : T (eqb n m) ⊎ T (contains ns n) → (T (contains ns n) → Member x (gather f ns)) → Member x (gather f (m ∷ ns))
      go (inl q) ih = member_left (f m) (gather f ns) (subst (λ (i : ℕ). Member x (f i)) (eqb→eq n m q) k)
      go (inr q) ih = member_right (f m) (gather f ns) (ih q)
  member_gather f [] n {x = x} h k = elim h [ ]

  pub gather_member : (f : ℕ → List A) (ns : List ℕ) {x : A} → Member x (gather f ns) → (n : ℕ) × T (contains ns n) × Member x (f n)
  gather_member f (m ∷ ns) {x} h = go (member_append (f m) (gather f ns) h) (λ w. gather_member f ns w)
    where
      go : Member x (f m) ⊎ Member x (gather f ns) → (Member x (gather f ns) → (n : ℕ) × T (contains ns n) × Member x (f n)) → (n : ℕ) × T (contains (m ∷ ns) n) × Member x (f n)
      go (inl w) ih = (m, contains-here m ns, w)
      go (inr w) ih = let r = ih w in (r.0, any-there (eqb r.0) m ns r.1, r.2)
  gather_member f [] {x = x} h = elim h [ ]

  pub member_map : (f : ℕ → A) (ns : List ℕ) (n : ℕ) → T (contains ns n) → Member (f n) (map f ns)
  member_map f (m ∷ ns) n h = go (or_cases (eqb n m) (contains ns n) h) (λ w. member_map f ns n w)
    where
      go : T (eqb n m) ⊎ T (contains ns n) → (T (contains ns n) → Member (f n) (map f ns)) → Member (f n) (f m ∷ map f ns)
      go (inl q) ih = subst (λ (i : ℕ). Member (f n) (f i ∷ map f ns)) (eqb→eq n m q) here
      go (inr q) ih = there (ih q)
  member_map f [] n h = elim h [ ]

  pub map_member : (f : ℕ → A) (ns : List ℕ) {x : A} → Member x (map f ns) → (n : ℕ) × T (contains ns n) × (f n ≡ x)
  map_member f (m ∷ ns) here = (m, contains-here m ns, refl)
  map_member f (m ∷ ns) (there h) = let r = map_member f ns h in (r.0, any-there (eqb r.0) m ns r.1, r.2)
  map_member f [] x3 = elim x3 [ ]
