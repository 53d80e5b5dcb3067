-- What the first n numbers give, one after the other. Assumes nothing.
use mathlib.Core.Path.{◌≡◌, refl, sym, ap, ◌∙◌}
use mathlib.Core.Bool.{Bool, true, false, cond}
use mathlib.Core.List.{List, [], ◌∷◌, ◌++◌, append-nil, append_assoc}
use Prim.Native.Nat.{ℕ, zero, suc, ◌+◌}
use native.Mathlib.Omega.{arith}
use native.Mathlib.Numerals.{add-one}
use Rattle.nll_spec.specs.Lists.{gather, select, count_from, below}

module _ {A : Type 0} (f : ℕ → List A) where
  gather_from : (i n : ℕ) → gather f (count_from i (suc n)) ≡ gather f (count_from i n) ++ f (i + n)
  gather_from i zero = append-nil (f i) ∙ ap f (omega arith)
  gather_from i (suc n) =
      ap (λ (ys : List A). f i ++ ys) (gather_from (suc i) n)
      ∙ sym (append_assoc (f i) (gather f (count_from (suc i) n)) (f (suc i + n)))
      ∙ ap (λ (k : ℕ). gather f (count_from i (suc n)) ++ f k) (omega arith)

  -- one number more
  pub gather-below : (n : ℕ) → gather f (below (n + 1)) ≡ gather f (below n) ++ f n
  gather-below n = ap (λ (k : ℕ). gather f (below k)) (add-one n) ∙ gather_from 0 n ∙ ap (λ (k : ℕ). gather f (below n) ++ f k) (omega arith)

module _ {A : Type 0} (f : ℕ → List A) (t : ℕ → Bool) where
  gather-select : (ns : List ℕ) → gather f (select t ns) ≡ gather (λ n. cond (t n) (f n) []) ns
  gather-select [] = refl
  gather-select (x ∷ xs) = go (t x) ∙ ap (λ (ys : List A). cond (t x) (f x) [] ++ ys) (gather-select xs)
    where
      go : (b : Bool) → gather f (cond b (x ∷ select t xs) (select t xs)) ≡ cond b (f x) [] ++ gather f (select t xs)
      go true = refl
      go false = refl

  -- the same for those that pass a test
  pub select-below : (n : ℕ) → gather f (select t (below (n + 1))) ≡ gather f (select t (below n)) ++ cond (t n) (f n) []
  select-below n =
      gather-select (below (n + 1))
      ∙ gather-below (λ k. cond (t k) (f k) []) n
      ∙ ap (λ (ys : List A). ys ++ cond (t n) (f n) []) (sym (gather-select (below n)))
