-- Tests over lists, and lists of numbers.
-- A recursive call that a test may make needless is bound by `let`, which the checker computes only when it is read.
use Rattle.std.specs.Prelude.{Bool, true, false, ◌&&◌, ◌||◌, cond, List, [], ◌∷◌, ◌++◌, ℕ, zero, suc, eqb}

module _ {A : Type 0} where
  -- some element passes the test
  abbrev pub any : (A → Bool) → List A → Bool
  any f [] = false
  any f (x ∷ xs) = let rest = any f xs in f x || rest

  -- some element passes the test, which takes its number too, counted from i
  abbrev pub any_from : ℕ → (ℕ → A → Bool) → List A → Bool
  any_from i f [] = false
  any_from i f (x ∷ xs) = let rest = any_from (suc i) f xs in f i x || rest

  -- every element passes the test
  abbrev pub every : (A → Bool) → List A → Bool
  every f [] = true
  every f (x ∷ xs) = let rest = every f xs in f x && rest

  -- the elements that pass the test
  abbrev pub select : (A → Bool) → List A → List A
  select f [] = []
  select f (x ∷ xs) = cond (f x) (x ∷ select f xs) (select f xs)

-- x is an element of the list.
pub data Member {A : Type 0} (x : A) : List A → Type 0 where
  here : {xs : List A} → Member x (x ∷ xs)
  there : {y : A} {xs : List A} → Member x xs → Member x (y ∷ xs)

-- the lists that f gives at each element, one after the other
abbrev pub gather : {A B : Type 0} → (A → List B) → List A → List B
gather f [] = []
gather f (x ∷ xs) = f x ++ gather f xs

-- n is in the list
abbrev pub contains : List ℕ → ℕ → Bool
contains xs n = any (eqb n) xs

-- i, i + 1, .. : n numbers
abbrev pub count_from : ℕ → ℕ → List ℕ
count_from i zero = []
count_from i (suc n) = i ∷ count_from (suc i) n

-- the numbers below n, ascending
abbrev pub below : ℕ → List ℕ
below n = count_from 0 n

-- the numbers below n, descending
abbrev pub below_down : ℕ → List ℕ
below_down zero = []
below_down (suc n) = n ∷ below_down n
