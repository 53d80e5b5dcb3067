-- The constraints that a table of numbers has.
use Rattle.std.specs.Prelude.{◌≡◌, ◌⊎◌, List, [], ◌∷◌, ◌++◌, ℕ, zero, suc, ◌-◌, ◌/◌, ◌%◌, ◌≤◌, min, length, get_or}
use Rattle.nll_spec.specs.Lists.{Member}
use Rattle.nll_spec.specs.Constraints.{Outlives}
use Rattle.constraint_list.specs.declared.Constraint.{Constraint}

abbrev pub outlives_of : Constraint → Outlives
outlives_of c = record { sup = c.sup; sub = c.sub; point = c.point }

-- the constraint of a number
abbrev pub outlives_from : ℕ → Outlives
outlives_from n = record { sup = n / 16777216 % 256; sub = n / 65536 % 256; point = n % 65536 }

-- how many constraints there are
abbrev pub count_in : List ℕ → ℕ
count_in t = get_or t 0 0

-- how many more there is room for
abbrev pub room_in : List ℕ → ℕ
room_in t = min (length t) 65536 - suc (count_in t)

-- the first n constraints
unfoldable pub first_in : List ℕ → ℕ → List Outlives
first_in t zero = []
first_in t (suc n) = first_in t n ++ (outlives_from (get_or t (suc n) 0) ∷ [])

-- all constraints of the table
abbrev pub constraints_in : List ℕ → List Outlives
constraints_in t = first_in t (count_in t)

-- The constraints cs come after those of the table, if there is room for them.
pub record Adds (cs : List Outlives) (t t' : List ℕ) : Type 0 where
  pub as_long : length t' ≡ length t
  pub adds : length cs ≤ room_in t → constraints_in t' ≡ constraints_in t ++ cs

-- Whatever comes to the table is one of cs.
pub record Draws (cs : List Outlives) (t t' : List ℕ) : Type 0 where
  pub drawn : (c : Outlives) → Member c (constraints_in t') → Member c (constraints_in t) ⊎ Member c cs
