-- What is said of prefixes.
use Rattle.std.specs.Prelude.{◌≡◌, Bool, true, false, ◌&&◌, not, cond, List, [], ◌∷◌, ℕ, ◌<◌, length, get_or, take, drop, eqb, leb}
use Rattle.nll_spec.specs.Lists.{every}
use Rattle.nll_spec.specs.Syntax.{Mut, Shared, Free, Ty, UnitTy, RefTy, StructTy, BoundTy, StructDecl, Path, Job}
use Rattle.nll_spec.specs.Types.{is_ref, ref_region, type_after, is_prefix, is_supporting, is_frozen}
use Rattle.env.specs.declared.Shortest.{Shortest}

-- the first steps begin the second
abbrev pub starts : List ℕ → List ℕ → Bool
starts [] gs = true
starts (f ∷ fs) [] = false
starts (f ∷ fs) (g ∷ gs) = let rest = starts fs gs in eqb f g && rest

-- 1 for a Mut Ref, 2 for a Shared one, 0 for any other type
abbrev pub kind_code : Ty → ℕ
kind_code UnitTy = 0
kind_code (RefTy Mut r t) = 1
kind_code (RefTy Shared r t) = 2
kind_code (StructTy s given) = 0
kind_code (BoundTy b) = 0

-- What each of the first 8 of these steps from t leaves: its kind, and the name of its region.
pub record Leaves (ss : List StructDecl) (t : Ty) (steps kinds names : List ℕ) : Type 0 where
  pub kind : (i : ℕ) → i < length steps → i < 8 → get_or kinds i 0 ≡ kind_code (type_after ss t (take i steps))
  pub name : (i r : ℕ) → i < length steps → i < 8 → is_ref (type_after ss t (take i steps)) ≡ true → ref_region (type_after ss t (take i steps)) ≡ Free r → get_or names i 0 ≡ r

-- ---- The shortest prefixes

-- a kind that ends no supporting prefix, or no frozen one
abbrev pub not_shared : ℕ → Bool
not_shared k = not (eqb k 2)

abbrev pub not_ref : ℕ → Bool
not_ref k = eqb k 0

-- Exactly the numbers from a on leave, of the first n kinds, only ones that pass the test.
pub record Least (test : ℕ → Bool) (kinds : List ℕ) (n a : ℕ) : Type 0 where
  pub says : (m : ℕ) → leb a m ≡ every test (drop m (take n kinds))

-- one step more, the i-th, which leaves a type of this kind
abbrev pub later_of : Shortest → ℕ → ℕ → Shortest
later_of r k i = record { supporting = cond (not_shared k) r.supporting i; frozen = cond (not_ref k) r.frozen i }

-- The shortest supporting and frozen prefixes, by the kinds that the n steps leave.
pub record ShortestIn (kinds : List ℕ) (n : ℕ) (r : Shortest) : Type 0 where
  pub supporting : Least not_shared kinds n r.supporting
  pub frozen : Least not_ref kinds n r.frozen

-- A prefix of p is a supporting one, or a frozen one, exactly if it has at least so many steps.
pub record ShortestOf (j : Job) (p : Path) (r : Shortest) : Type 0 where
  pub supporting : (q : Path) → is_supporting j q p ≡ is_prefix j q p && leb r.supporting (length q.steps)
  pub frozen : (q : Path) → is_frozen j q p ≡ is_prefix j q p && leb r.frozen (length q.steps)
