-- The bytes of a type, in prefix order.
use Rattle.std.specs.Prelude.{List, [], ◌∷◌, ◌++◌, ℕ, ◌≤◌}
use Rattle.nll_spec.specs.Syntax.{BorrowKind, Mut, Shared, Region, Free, BoundRegion}
use Rattle.nll_spec.specs.Syntax.{Ty, UnitTy, RefTy, StructTy, BoundTy, Args, NoArgs, RegionArg, TypeArg}
use Rattle.nll_spec.specs.Decode.{max_params}
use Rattle.nll_spec.specs.Types.{arg_count}

abbrev pub kind_byte : BorrowKind → ℕ
kind_byte Mut = 0
kind_byte Shared = 1

abbrev pub region_tag : Region → ℕ
region_tag (Free n) = 0
region_tag (BoundRegion b) = 1

abbrev pub region_number : Region → ℕ
region_number (Free n) = n
region_number (BoundRegion b) = b

abbrev mutual
  pub spell : Ty → List ℕ
  spell UnitTy = 0 ∷ []
  spell (RefTy k r t) = 1 ∷ kind_byte k ∷ region_tag r ∷ region_number r ∷ spell t
  spell (StructTy s given) = 2 ∷ s ∷ arg_count given ∷ spell_args given
  spell (BoundTy b) = 3 ∷ b ∷ []

  pub spell_args : Args → List ℕ
  spell_args NoArgs = []
  spell_args (RegionArg r rest) = 0 ∷ region_tag r ∷ region_number r ∷ spell_args rest
  spell_args (TypeArg t rest) = 1 ∷ (spell t ++ spell_args rest)

-- No struct in it has more arguments than a count can say.
abbrev mutual
  pub Fine : Ty → Type 0
  Fine UnitTy = Unit {0}
  Fine (RefTy k r t) = Fine t
  Fine (StructTy s given) = (arg_count given ≤ max_params) × FineArgs given
  Fine (BoundTy b) = Unit {0}

  pub FineArgs : Args → Type 0
  FineArgs NoArgs = Unit {0}
  FineArgs (RegionArg r rest) = FineArgs rest
  FineArgs (TypeArg t rest) = Fine t × FineArgs rest
