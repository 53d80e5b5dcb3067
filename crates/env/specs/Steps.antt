-- What the steps of a path leave, by numbers: kinds, and the names of regions.
use Rattle.std.specs.Prelude.{List, ℕ, map}
use Rattle.nll_spec.specs.Syntax.{BorrowKind, Mut, Shared}
use Rattle.repr.specs.Reading.{borrow_kind_of}
use Rattle.env.specs.declared.Step.{Step}
use Rattle.env.specs.declared.Step.TheVariants.{Owned, Ref}

abbrev pub kind_number : BorrowKind → ℕ
kind_number Mut = 1
kind_number Shared = 2

-- 0 for a type that is no Ref
abbrev pub kind_in : Step → ℕ
kind_in Owned = 0
kind_in (Ref k r) = kind_number (borrow_kind_of k)

abbrev pub name_in : Step → ℕ
name_in Owned = 0
name_in (Ref k r) = r.0

abbrev pub kinds_of : List Step → List ℕ
kinds_of taken = map kind_in taken

abbrev pub names_of : List Step → List ℕ
names_of taken = map name_in taken
