-- What stands in bytes: reading there gives it, and a type or a row of arguments whatever number of nodes it was read with.
use Rattle.std.specs.Prelude.{◌≡◌, List, ℕ, drop}
use Rattle.nll_spec.specs.Syntax.{Ty, Args, TypeArg}
use Rattle.nll_spec.specs.Decode.{read, Reader, part, args, type_within}

-- m reads x there.
pub record Stands {A : Type 0} (m : Reader A) (x : A) (bs : List ℕ) : Type 0 where
  pub over : List ℕ
  pub reads : m bs ≡ read x over

-- The bytes bs begin with the type t, and `over` follows it.
pub record TypeTo (bs : List ℕ) (t : Ty) (over : List ℕ) : Type 0 where
  pub deep : ℕ
  pub left : ℕ
  pub after : ℕ
  pub reads : type_within deep left bs ≡ read (part t after) over

-- The bytes bs begin with n arguments, and `over` follows them.
pub record ArgsTo (bs : List ℕ) (n : ℕ) (given : Args) (over : List ℕ) : Type 0 where
  pub deep : ℕ
  pub left : ℕ
  pub after : ℕ
  pub reads : args (type_within deep) n left bs ≡ read (part given after) over

-- The type t stands at a place of s.
pub record TypeAt (s : List ℕ) (at : ℕ) (t : Ty) : Type 0 where
  pub over : List ℕ
  pub stands : TypeTo (drop at s) t over

-- The first of the arguments h is a type, which stands in bs, and n more follow.
pub record FirstType (bs : List ℕ) (n : ℕ) (h : Args) (over : List ℕ) : Type 0 where
  pub item : Ty
  pub more : Args
  pub mid : List ℕ
  pub same : h ≡ TypeArg item more
  pub first : TypeTo bs item mid
  pub others : ArgsTo mid n more over
