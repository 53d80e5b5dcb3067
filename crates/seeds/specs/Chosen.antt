-- The regions that are taken of a type, and the walk that puts their names into a set.
use Rattle.std.specs.Prelude.{◌≡◌, Bool, true, false, ℕ, ◌+◌, ◌-◌, ◌*◌, ◌≤◌, Result, Ok}
use mathlib.Core.List.{List, [], ◌∷◌, tail}
use Rattle.nll_spec.specs.Syntax.{RegionName, Region, Ty, Args, Param, StructDecl, Job}
use Rattle.nll_spec.specs.Types.{region_name, regions_of, arg_regions, type_nodes, arg_nodes}
use Rattle.nll_spec.specs.Regions.{head_dangles, drop_regions, drop_arg_regions}
use Rattle.nll_spec.specs.Decode.{items, param}
use Rattle.nll_spec.specs.Output.{word_bits}
use Rattle.repr.specs.Reading.{rest}
use Rattle.repr.specs.declared.Rest.{Rest}
use Rattle.repr.specs.declared.refusal.Refusal.{Refusal}
use Rattle.repr.specs.Stands.{Stands, TypeTo, ArgsTo}
use Rattle.record.specs.Layout.{Holds}
use Rattle.record.specs.declared.Record.{Record}
use Rattle.bit_set.specs.Bits.{with_bit}
use Rattle.seeds.specs.declared.Which.{Which}
use Rattle.seeds.specs.declared.Which.TheVariants.{Every, Dropped, Nothing}
use Rattle.repr.specs.declared.Row.{Row}

-- the words with these numbers put into the set that starts at word s
abbrev pub add_all : List ℕ → ℕ → List ℕ → List ℕ
add_all ws s [] = ws
add_all ws s (x ∷ xs) = add_all (with_bit ws (word_bits * s + x)) s xs

-- ---- What is taken

-- of a Ref's referent
abbrev pub in_ref : Which → Which
in_ref Every = Every
in_ref Dropped = Nothing
in_ref Nothing = Nothing

-- of an argument, by whether its parameter may dangle
abbrev pub in_argument : Which → Bool → Which
in_argument Every dangles = Every
in_argument Dropped true = Dropped
in_argument Dropped false = Every
in_argument Nothing dangles = Nothing

abbrev pub chosen_region : Which → Region → List RegionName
chosen_region Every r = region_name r
chosen_region Dropped r = []
chosen_region Nothing r = []

abbrev pub chosen : Which → List StructDecl → Ty → List RegionName
chosen Every ss t = regions_of t
chosen Dropped ss t = drop_regions t ss
chosen Nothing ss t = []

-- of arguments, with their parameters
abbrev pub chosen_args : Which → List StructDecl → List Param → Args → List RegionName
chosen_args Every ss ds given = arg_regions given
chosen_args Dropped ss ds given = drop_arg_regions given ss ds
chosen_args Nothing ss ds given = []

-- ---- The walk

-- The answer is whether the first parameter may dangle, with the others.
pub record FirstIs (s : List ℕ) (ds : List Param) (r : Result (Bool × Row) Refusal) : Type 0 where
  pub dangles : Bool
  pub others : Row
  pub is : r ≡ Ok (dangles, others)
  pub first : dangles ≡ head_dangles ds
  pub stand : Stands (items others.count param) (tail ds) (rest s others.from)

-- A part of a type with so many nodes was passed over, and its regions were put into the set.
pub record Added (s : List ℕ) (left nodes : ℕ) (bs : List ℕ) (names : List RegionName) (before after : List ℕ) (r : Result Rest Refusal) : Type 0 where
  pub to : Rest
  pub is : r ≡ Ok to
  pub remain : to.left ≡ left - nodes
  pub ends : rest s to.next ≡ bs
  pub words : after ≡ add_all before 0 names

pub record TypeAdds (input : Record) (which : Which) (from : Rest) (before after : List ℕ) (r : Result Rest Refusal) : Type 0 where
  pub adds : (j : Job) → Holds input j → (ty : Ty) (bs : List ℕ) → TypeTo (rest input.bytes.now from.next) ty bs → type_nodes ty ≤ from.left
      → Added input.bytes.now from.left (type_nodes ty) bs (chosen which j.structs ty) before after r
  pub fewer : (to : Rest) → r ≡ Ok to → to.left ≤ from.left

-- n arguments, for these parameters
pub record ArgumentsAdd (input : Record) (which : Which) (ps : Row) (from : Rest) (n : ℕ) (before after : List ℕ) (r : Result Rest Refusal) : Type 0 where
  pub adds : (j : Job) → Holds input j → (ds : List Param) → Stands (items ps.count param) ds (rest input.bytes.now ps.from) → (given : Args) (bs : List ℕ) → ArgsTo (rest input.bytes.now from.next) n given bs
      → arg_nodes given ≤ from.left → Added input.bytes.now from.left (arg_nodes given) bs (chosen_args which j.structs ds given) before after r
  pub fewer : (to : Rest) → r ≡ Ok to → to.left ≤ from.left
