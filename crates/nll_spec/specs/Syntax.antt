-- The parts of a job, as the record names them. Each kind of number has a name of its own; here these are all ℕ, and in the code tuple structs that
-- cannot be exchanged.
use Rattle.std.specs.Prelude.{Bool, List, ℕ}

abbrev pub RegionName : Type 0
RegionName = ℕ

abbrev pub StructName : Type 0
StructName = ℕ

abbrev pub FieldName : Type 0
FieldName = ℕ

abbrev pub Variable : Type 0
Variable = ℕ

abbrev pub BlockIndex : Type 0
BlockIndex = ℕ

abbrev pub Point : Type 0
Point = ℕ

pub data BorrowKind : Type 0 where
  Mut Shared : BorrowKind

pub data Variance : Type 0 where
  Co Contra In : Variance

-- What a struct's parameter stands for.
pub data Kind : Type 0 where
  RegionKind TypeKind : Kind

-- A region in a type: a name, or a parameter of the struct around it by its bound index.
pub data Region : Type 0 where
  Free : RegionName → Region
  BoundRegion : ℕ → Region

-- Types, and the arguments of a struct.
mutual
  pub data Ty : Type 0 where
    UnitTy : Ty
    RefTy : BorrowKind → Region → Ty → Ty
    StructTy : StructName → Args → Ty
    BoundTy : ℕ → Ty

  pub data Args : Type 0 where
    NoArgs : Args
    RegionArg : Region → Args → Args
    TypeArg : Ty → Args → Args

pub record Param : Type 0 where
  pub variance : Variance
  pub may_dangle : Bool
  pub kind : Kind

pub record Field : Type 0 where
  pub number : FieldName
  pub type : Ty

pub record StructDecl : Type 0 where
  pub params : List Param
  pub fields : List Field

-- A variable and the steps from it, the first first: field numbers, or `star`.
pub record Path : Type 0 where
  pub base : Variable
  pub steps : List FieldName

abbrev pub star : FieldName
star = 0

pub data Action : Type 0 where
  Noop : Action
  Init : Path → List Path → Action
  Borrow : Path → RegionName → BorrowKind → Path → Action
  Assign : Path → Path → Action
  Constraint : RegionName → RegionName → Action
  Use : Path → Action
  Drop : Path → Action
  StorageDead : Variable → Action

pub record Block : Type 0 where
  pub successors : List BlockIndex
  pub actions : List Action

-- A whole record. `outlives` has an entry for each declared region: those that it outlives. Declared are the first of the regions. `start`
-- is 0 in version 1.
pub record Job : Type 0 where
  pub structs : List StructDecl
  pub regions : ℕ
  pub outlives : List (List RegionName)
  pub variables : List Ty
  pub start : BlockIndex
  pub blocks : List Block
