-- From the bytes of a record to a job, or refusal 1 to 5.
use Rattle.std.specs.Prelude.{Bool, true, false, ◌&&◌, cond, List, [], ◌∷◌, ℕ, zero, suc, ◌+◌, ◌-◌, ◌*◌, length, get_or, leb, eqb}
use Rattle.nll_spec.specs.Lists.{gather, select}
use Rattle.nll_spec.specs.Syntax.{BorrowKind, Mut, Shared, Variance, Co, Contra, In, Kind, RegionKind, TypeKind, Region, Free, BoundRegion}
use Rattle.nll_spec.specs.Syntax.{Ty, UnitTy, RefTy, StructTy, BoundTy, Args, NoArgs, RegionArg, TypeArg, Param, Field, StructDecl, Path}
use Rattle.nll_spec.specs.Syntax.{Action, Noop, Init, Borrow, Assign, Constraint, Use, Drop, StorageDead, Block, Job}

-- ---- The limits

abbrev pub max_length : ℕ
max_length = 16384

abbrev pub max_structs : ℕ
max_structs = 16

abbrev pub max_regions : ℕ
max_regions = 128

abbrev pub max_declared : ℕ
max_declared = 16

abbrev pub max_variables : ℕ
max_variables = 64

abbrev pub max_blocks : ℕ
max_blocks = 64

abbrev pub max_params : ℕ
max_params = 4

abbrev pub max_fields : ℕ
max_fields = 8

abbrev pub max_outlived : ℕ
max_outlived = 16

abbrev pub max_successors : ℕ
max_successors = 8

abbrev pub max_actions : ℕ
max_actions = 64

abbrev pub max_steps : ℕ
max_steps = 6

abbrev pub max_sources : ℕ
max_sources = 8

abbrev pub max_nodes : ℕ
max_nodes = 32

abbrev pub max_points : ℕ
max_points = 1024

abbrev pub max_loans : ℕ
max_loans = 128

-- ---- Reading front to back

-- What reading gives: a refusal, or a value and the bytes that are left.
pub data Reading (A : Type 0) : Type 0 where
  refused : ℕ → Reading A
  read : A → List ℕ → Reading A

abbrev pub Reader : Type 0 → Type 0
Reader A = List ℕ → Reading A

module _ {A : Type 0} where
  unfoldable pub done : A → Reader A
  done a bs = read a bs

  unfoldable pub refuse : ℕ → Reader A
  refuse n bs = refused n

  unfoldable pub ◌>>=◌ : {B : Type 0} → Reader A → (A → Reader B) → Reader B
  ◌>>=◌ m f bs = elim (m bs) [ refused n ↦ refused n | read a rest ↦ f a rest ]

-- A byte; refusal 3 where it is missing.
unfoldable pub byte : Reader ℕ
byte [] = refused 3
byte (b ∷ bs) = read b bs

-- A count from `low` to `high`; refusal 4 outside.
unfoldable pub count : ℕ → ℕ → Reader ℕ
count low high = do
  n ← byte
  cond (leb low n && leb n high) (done n) (refuse 4)

module _ {A : Type 0} where
  -- what the tag's place in the list says; refusal 3 at a tag that has none
  unfoldable pub pick : List (Reader A) → ℕ → Reader A
  pick alternatives tag = get_or alternatives tag (refuse 3)

  -- a tag, and what it says
  unfoldable pub one_of : List (Reader A) → Reader A
  one_of alternatives = do
    tag ← byte
    pick alternatives tag

  -- n items
  unfoldable pub items : ℕ → Reader A → Reader (List A)
  items zero item = done []
  items (suc n) item = do
    x ← item
    xs ← items n item
    done (x ∷ xs)

  -- a count from 0 to `high`, and that many items
  unfoldable pub counted : ℕ → Reader A → Reader (List A)
  counted high item = do
    n ← count 0 high
    items n item

-- ---- Types

unfoldable pub borrow_kind : Reader BorrowKind
borrow_kind = one_of (done Mut ∷ done Shared ∷ [])

-- A region in a type: a name or a bound index.
unfoldable pub region : Reader Region
region =
    one_of
    ((do n ← byte; done (Free n))
    ∷ (do n ← byte; done (BoundRegion n))
    ∷ [])

-- A part of a type, with how many more nodes the type may have. A reader of such a part takes how many it may have.
pub record Part (A : Type 0) : Type 0 where
  pub item : A
  pub left : ℕ

abbrev pub part : {A : Type 0} → A → ℕ → Part A
part a n = record { item = a; left = n }

-- A type's tag, which is one node. Refusal 4 at a node too many, whatever its tag.
unfoldable pub node_tag : ℕ → Reader ℕ
node_tag left = do
  tag ← byte
  cond (eqb left 0) (refuse 4) (done tag)

-- n arguments of a struct, each a region or a type, which `inner` reads.
unfoldable pub args : (ℕ → Reader (Part Ty)) → ℕ → ℕ → Reader (Part Args)
args inner zero left = done (part NoArgs left)
args inner (suc n) left =
    one_of
    ((do r ← region; rest ← args inner n left; done (part (RegionArg r rest.item) rest.left))
    ∷ (do t ← inner left; rest ← args inner n t.left; done (part (TypeArg t.item rest.item) rest.left))
    ∷ [])

-- A type whose tag is read: Unit, Ref, Struct or Bound.
unfoldable pub tagged : (ℕ → Reader (Part Ty)) → ℕ → ℕ → Reader (Part Ty)
tagged inner left =
    pick
    (done (part UnitTy left)
    ∷ (do k ← borrow_kind; r ← region; t ← inner left; done (part (RefTy k r t.item) t.left))
    ∷ (do s ← byte; n ← count 0 max_params; given ← args inner n left; done (part (StructTy s given.item) given.left))
    ∷ (do b ← byte; done (part (BoundTy b) left))
    ∷ [])

-- A type of at most `left` nodes, and of at most `depth` from its root down to any leaf. `depth` is there only so that the recursion ends.
unfoldable pub type_within : ℕ → ℕ → Reader (Part Ty)
type_within zero left = refuse 4
type_within (suc depth) left = do
  tag ← node_tag left
  tagged (type_within depth) (left - 1) tag

-- A type of at most 32 nodes. Its depth is no limit of its own: the 33rd node is refused before any part below it is read.
unfoldable pub type : Reader Ty
type = do
  t ← type_within (suc max_nodes) max_nodes
  done t.item

-- ---- The parts of the record

unfoldable pub variance : Reader Variance
variance = one_of (done Co ∷ done Contra ∷ done In ∷ [])

unfoldable pub flag : Reader Bool
flag = one_of (done false ∷ done true ∷ [])

unfoldable pub kind : Reader Kind
kind = one_of (done RegionKind ∷ done TypeKind ∷ [])

unfoldable pub param : Reader Param
param = do
  v ← variance
  m ← flag
  k ← kind
  done (record { variance = v; may_dangle = m; kind = k })

unfoldable pub field : Reader Field
field = do
  n ← byte
  t ← type
  done (record { number = n; type = t })

unfoldable pub struct_decl : Reader StructDecl
struct_decl = do
  ps ← counted max_params param
  fs ← counted max_fields field
  done (record { params = ps; fields = fs })

unfoldable pub path : Reader Path
path = do
  n ← count 0 max_steps
  v ← byte
  fs ← items n byte
  done (record { base = v; steps = fs })

unfoldable pub action : Reader Action
action =
    one_of
    (done Noop
    ∷ (do p ← path; qs ← counted max_sources path; done (Init p qs))
    ∷ (do p ← path; r ← byte; k ← borrow_kind; q ← path; done (Borrow p r k q))
    ∷ (do p ← path; q ← path; done (Assign p q))
    ∷ (do sup ← byte; sub ← byte; done (Constraint sup sub))
    ∷ (do p ← path; done (Use p))
    ∷ (do p ← path; done (Drop p))
    ∷ (do v ← byte; done (StorageDead v))
    ∷ [])

unfoldable pub block : Reader Block
block = do
  ss ← counted max_successors byte
  actions ← counted max_actions action
  done (record { successors = ss; actions = actions })

-- What follows the length: five counts, then the parts that they count. Block 0 starts.
unfoldable pub job : Reader Job
job = do
  structs ← count 0 max_structs
  regions ← count 0 max_regions
  declared ← count 0 max_declared
  variables ← count 0 max_variables
  blocks ← count 1 max_blocks
  ss ← items structs struct_decl
  outlived ← items declared (counted max_outlived byte)
  vs ← items variables type
  bs ← items blocks block
  done (record { structs = ss; regions = regions; outlives = outlived; variables = vs; start = 0; blocks = bs })

-- ---- The whole record

-- how many points some blocks have: their actions, and an end for each
unfoldable pub code_count : List Block → ℕ
code_count [] = 0
code_count (b ∷ bs) = suc (length b.actions) + code_count bs

-- how many points a job has: those of its blocks, and an end for each declared region
unfoldable pub point_count : Job → ℕ
point_count j = code_count j.blocks + length j.outlives

abbrev pub is_borrow : Action → Bool
is_borrow Noop = false
is_borrow (Init p qs) = false
is_borrow (Borrow p r k q) = true
is_borrow (Assign p q) = false
is_borrow (Constraint sup sub) = false
is_borrow (Use p) = false
is_borrow (Drop p) = false
is_borrow (StorageDead v) = false

unfoldable pub borrow_count : Job → ℕ
borrow_count j = length (select is_borrow (gather (λ b. b.actions) j.blocks))

-- What a record is: refused, or a job.
pub data Decoded : Type 0 where
  rejected : ℕ → Decoded
  decoded : Job → Decoded

-- A job that was read to the end of the record, within the limits of refusal 5.
unfoldable pub whole : Reading Job → Decoded
whole (refused n) = rejected n
whole (read j rest) = elim rest [ b ∷ bs ↦ rejected 3 | [] ↦ cond (leb (point_count j) max_points && leb (borrow_count j) max_loans) (decoded j) (rejected 5) ]

-- What follows the version byte: a length of two bytes, and as many bytes as it says.
unfoldable pub decode_body : List ℕ → Decoded
decode_body [] = rejected 2
decode_body (high ∷ []) = rejected 2
decode_body (high ∷ low ∷ rest) =
    let n = high * 256 + low in
    cond (leb n max_length && eqb n (length rest)) (whole (job rest)) (rejected 2)

unfoldable pub decode : List ℕ → Decoded
decode [] = rejected 1
decode (version ∷ rest) = cond (eqb version 1) (decode_body rest) (rejected 1)
