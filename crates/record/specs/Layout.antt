-- The whole record: what it is, and where each part of its job lies.
use Rattle.std.specs.Prelude.{◌≡◌, cond, ◌&&◌, List, ℕ, ◌+◌, ◌≤◌, length, take, drop, replicate, ltb, leb, Result, Ok, Err}
use Rattle.nll_spec.specs.Syntax.{Job}
use Rattle.nll_spec.specs.Decode.{Reading, refused, read, Reader, done, ◌>>=◌, byte, count, items, counted, struct_decl, type, block, code_count}
use Rattle.nll_spec.specs.Decode.{point_count, borrow_count, max_structs, max_regions, max_declared, max_variables, max_blocks, max_outlived, max_points, max_loans}
use Rattle.nll_spec.specs.Decode as decode
use Rattle.repr.specs.Reading.{rest}
use Rattle.repr.specs.declared.Cursor.{Cursor}
use Rattle.record.specs.Rows.{Standing}
use Rattle.record.specs.Blocks.{Placed}
use Rattle.record.specs.declared.Counts.{Counts}
use Rattle.record.specs.declared.Head.{Head}
use Rattle.repr.specs.declared.refusal.Refusal.{Refusal}
use Rattle.repr.specs.Refusals.{number_of}
use Rattle.repr.specs.declared.refusal.Refusal.TheVariants.{Form, Size}
use Rattle.record.specs.declared.Code.{Code}
use Rattle.record.specs.declared.Offsets.{Offsets}
use Rattle.record.specs.declared.Record.{Record}

-- ---- Where each part of a job lies

-- The job j of the record s, with the head h and the offsets t of its parts. The counts are within their limits.
pub record Layout (s : List ℕ) (t : Offsets) (h : Head) (j : Job) : Type 0 where
  pub structs : Standing struct_decl s (take h.structs t.structs) j.structs
  pub outlives : Standing (counted max_outlived byte) s (take h.declared t.outlives) j.outlives
  pub variables : Standing type s (take h.variables t.variables) j.variables
  pub blocks : Placed s h.blocks j.blocks t
  pub regions : h.regions ≡ j.regions
  pub code : h.code ≡ code_count j.blocks
  pub struct_count : length j.structs ≡ h.structs
  pub declared_count : length j.outlives ≡ h.declared
  pub variable_count : length j.variables ≡ h.variables
  pub block_count : length j.blocks ≡ h.blocks
  pub struct_limit : h.structs ≤ 16
  pub region_limit : h.regions ≤ 128
  pub declared_limit : h.declared ≤ 16
  pub variable_limit : h.variables ≤ 64
  pub block_limit : h.blocks ≤ 64
  pub few : code_count j.blocks ≤ 1024
  pub short : length s ≤ 65535
  pub start : j.start ≡ 0

-- all offsets 0
abbrev pub no_offsets : Offsets
no_offsets = record { structs = replicate 16 0; outlives = replicate 16 0; variables = replicate 64 0; blocks = replicate 64 0; first = replicate 64 0; points = replicate 1024 0 }

-- The record r has the job j.
abbrev pub Holds : Record → Job → Type 0
Holds r j = Layout r.bytes.now r.layout.now r.head j

-- ---- What a record is

-- a job within the limits of points and loans, and where it lies
pub record Accepted (d : decode.Decoded) (s : List ℕ) (t : Offsets) (h : Head) : Type 0 where
  pub job : Job
  pub is : d ≡ decode.decoded job
  pub points : point_count job ≤ 1024
  pub loans : borrow_count job ≤ 128
  pub layout : Layout s t h job

abbrev pub Verdict : decode.Decoded → List ℕ → Offsets → Result Head Refusal → Type 0
Verdict d s t (Err k) = d ≡ decode.rejected (number_of k)
Verdict d s t (Ok h) = Accepted d s t h

-- The answer is the definition's: the number of the refusal, or the head of the job, with the offsets t.
pub record DecodedSays (d : decode.Decoded) (s : List ℕ) (t : Offsets) (r : Result Head Refusal) : Type 0 where
  pub says : Verdict d s t r

-- ---- The five counts, and what follows them

abbrev pub Onward : Type 0
Onward = ℕ → ℕ → ℕ → ℕ → ℕ → Reader Job

-- The counts are in their ranges.
pub record InRange (n : Counts) : Type 0 where
  pub structs : n.structs ≤ 16
  pub regions : n.regions ≤ 128
  pub declared : n.declared ≤ 16
  pub variables : n.variables ≤ 64
  pub blocks : n.blocks ≤ 64

abbrev pub counts_says : Onward → List ℕ → Result (Counts × Cursor) Refusal → Reading Job
counts_says f s (Ok r) = f r.0.structs r.0.regions r.0.declared r.0.variables r.0.blocks (rest s r.1)
counts_says f s (Err k) = refused (number_of k)

abbrev pub CountsFit : Result (Counts × Cursor) Refusal → Type 0
CountsFit (Ok r) = InRange r.0
CountsFit (Err k) = Unit {0}

-- The answer is what the five counts are there, whatever follows them.
pub record CountsSay (s : List ℕ) (at : ℕ) (r : Result (Counts × Cursor) Refusal) : Type 0 where
  pub same : (f : Onward) →
      counts_says f s r
      ≡ (do
        structs ← count 0 max_structs
        regions ← count 0 max_regions
        declared ← count 0 max_declared
        v ← count 0 max_variables
        b ← count 1 max_blocks
        f structs regions declared v b)
      (drop at s)
  pub fit : CountsFit r

-- the parts that are counted, as `job` has them
unfoldable pub parts_of : Onward
parts_of structs regions declared variables blocks = do
  ss ← items structs struct_decl
  outlived ← items declared (counted max_outlived byte)
  vs ← items variables type
  bs ← items blocks block
  done (record { structs = ss; regions = regions; outlives = outlived; variables = vs; start = 0; blocks = bs })

abbrev pub head_of : Counts → ℕ → Head
head_of n points = record { structs = n.structs; regions = n.regions; declared = n.declared; variables = n.variables; blocks = n.blocks; code = points }

pub record Parts (n : Counts) (s : List ℕ) (from next points loans : ℕ) (t : Offsets) : Type 0 where
  pub job : Job
  pub reads : parts_of n.structs n.regions n.declared n.variables n.blocks (drop from s) ≡ read job (drop next s)
  pub lends : loans ≡ borrow_count job
  pub most : points ≤ 16384
  pub counts : points ≡ code_count job.blocks
  pub declared : length job.outlives ≡ n.declared
  pub layout : points ≤ 1024 → Layout s t (head_of n points) job

abbrev pub PartsResult : Counts → List ℕ → ℕ → Offsets → Result Code Refusal → Type 0
PartsResult n s from t (Ok c) = Parts n s from c.next.at c.points c.loans t
PartsResult n s from t (Err k) = parts_of n.structs n.regions n.declared n.variables n.blocks (drop from s) ≡ refused (number_of k)

pub record PartsSay (n : Counts) (s : List ℕ) (from : ℕ) (t : Offsets) (r : Result Code Refusal) : Type 0 where
  pub result : PartsResult n s from t r

-- what a record of this size is, by what was read of it
abbrev pub verdict_of : Counts → ℕ → Cursor → ℕ → ℕ → Result Head Refusal
verdict_of n size next points loans =
    cond (ltb next.at size) (Err Form) (cond (leb (points + n.declared) max_points && leb loans max_loans) (Ok (head_of n points)) (Err Size))
