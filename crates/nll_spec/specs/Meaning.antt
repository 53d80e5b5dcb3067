-- What the words and bytes written mean, in the words of document 01: points that are reached, variables that are live, constraints that are met by
-- walks, loans in scope by paths. The proofs show that what the definitions compute has these properties, for either end rule.
use Rattle.std.specs.Prelude.{◌≡◌, ◌↔◌, Bool, not, ◌&&◌, List, [], ◌∷◌, ℕ, suc, ◌+◌, ◌*◌, ◌/◌, ◌%◌, ◌^◌, ◌<◌, ◌≤◌, length, get_or, T, eqb, ltb}
use Rattle.nll_spec.specs.Lists.{contains, Member}
use Rattle.nll_spec.specs.Syntax.{Job, Point, RegionName, Variable, Path, Action, Borrow}
use Rattle.nll_spec.specs.Decode.{rejected, decoded, decode, point_count}
use Rattle.nll_spec.specs.Types.{variable_type, regions_of}
use Rattle.nll_spec.specs.Graph.{Graph, graph_of, action_at, next_of, first_point}
use Rattle.nll_spec.specs.Liveness.{defs, uses, drops}
use Rattle.nll_spec.specs.Constraints.{Outlives, constraints_at}
use Rattle.nll_spec.specs.Regions.{EndRule, passes_end, is_exit, drop_regions}
use Rattle.nll_spec.specs.Loans.{Loan, kills}
use Rattle.nll_spec.specs.Access.{Access, accesses, conflicts, fault_kind, Verdict, no_fault}
use Rattle.nll_spec.specs.Output.{word_bits, word_count, verdict_bytes, words_needed, bytes_needed, judge, analyse}

-- ---- Demand 1

-- Both buffers have room for a job's answer.
abbrev pub Room : Job → List ℕ → List ℕ → Type 0
Room j ws bs = (words_needed j ≤ length ws) × (bytes_needed j ≤ length bs)

-- The number is 0 or one of ten refusals. It is 0 exactly for a job that 1 to 9 let pass and that there is room for, 10 exactly where the room is missing,
-- and any other exactly where that refusal applies first. A refusal leaves both buffers as they were.
pub record Refuses (ends : EndRule) (input ws bs : List ℕ) : Type 0 where
  pub one_of_ten : (analyse ends input ws bs).number ≤ 10
  pub accepted : ((analyse ends input ws bs).number ≡ 0) ↔ ((j : Job) × (judge input ≡ decoded j) × Room j ws bs)
  pub too_short : ((analyse ends input ws bs).number ≡ 10) ↔ ((j : Job) × (judge input ≡ decoded j) × (Room j ws bs → ⊥))
  pub refused : (n : ℕ) → (n ≡ 0 → ⊥) → (n ≡ 10 → ⊥) → ((analyse ends input ws bs).number ≡ n) ↔ (judge input ≡ rejected n)
  pub untouched : ((analyse ends input ws bs).number ≡ 0 → ⊥) → ((analyse ends input ws bs).words ≡ ws) × ((analyse ends input ws bs).bytes ≡ bs)

-- ---- Seeds

-- q follows p.
abbrev pub Next : Graph → Point → Point → Type 0
Next g p q = T (contains (next_of g p) q)

-- A point of a walked block: some path leads to it from the start block's first point.
pub data Reached (j : Job) : Point → Type 0 where
  start : Reached j (first_point j.blocks 0 j.start)
  next : {p q : Point} → Reached j p → Next (graph_of j) p q → Reached j q

-- Variable v is live on entry to a point, for `uses` or for `drops`: the action there needs its value, or does not replace it and v is live on entry to a
-- point that follows.
pub data Live (g : Graph) (needs : Action → List Variable) (v : Variable) : Point → Type 0 where
  now : {p : Point} → T (contains (needs (action_at g p)) v) → Live g needs v p
  later : {p q : Point} → T (not (contains (defs (action_at g p)) v)) → Next g p q → Live g needs v q → Live g needs v p

-- Declared region r outlives itself and, transitively, the regions that the record gives it.
pub data DeclaredOutlives (j : Job) (r : RegionName) : RegionName → Type 0 where
  itself : DeclaredOutlives j r r
  through : {m e : RegionName} → DeclaredOutlives j r m → T (contains (get_or j.outlives m []) e) → DeclaredOutlives j r e

-- A declared region's seed: every point of walked blocks, and the ends of all that it outlives. Any region's: the walked points on entry to which a
-- variable is used later that has it in its type, or dropped later with a type whose drop needs it.
pub data Seed (j : Job) (r : RegionName) : Point → Type 0 where
  everywhere : {p : Point} → r < length j.outlives → Reached j p → Seed j r p
  end : {e : RegionName} → r < length j.outlives → DeclaredOutlives j r e → Seed j r ((graph_of j).code + e)
  used : {p : Point} {v : Variable} → Reached j p → Live (graph_of j) uses v p → T (contains (regions_of (variable_type j v)) r) → Seed j r p
  dropped : {p : Point} {v : Variable} → Reached j p → Live (graph_of j) drops v p → T (contains (drop_regions (variable_type j v) j.structs) r) → Seed j r p

-- ---- Least sets

-- The regions' sets of points.
abbrev pub Sets : Type 0
Sets = RegionName → Point → Bool

-- A walk from a point to another through points that pass a test, both included.
pub data Walk (g : Graph) (inside : Point → Bool) (from : Point) : Point → Type 0 where
  begin : T (inside from) → Walk g inside from from
  go_on : {p q : Point} → Walk g inside from p → Next g p q → T (inside q) → Walk g inside from q

-- "S outlives T at p": what a walk from p through T reaches is in S; and where it reaches a point without successors, so is each declared end that the
-- end rule passes on.
pub record Meets (ends : EndRule) (g : Graph) (sets : Sets) (c : Outlives) : Type 0 where
  pub points : (q : Point) → Walk g (sets c.sub) c.point q → T (sets c.sup q)
  pub passed : (q e : Point) → Walk g (sets c.sub) c.point q → T (is_exit g q) → g.code ≤ e → e < g.points → T (passes_end ends (sets c.sub e)) → T (sets c.sup e)

-- A constraint that an action of a walked block makes.
pub record ConstraintOf (j : Job) (c : Outlives) : Type 0 where
  pub at : Point
  pub walked : Reached j at
  pub made : Member c (constraints_at j at (action_at (graph_of j) at))

-- Sets that contain the seeds of the first n regions and meet every constraint.
pub record Solves (ends : EndRule) (g : Graph) (n : ℕ) (seed : RegionName → Point → Type 0) (cs : Outlives → Type 0) (sets : Sets) : Type 0 where
  pub seeded : (r : RegionName) (q : Point) → r < n → seed r q → T (sets r q)
  pub met : (c : Outlives) → cs c → Meets ends g sets c

-- The least such sets.
pub record LeastSolution (ends : EndRule) (g : Graph) (n : ℕ) (seed : RegionName → Point → Type 0) (cs : Outlives → Type 0) (sets : Sets) : Type 0 where
  pub solves : Solves ends g n seed cs sets
  pub smallest : (others : Sets) → Solves ends g n seed cs others → (r : RegionName) (q : Point) → r < n → T (sets r q) → T (others r q)

-- ---- Scope and conflict

-- A loan is that of a borrow in a walked block.
pub record LoanOf (j : Job) (loan : Loan) : Type 0 where
  pub into : Path
  pub borrow : action_at (graph_of j) loan.point ≡ Borrow into loan.region loan.kind loan.path
  pub walked : Reached j loan.point

-- A path on which a loan stays in scope, from its borrow by one step or more: each point after the borrow is in its region, and no action before the last
-- point overwrites its path or a prefix.
pub data ScopePath (j : Job) (region : Point → Bool) (loan : Loan) : Point → Type 0 where
  first : {q : Point} → Next (graph_of j) loan.point q → T (region q) → T (not (kills j (action_at (graph_of j) loan.point) loan)) → ScopePath j region loan q
  more : {p q : Point} → ScopePath j region loan p → Next (graph_of j) p q → T (region q) → T (not (kills j (action_at (graph_of j) p) loan)) → ScopePath j region loan q

-- A loan is in scope at p that conflicts with the access.
pub record Faulted (j : Job) (sets : Sets) (p : Point) (x : Access) : Type 0 where
  pub loan : Loan
  pub of-job : LoanOf j loan
  pub in_scope : ScopePath j (sets loan.region) loan p
  pub conflict : T (conflicts j x loan)

-- The verdict on accesses, the first of which is operand i: that of the first that is faulted, or none.
pub data Judged (fault : Access → Type 0) : ℕ → List Access → Verdict → Type 0 where
  clean : {i : ℕ} → Judged fault i [] no_fault
  this : {i : ℕ} {x : Access} {xs : List Access} → fault x → Judged fault i (x ∷ xs) (record { kind = fault_kind x; operand = i })
  pass : {i : ℕ} {x : Access} {xs : List Access} {v : Verdict} → (fault x → ⊥) → Judged fault (suc i) xs v → Judged fault i (x ∷ xs) v

-- ---- Demand 2

-- bit i of a run of words
abbrev pub bit_of : List ℕ → ℕ → ℕ
bit_of ws i = get_or ws (i / word_bits) 0 / 2 ^ (i % word_bits) % 2

-- the sets of n points that the words say: region r from word r × W
abbrev pub sets_in : ℕ → List ℕ → Sets
sets_in n ws r p = ltb p n && eqb (bit_of ws (word_bits * (r * word_count n) + p)) 1

-- the verdict of a point that the bytes say
abbrev pub verdict_in : List ℕ → Point → Verdict
verdict_in bs p = record { kind = get_or bs (verdict_bytes * p) 0; operand = get_or bs (suc (verdict_bytes * p)) 0 }

-- A buffer after the call: as long as before, with room for what is written, and as before from there on.
pub record Kept (needed : ℕ) (old new : List ℕ) : Type 0 where
  pub room : needed ≤ length old
  pub as_long : length new ≡ length old
  pub tail : (i : ℕ) → needed ≤ i → get_or new i 0 ≡ get_or old i 0

-- What is written for an accepted job: `old-ws` and `old-bs` are the buffers before, ws and bs after.
pub record Means (ends : EndRule) (j : Job) (old-ws old-bs ws bs : List ℕ) : Type 0 where
  pub words-kept : Kept (words_needed j) old-ws ws
  pub bytes-kept : Kept (bytes_needed j) old-bs bs
  -- the words say the least sets
  pub least-sets : LeastSolution ends (graph_of j) j.regions (Seed j) (ConstraintOf j) (sets_in (point_count j) ws)
  -- and have no other bit
  pub unused : (r : RegionName) (p : Point) → r < j.regions → point_count j ≤ p → p < word_bits * word_count (point_count j) → bit_of ws (word_bits * (r * word_count (point_count j)) + p) ≡ 0
  -- a point's verdict is that on its action's accesses, destination first
  pub verdicts : (p : Point) → p < point_count j → Judged (Faulted j (sets_in (point_count j) ws) p) 0 (accesses (action_at (graph_of j) p)) (verdict_in bs p)
  -- a kind other than 0 stands exactly at the points of walked blocks at which an access is faulted
  pub faults : (p : Point) → p < point_count j
      → ((verdict_in bs p).kind ≡ 0 → ⊥) ↔ (Reached j p × ((x : Access) × Member x (accesses (action_at (graph_of j) p)) × Faulted j (sets_in (point_count j) ws) p x))
  -- a declared region is marked, by 1, exactly if its set exceeds its seed
  pub grown : (r : RegionName) → r < length j.outlives
      → (get_or bs (verdict_bytes * point_count j + r) 0 ≡ 1) ↔ ((p : Point) × T (sets_in (point_count j) ws r p) × (Seed j r p → ⊥))
  pub marks : (r : RegionName) → r < length j.outlives → get_or bs (verdict_bytes * point_count j + r) 0 ≤ 1

-- What every accepting call writes means this.
abbrev pub AnswersMean : EndRule → Type 0
AnswersMean ends =
    (input ws bs : List ℕ) (j : Job) → decode input ≡ decoded j → (analyse ends input ws bs).number ≡ 0
    → Means ends j ws bs (analyse ends input ws bs).words (analyse ends input ws bs).bytes
