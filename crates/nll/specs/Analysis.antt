-- What the call promises: the number, every word and byte afterwards, and three demands, each read off the number and the buffers.
use Rattle.std.specs.Prelude.{◌≡◌, ◌↔◌, List, ℕ, ◌<◌, ◌≤◌, T}
use Rattle.nll_spec.specs.Syntax.{Job, Point, Path, RegionName, BorrowKind, Borrow}
use Rattle.nll_spec.specs.Decode.{Decoded, rejected, decoded, decode, point_count}
use Rattle.nll_spec.specs.Graph.{graph_of, action_at}
use Rattle.nll_spec.specs.Liveness.{is_plain}
use Rattle.nll_spec.specs.Regions.{every_end}
use Rattle.nll_spec.specs.Output.{judge, analyse}
use Rattle.nll_spec.specs.Meaning.{Room, Reached, Means, verdict_in}
use Rattle.nll_spec.specs.Guarantee.{only, is_path, uses_holder, untouched}

module _ (input ws bs : List ℕ) (n : ℕ) (ws' bs' : List ℕ) where
  -- The number is 0 or one of ten refusals: 0 exactly for a job that 1 to 9 let pass and that there is room for, 10 exactly where the room is
  -- missing, and any other exactly where that refusal applies first. A refusal leaves both buffers as they were.
  pub record Refuses : Type 0 where
    pub one_of_ten : n ≤ 10
    pub accepted : (n ≡ 0) ↔ ((j : Job) × (judge input ≡ decoded j) × Room j ws bs)
    pub too_short : (n ≡ 10) ↔ ((j : Job) × (judge input ≡ decoded j) × (Room j ws bs → ⊥))
    pub refused : (k : ℕ) → (k ≡ 0 → ⊥) → (k ≡ 10 → ⊥) → (n ≡ k) ↔ (judge input ≡ rejected k)
    pub unchanged : (n ≡ 0 → ⊥) → (ws' ≡ ws) × (bs' ≡ bs)

  -- The call accepts the record, and writes kind 0 at every point.
  pub record WithoutErrors (j : Job) : Type 0 where
    pub reads : decode input ≡ decoded j
    pub accepted : n ≡ 0
    pub quiet : (p : Point) → p < point_count j → (verdict_in bs' p).kind ≡ 0

  -- As `nll_spec` has it: on each path from a borrow of a walked block into a plain variable to a use of a holder, what is lent stays
  -- untouched, until its path or a prefix is overwritten.
  abbrev pub Guarantee : Type 0
  Guarantee =
      (j : Job) → WithoutErrors j
      → (p : Point) (d : Path) (r : RegionName) (k : BorrowKind) (q : Path) → action_at (graph_of j) p ≡ Borrow d r k q → Reached j p → T (is_plain d)
      → (path : List Point) → T (is_path (graph_of j) p path) → T (uses_holder (graph_of j) (only d.base) path)
      → T (untouched j (graph_of j) (record { point = p; region = r; kind = k; path = q }) p path)

  -- The number n is returned for the record `input`, and the words ws and the bytes bs become ws' and bs'.
  pub record AnalyseSays : Type 0 where
    pub number : n ≡ (analyse every_end input ws bs).number
    pub words : ws' ≡ (analyse every_end input ws bs).words
    pub bytes : bs' ≡ (analyse every_end input ws bs).bytes
    pub refuses : Refuses
    -- what is written for an accepted job means what `nll_spec` says
    pub means : (j : Job) → decode input ≡ decoded j → n ≡ 0 → Means every_end j ws bs ws' bs'
    -- from the bytes handed in to the bytes written
    pub guarantee : Guarantee

-- how many points the job of a record has, by what `judge` says of the record; a refused one has none
abbrev pub points_of : Decoded → ℕ
points_of (rejected k) = 0
points_of (decoded j) = point_count j
