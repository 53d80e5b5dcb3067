-- The words of the answer, and which declared regions are grown. Assumes nothing.
use mathlib.Core.Path.{◌≡◌, sym, ap, subst, ◌∙◌}
use mathlib.Core.Bool.{false}
use mathlib.Core.List.{List, map}
use Prim.Native.Nat.{ℕ, ◌*◌, ◌<◌, ◌≤◌}
use native.Mathlib.Omega.{arith}
use lib.ListN.{length, get_or, take, length-map, get_or-map}
use lib.Dec.{T}
use lib.Seq.{ext_get_or, get_or-take, length-take-le}
use Rattle.nll_spec.specs.Lists.{below}
use Rattle.nll_spec.specs.Syntax.{Job}
use Rattle.nll_spec.specs.Decode.{point_count, code_count}
use Rattle.nll_spec.specs.WellFormed.{named}
use Rattle.nll_spec.specs.Graph.{graph_of}
use Rattle.nll_spec.specs.Regions.{every_end, seed_table, is_grown}
use Rattle.nll_spec.specs.Output.{answer, bit, word_bits, word_count, words_of, words_needed, overwrite}
use Rattle.nll_spec.proofs.Tests.{length-count_from}
use Rattle.nll_spec.proofs.Lookup.{get_or-map-below}
use Rattle.nll_spec.proofs.Names.{sets_of}
use Rattle.nll_spec.proofs.OutputLaws.{length-words_of}
use Rattle.bit_set.specs.Rows.{Says}
use Rattle.bit_set.proofs.TableLaws.{says-answer}
use Rattle.record.specs.Layout.{Holds}
use Rattle.graph.specs.declared.tables.FuncGraph.{FuncGraph}
use Rattle.graph.specs.Tables.{Edges}
use Rattle.graph.specs.Search.{WalkedIn}
use Rattle.infer.specs.Ran.{Words}
use Rattle.infer.specs.declared.Shape.{Shape}
use Rattle.liveness.specs.Rows.{LiveRows}
use Rattle.seeds.specs.Seeded.{Seeded}
use Rattle.regionck.specs.Rounds as regionck
use Rattle.nll.specs.Steps.{shape_of, JobAt, Mapped, Seeds, Answered, Solves}
use Rattle.nll.proofs.JobLaws.{names_and_paths, code_is, points-are, width_is}
use Rattle.nll.proofs.OverwriteLaws.{same-tail}

pub seeds_by : {g : FuncGraph} {used dropped : List ℕ} {width m n : ℕ} {ws ws' : List ℕ}
    → (width ≤ 32 → 64 * width ≤ m) → (width ≤ 32 → 64 * width ≤ n) → length used ≡ m → length dropped ≡ n
    → ((j : Job) → Holds g.input j → code_count j.blocks ≤ word_bits * width → width ≤ 32 → 64 * width ≤ m → 64 * width ≤ n → Edges (graph_of j) g.first g.succ → WalkedIn j g.walked → LiveRows j width used dropped)
    → ((j : Job) → Holds g.input j → T (named j) → point_count j ≤ 1024 → WalkedIn j g.walked
    → 64 * width ≤ length used → 64 * width ≤ length dropped → LiveRows j width used dropped
    → width ≡ word_count (point_count j) → j.regions * width ≤ length ws → Seeded j width ws ws')
    → Seeds g width ws ws'
unfolding point_count
seeds_by {width = width} for-used for-dropped u d rows seeded = record {
  seeded = λ j a m e.
      let w : width ≤ 32 = omega (arith, e, a.points) in
      let x = for-used w in
      let y = for-dropped w in
      seeded j a.layout (names_and_paths j a.accepted).0 a.points m.walks (omega arith) (omega arith)
      (rows j a.layout (omega (arith, e)) w x y m.edges m.walks) e;
}

-- ---- The answer

pub length-marks : (j : Job) → length (map bit (answer every_end j).grown) ≡ length j.outlives
unfolding answer
length-marks j = rw (length-map, length-map, length-count_from)

mark-at : (j : Job) (r : ℕ) → r < length j.outlives → get_or (map bit (answer every_end j).grown) r 0 ≡ bit (is_grown (graph_of j) (seed_table j (graph_of j)) (sets_of every_end j) r)
unfolding answer
mark-at j r h =
    get_or-map bit (map (is_grown (graph_of j) (seed_table j (graph_of j)) (sets_of every_end j)) (below (length j.outlives))) r false
    ∙ ap bit (get_or-map-below (is_grown (graph_of j) (seed_table j (graph_of j)) (sets_of every_end j)) false (length j.outlives) r h)

module _ (j : Job) {ws mid ws' grown : List ℕ} (many : length j.outlives ≤ length grown)
    (seeded : Seeded j (word_count (point_count j)) ws mid) (solved : regionck.Solved every_end j mid ws' grown) where
  says : Says (word_count (point_count j)) (answer every_end j).sets ws'
  unfolding answer
  says = solved.says

  written : ws' ≡ overwrite (words_of (answer every_end j)) ws'
  unfolding answer graph_of
  written = says-answer (answer every_end j) ws' solved.fits solved.says

  others : (i : ℕ) → words_needed j ≤ i → get_or mid i 0 ≡ get_or ws i 0
  unfolding words_needed
  others i h = seeded.others i h

  pub answered : Answered j ws ws' grown
  answered =
      record {
        says = says;
        words = written
            ∙ same-tail (words_of (answer every_end j)) ws' ws (solved.as_long ∙ seeded.size)
            (λ i h. let k : words_needed j ≤ i = omega (arith, length-words_of every_end j) in solved.tail i k ∙ others i k);
        marks = ext_get_or 0 (take (length j.outlives) grown) (map bit (answer every_end j).grown) (size ∙ sym (length-marks j)) λ i h.
            let k : i < length j.outlives = omega (arith, size) in get_or-take (length j.outlives) grown i 0 k ∙ solved.grown i k ∙ sym (mark-at j i k);
      }
    where
      size : length (take (length j.outlives) grown) ≡ length j.outlives
      size = length-take-le (length j.outlives) grown many

module _ {g : FuncGraph} {ws mid : List ℕ} {shape : Shape} (e : shape ≡ shape_of g.input.head) where
  -- the seeds, as the solver is handed them
  handed : (j : Job) → JobAt g.input j → Mapped g j → Words mid → Seeded j (word_count (point_count j)) ws mid → regionck.Seeded g shape mid j
  handed j a m fits seeded =
      record {
        layout = a.layout;
        accepted = a.accepted;
        edges = m.edges;
        reached = m.walks;
        width = ap (λ (x : Shape). x.width) e ∙ width_is a.layout;
        code = ap (λ (x : Shape). x.code) e ∙ code_is a.layout;
        points = ap (λ (x : Shape). x.points) e ∙ points-are a.layout;
        fits = fits;
        seeds = seeded.says;
      }

  pub solves : {ws' grown : List ℕ} → Words mid → Seeds g shape.width ws mid → length grown ≡ 128
      → ((j : Job) → regionck.Seeded g shape mid j → regionck.Solved every_end j mid ws' grown) → Solves g ws ws' grown
  unfolding words_needed
  solves {ws'} {grown} fits seeds size solved = record { size = size; solved = by }
    where
      by : (j : Job) → JobAt g.input j → Mapped g j → words_needed j ≤ length ws → Answered j ws ws' grown
      by j a m k =
          let w = ap (λ (x : Shape). x.width) e ∙ width_is a.layout in
          let x : Seeded j (word_count (point_count j)) ws mid = subst (λ (n : ℕ). Seeded j n ws mid) w (seeds.seeded j a m w (subst (λ (n : ℕ). j.regions * n ≤ length ws) (sym w) k)) in
          answered j (omega (arith, a.layout.declared_count, a.layout.declared_limit, size)) x (solved j (handed j a m fits x))
