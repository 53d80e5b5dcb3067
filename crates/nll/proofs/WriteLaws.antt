-- The whole answer. Assumes nothing.
use mathlib.Core.Path.{◌≡◌, refl, sym, subst, ap, ap₂, ◌∙◌}
use mathlib.Core.List.{List, ◌++◌, map}
use Prim.Native.Nat.{ℕ, ◌*◌, ◌≤◌}
use native.Mathlib.Omega.{arith}
use lib.ListN.{length, take, length-append}
use lib.Seq.{paste}
use lib.Dec.{T, ltb}
use Rattle.nll_spec.specs.Syntax.{Job}
use Rattle.nll_spec.specs.Decode.{point_count}
use Rattle.nll_spec.specs.WellFormed.{successors_named}
use Rattle.nll_spec.specs.Graph.{graph_of}
use Rattle.nll_spec.specs.Regions.{every_end}
use Rattle.nll_spec.specs.Output.{answer, bit, bytes_of, verdict_bytes, bytes_needed, overwrite}
use Rattle.nll_spec.specs.Meaning.{Room}
use Rattle.nll_spec.proofs.AcceptedLaws.{accepted-job}
use Rattle.nll_spec.proofs.OutputLaws.{length-bytes_of}
use Rattle.record.specs.Layout.{Holds}
use Rattle.record.specs.declared.Record.{Record}
use Rattle.graph.specs.declared.tables.FuncGraph.{FuncGraph}
use Rattle.graph.specs.Tables.{Edges}
use Rattle.graph.specs.Search.{WalkedIn}
use Rattle.nll.specs.Steps.{shape_of, JobAt, Mapped, Answered, Solves, verdicts_of, Judges, Writes}
use Rattle.nll.proofs.JobLaws.{points-are}
use Rattle.nll.proofs.OverwriteLaws.{pasted}
use Rattle.nll.proofs.WordLaws.{length-marks}

module _ (j : Job) where
  bytes_apart : bytes_of (answer every_end j) ≡ verdicts_of (answer every_end j) ++ map bit (answer every_end j).grown
  unfolding bytes_of
  bytes_apart = refl

  length-verdicts : length (verdicts_of (answer every_end j)) ≡ verdict_bytes * point_count j
  unfolding bytes_needed
  length-verdicts =
      let x = ap length bytes_apart ∙ length-append (verdicts_of (answer every_end j)) (map bit (answer every_end j).grown) in
      omega (arith, x, length-marks j, length-bytes_of every_end j)

  -- the marks after the verdicts
  bytes_written : (grown bs : List ℕ) → take (length j.outlives) grown ≡ map bit (answer every_end j).grown
      → paste (overwrite (verdicts_of (answer every_end j)) bs) (verdict_bytes * point_count j) grown (length j.outlives) ≡ overwrite (bytes_of (answer every_end j)) bs
  bytes_written grown bs e =
      ap₂ (λ (x y : ℕ). paste (overwrite (verdicts_of (answer every_end j)) bs) x grown y) (sym length-verdicts) (sym (length-marks j))
      ∙ pasted (verdicts_of (answer every_end j)) (map bit (answer every_end j).grown) bs grown (ap (λ (k : ℕ). take k grown) (length-marks j) ∙ e)
      ∙ ap (λ (x : List ℕ). overwrite x bs) (sym bytes_apart)

module _ {input : Record} {g : FuncGraph} (is : g.input ≡ input)
    (graphed : (j : Job) → Holds input j → T (successors_named j) → point_count j ≤ 1024 → Edges (graph_of j) g.first g.succ × (T (ltb j.start (length j.blocks)) → WalkedIn j g.walked))
  where
    mapped : (j : Job) → JobAt input j → Mapped g j
    mapped j a =
        let ok = accepted-job j a.accepted in
        let m = graphed j a.layout ok.successors-named a.points in
        record { edges = m.0; walks = m.1 ok.start-named }

    module _ {ws ws' grown bs mid bs' : List ℕ} (solves : Solves g ws ws' grown) (judges : Judges g ws' bs mid)
        (marks : bs' ≡ paste mid (verdict_bytes * (shape_of input.head).points) grown input.head.declared) where
      found : (j : Job) → JobAt input j → Room j ws bs → Answered j ws ws' grown
      found j a room = solves.solved j (subst (λ (x : Record). JobAt x j) (sym is) a) (mapped j a) room.0

      verdicts : (j : Job) → JobAt input j → Room j ws bs → mid ≡ overwrite (verdicts_of (answer every_end j)) bs
      unfolding bytes_needed
      verdicts j a room = judges.judged j (subst (λ (x : Record). JobAt x j) (sym is) a) (mapped j a) (found j a room).says (omega (arith, room.1))

      pub writes : Writes input ws bs ws' bs'
      writes =
          record {
            words = λ j a room. (found j a room).words;
            bytes = λ j a room.
                marks ∙ ap₂ (λ (x y : ℕ). paste mid (verdict_bytes * x) grown y) (points-are a.layout) (sym a.layout.declared_count)
                ∙ ap (λ (x : List ℕ). paste x (verdict_bytes * point_count j) grown (length j.outlives)) (verdicts j a room)
                ∙ bytes_written j grown bs (found j a room).marks;
          }
