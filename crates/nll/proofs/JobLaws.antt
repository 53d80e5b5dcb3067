-- What the head of a job that 1 to 9 let pass says of it. Assumes nothing.
use mathlib.Core.Path.{◌≡◌, sym, ap, ap₂, ◌∙◌}
use mathlib.Core.Bool.{Bool, true, false, ◌&&◌, cond}
use mathlib.Core.List.{List}
use Prim.Native.Nat.{ℕ, ◌+◌, ◌*◌}
use native.Mathlib.Omega.{arith}
use lib.Dec.{T, leb}
use Rattle.nll_spec.specs.Syntax.{Job}
use Rattle.nll_spec.specs.Decode.{point_count}
use Rattle.nll_spec.specs.WellFormed.{named, types_fit, paths_fit, shapes_fit, refusal}
use Rattle.nll_spec.specs.Graph.{graph_of}
use Rattle.nll_spec.specs.Output.{word_count, words_needed, bytes_needed}
use Rattle.nll_spec.proofs.GraphLaws.{code-count}
use Rattle.record.specs.Layout.{Layout}
use Rattle.record.specs.declared.Head.{Head}
use Rattle.record.specs.declared.Offsets.{Offsets}
use Rattle.nll.specs.Steps.{shape_of, room_for}

-- no refusal is 6, and none is 8
pub names_and_paths : (j : Job) → refusal j ≡ 0 → T (named j) × T (paths_fit j)
unfolding refusal
names_and_paths j e = go (named j) (types_fit j) (paths_fit j) (shapes_fit j) e
  where
    go : (a b c d : Bool) → ◌≡◌ {A = ℕ} (cond a (cond b (cond c (cond d 0 9) 8) 7) 6) 0 → T a × T c
    go true true true d e = (tt, tt)
    go true true false d e = absurd (omega arith)
    go true false c d e = absurd (omega arith)
    go false b c d e = absurd (omega arith)

module _ {s : List ℕ} {t : Offsets} {h : Head} {j : Job} (l : Layout s t h j) where
  pub code_is : h.code ≡ (graph_of j).code
  code_is = l.code ∙ sym (code-count j)

  pub points-are : (shape_of h).points ≡ point_count j
  unfolding point_count
  points-are = ap₂ (λ (x y : ℕ). x + y) l.code (sym l.declared_count)

  pub width_is : (shape_of h).width ≡ word_count (point_count j)
  width_is = ap word_count points-are

  -- the room that the head asks for is the job's
  pub room-is : (words bytes : ℕ) → room_for h words bytes ≡ (leb (words_needed j) words && leb (bytes_needed j) bytes)
  unfolding words_needed bytes_needed
  room-is words bytes =
      ap₂ (λ (x y : ℕ). leb x words && leb y bytes)
      (ap₂ (λ (x y : ℕ). x * y) l.regions width_is)
      (ap₂ (λ (x y : ℕ). 2 * x + y) points-are (sym l.declared_count))
