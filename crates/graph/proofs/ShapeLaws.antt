-- What a block that is read says of its counts. Assumes nothing.
use mathlib.Core.Path.{◌≡◌, sym, ap, subst, ◌∙◌}
use mathlib.Core.List.{List}
use Prim.Native.Nat.{ℕ, ◌≤◌}
use native.Mathlib.Omega.{arith}
use lib.ListN.{length, take, drop}
use Rattle.nll_spec.specs.Syntax.{Block, Job}
use Rattle.nll_spec.specs.Decode.{read, byte, count, items, counted, action, block, max_successors, max_actions}
use Rattle.repr.specs.Reading.{rest}
use Rattle.repr.specs.Parts.{block_of, block_says}
use Rattle.repr.specs.declared.BasicBlockData.{BasicBlockData}
use Rattle.repr.proofs.ReadLaws.{told}
use Rattle.repr.proofs.SpellLaws.{clash, done_back, then}
use Rattle.repr.proofs.ItemLaws.{items-length}
use Rattle.repr.specs.Stands.{Stands}
use Rattle.record.specs.Layout.{Layout}
use Rattle.record.specs.declared.Head.{Head}
use Rattle.record.specs.declared.Offsets.{Offsets}
use Rattle.record.proofs.LayoutLaws.{count_most}
use Rattle.graph.specs.declared.Shape.{Shape}
use Rattle.graph.specs.Shape.{Few, Listed, Shaped, ShapeSays}
use Rattle.repr.specs.declared.refusal.Refusal.{Refusal}
use Rattle.std.specs.Prelude.{Result, Ok, Err}

-- A job of the record has at most 64 blocks.
pub few-blocks : {s : List ℕ} {t : Offsets} {h : Head} {j : Job} → Layout s t h j → length j.blocks ≤ 64
few-blocks w = omega (arith, w.block_count, w.block_limit)

-- ---- A block that was read

-- a block has at most eight successors
block-few : (bs : List ℕ) {b : Block} {over : List ℕ} → block bs ≡ read b over → length b.successors ≤ 8
unfolding block counted
block-few bs e =
    let x = then (counted max_successors byte) _ bs e in
    let y = then (counted max_actions action) _ x.mid x.last in
    let n = then (count 0 max_successors) _ bs x.first in
    let k = count_most 0 max_successors bs n.first in
    let l = items-length byte n.got n.mid n.last in
    let m = ap (λ (d : Block). length d.successors) (done_back _ _ y.last) in
    omega arith

module _ (s : List ℕ) (d : BasicBlockData) {b : Block} {over : List ℕ} where
  block_row : block_of s d ≡ read b over → take d.successors.count (rest s d.successors.from) ≡ b.successors
  unfolding block_of
  block_row e = let x = then (items d.actions.count action) _ (rest s d.actions.from) e in ap (λ (c : Block). c.successors) (done_back _ _ x.last)

  block-many : block_of s d ≡ read b over → d.actions.count ≡ length b.actions
  unfolding block_of
  block-many e =
      let x = then (items d.actions.count action) _ (rest s d.actions.from) e in
      sym (items-length action d.actions.count (rest s d.actions.from) x.first) ∙ ap (λ (c : Block). length c.actions) (done_back _ _ x.last)

-- ---- The answer

module _ {s : List ℕ} {at : ℕ} {r : Result BasicBlockData Refusal} (e : block_says s r ≡ block (drop at s)) where
  pub shape_none : {k : Refusal} → r ≡ Err k → {x : Shape} → Few x → ShapeSays s at x
  shape_none i few =
      record {
        fits = few;
        shaped = λ b h. absurd (clash (sym (told (block_says s) e i) ∙ h.reads));
      }

  pub shape_block : {d : BasicBlockData} → r ≡ Ok d → {x : Shape} → Listed s d x → ShapeSays s at x
  shape_block {d} i {x} l = record { fits = l.fits; shaped = shaped }
    where
      shaped : (b : Block) → Stands block b (drop at s) → Shaped b x
      shaped b h =
          let f = sym (told (block_says s) e i) ∙ h.reads in
          let row = l.row ∙ block_row s d f in
          let k = block-few (drop at s) h.reads in
          let m = ap length row in
          record { many = l.many ∙ block-many s d f; row = row; count = omega arith }

-- at the place that the table gives
pub shape_at : {s : List ℕ} {at place : ℕ} {r : Shape} → place ≡ at → ShapeSays s place r → ShapeSays s at r
shape_at {s} {r = r} e w = subst (λ (o : ℕ). ShapeSays s o r) e w
