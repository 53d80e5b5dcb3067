-- The tables of a job of the record, block by block. Assumes nothing.
use mathlib.Core.Path.{◌≡◌, refl, sym, ap, subst, ◌∙◌}
use mathlib.Core.List.{List, [], ◌∷◌, map}
use Prim.Native.Nat.{ℕ, zero, suc, ◌+◌, ◌≤◌, ◌<◌}
use native.Mathlib.Omega.{arith}
use native.Mathlib.Nat.{not-suc-le-zero, le_of_suc-le-suc}
use native.Mathlib.Numerals.{add-one}
use lib.ListN.{get_or, length, set, length-set}
use lib.Seq.{get_or-set_same}
use lib.Dec.{T, eqb}
use Rattle.nll_spec.specs.Lists.{contains}
use Rattle.nll_spec.specs.Syntax.{Job, Block, BlockIndex}
use Rattle.nll_spec.specs.Decode.{code_count, point_count}
use Rattle.nll_spec.specs.Graph.{graph_of, next_of, first_point, statements_of, block_successors}
use Rattle.nll_spec.proofs.Tests.{any-there, contains-here}
use Rattle.nll_spec.proofs.GraphLaws.{block_at, no_block, first_of, actions_in, in_code, next-within, next-at-end, code-count, length-statements, successor_named, next_in_code}
use Rattle.record.specs.declared.Head.{Head}
use Rattle.record.specs.declared.Record.{Record}
use Rattle.record.specs.declared.Offsets.{Offsets}
use Rattle.record.proofs.AccessLaws.{block-at, first-at}
use Rattle.graph.proofs.ShapeLaws.{few-blocks}
use Rattle.graph.specs.declared.Shape.{Shape}
use Rattle.graph.specs.declared.Place.{Place}
use Rattle.graph.specs.Tables.{Edges}
use Rattle.graph.specs.Shape.{Shaped, ShapeSays}
use Rattle.graph.specs.Filling.{Sized, Chained, Ended, Given, Rows, Within, BlockRows}

-- ---- First points

first-suc : (ds : List Block) (p b : ℕ) → b < length ds → first_point ds p (suc b) ≡ first_point ds p b + suc (length (block_at ds b).actions)
unfolding first_point
first-suc [] p b h = absurd (not-suc-le-zero h)
first-suc (d ∷ ds) p zero h = at_zero ds
  where
    at_zero : (es : List Block) → first_point es (p + suc (length d.actions)) 0 ≡ p + suc (length d.actions)
    at_zero [] = refl
    at_zero (e ∷ es) = refl
first-suc (d ∷ ds) p (suc b) h = first-suc ds (p + suc (length d.actions)) b (le_of_suc-le-suc h)

-- a block's first point comes after the points of the block before
pub first_step : (ds : List Block) (p b : ℕ) → b < length ds → first_point ds p (b + 1) ≡ first_point ds p b + suc (length (block_at ds b).actions)
first_step ds p b h = rw (add-one b) (first-suc ds p b h)

pub first_total : (ds : List Block) (p : ℕ) → first_point ds p (length ds) ≡ p + code_count ds
unfolding first_point code_count
first_total [] p = omega arith
first_total (d ∷ ds) p = let x = first_total ds (p + suc (length d.actions)) in omega arith

pub first_zero : (ds : List Block) → first_point ds 0 0 ≡ 0
unfolding first_point
first_zero [] = refl
first_zero (d ∷ ds) = refl

-- ---- One block

map_same : (g h : ℕ → ℕ) (ns : List ℕ) → ((c : ℕ) → T (contains ns c) → g c ≡ h c) → map g ns ≡ map h ns
map_same g h [] e = refl
map_same g h (n ∷ ns) e = rw (e n (contains-here n ns), map_same g h ns (λ c k. e c (any-there (eqb c) n ns k)))

-- Block b of a job, which the answer d is about.
module _ {s : List ℕ} {t : Offsets} {h : Head} {j : Job} (w : Given s t h j) (b : BlockIndex) (l : b < length j.blocks) {d : Shape} (says : ShapeSays s (get_or t.blocks b 0) d) where
  shaped : Shaped (block_at j.blocks b) d
  shaped = says.shaped (block_at j.blocks b) (block-at w.layout b no_block l)

  module _ {at : Place} {first succ : List ℕ} (rows : Rows j b at first succ) where
    -- the tables have room for its rows
    pub point-room : at.point + d.actions < 1024
    point-room = let x = in_code j b l (actions_in j b) (omega arith) in let y = code-count j in let z = w.layout.few in omega (arith, rows.point, shaped.many)

    pub entry-room : at.entry + d.actions + length d.successors.now ≤ 1536
    entry-room = let x = point-room in omega (arith, rows.few, shaped.count, few-blocks w.layout)

    next_chain : (i : ℕ) → i < d.actions → next_of (graph_of j) (at.point + i) ≡ suc (at.point + i) ∷ []
    next_chain i k = rw rows.point (next-within j b l i (omega (arith, shaped.many)))

    -- a successor's first point stands in the table of the record
    first_entry : (c : ℕ) → T (contains (block_successors j b) c) → first_of j c ≡ get_or t.first c 0
    first_entry c k = sym (first-at w.layout c (successor_named j w.named b c l k))

    next-end : next_of (graph_of j) (at.point + d.actions) ≡ map (λ (b : ℕ). get_or t.first b 0) (d.successors.now)
    next-end =
        rw (rows.point, shaped.many, shaped.row) (next-at-end j b l ∙ map_same (first_of j) (λ (b : ℕ). get_or t.first b 0) (block_successors j b) first_entry)

    pub rows_more : {first₁ succ₁ first₂ succ₂ : List ℕ} → Chained at.point d.actions at.entry first succ first₁ succ₁
        → Ended t d.successors.now (at.point + d.actions) (at.entry + d.actions) first₁ succ₁ first₂ succ₂
        → Rows j (b + 1) (record { point = at.point + d.actions + 1; entry = at.entry + d.actions + length d.successors.now }) first₂ succ₂
    rows_more c e =
        record {
          point = let x = first_step j.blocks 0 b l in omega (arith, rows.point, shaped.many);
          few = omega (arith, rows.few, shaped.count);
          filled = e.filled (next_of (graph_of j)) next-end (c.filled (next_of (graph_of j)) next_chain rows.filled);
        }

-- ---- What is returned

module _ (input : Record) (b : BlockIndex) (at : Place) {first succ : List ℕ} (sized : Sized first succ) (within : Within at) where
  module _ {d : Shape} (says : ShapeSays input.bytes.now (get_or input.layout.now.blocks b 0) d) where
    pub no_point_lem : 1024 ≤ at.point + d.actions → BlockRows input.bytes.now input.layout.now b at at first succ first succ
    no_point_lem h = record { sized = sized; within = within; rows = λ _ j w l rows. absurd (omega (arith, point-room w b l says rows)) }

    pub no_entry : 1536 < at.entry + d.actions + length d.successors.now → BlockRows input.bytes.now input.layout.now b at at first succ first succ
    no_entry h = record { sized = sized; within = within; rows = λ _ j w l rows. absurd (omega (arith, entry-room w b l says rows)) }

    pub block-rows : {between : Record} {first₁ succ₁ first₂ succ₂ : List ℕ} → at.point + d.actions < 1024 → at.entry + d.actions + length d.successors.now ≤ 1536 → between ≡ input
        → Chained at.point d.actions at.entry first succ first₁ succ₁ → Ended between.layout.now d.successors.now (at.point + d.actions) (at.entry + d.actions) first₁ succ₁ first₂ succ₂
        → BlockRows input.bytes.now input.layout.now b at (record { point = at.point + d.actions + 1; entry = at.entry + d.actions + length d.successors.now }) first succ first₂ succ₂
    block-rows {first₁ = first₁} {succ₁} {first₂} {succ₂} p e same c ended = record { sized = z.sized; within = record { point = omega arith; entry = e }; rows = λ _ j w l rows. rows_more w b l says rows c z }
      where
        z : Ended input.layout.now d.successors.now (at.point + d.actions) (at.entry + d.actions) first₁ succ₁ first₂ succ₂
        z = subst (λ (x : Record). Ended x.layout.now d.successors.now (at.point + d.actions) (at.entry + d.actions) first₁ succ₁ first₂ succ₂) same ended

-- ---- The whole

-- The rows of the first b blocks of every job of the record.
pub record Rowed (input : Record) (b : BlockIndex) (at : Place) (first succ : List ℕ) : Type 0 where
  pub turns : b ≤ input.head.blocks
  pub sized : Sized first succ
  pub within : Within at
  pub rows : (j : Job) → Given input.bytes.now input.layout.now input.head j → Rows j b at first succ

module _ (input : Record) where
  pub rowed_none : {first succ : List ℕ} → Sized first succ → Rowed input 0 (record { point = 0; entry = 0 }) (set first 0 0) succ
  rowed_none {first} {succ} z =
      record {
        turns = omega arith;
        sized = record { rows = length-set first 0 0 ∙ z.rows; entries = z.entries };
        within = record { point = omega arith; entry = omega arith };
        rows = λ j w. record {
          point = sym (first_zero j.blocks);
          few = omega arith;
          filled = record {
            last = get_or-set_same first 0 0 0 (omega (arith, z.rows));
            starts = λ p m. absurd (not-suc-le-zero m);
            ends = λ p m. absurd (not-suc-le-zero m);
            next = λ p m. absurd (not-suc-le-zero m);
          };
        };
      }

  pub rowed_more : {x : Record} {b : BlockIndex} {at next : Place} {first₀ succ₀ first succ : List ℕ} → Rowed input b at first₀ succ₀ → b < input.head.blocks → x ≡ input
      → BlockRows x.bytes.now x.layout.now b at next first₀ succ₀ first succ → Rowed input (b + 1) next first succ
  rowed_more {x} {b} {at} {next} {first₀} {succ₀} {first} {succ} r l same rows =
      record { turns = omega arith; sized = w.sized; within = w.within; rows = λ j g. w.rows input.head j g (omega (arith, g.layout.block_count)) (r.rows j g) }
    where
      w : BlockRows input.bytes.now input.layout.now b at next first₀ succ₀ first succ
      w = subst (λ (y : Record). BlockRows y.bytes.now y.layout.now b at next first₀ succ₀ first succ) same rows

  pub rowed_all : {b : BlockIndex} {at : Place} {first succ : List ℕ} → Rowed input b at first succ → input.head.blocks ≤ b → (j : Job) → Given input.bytes.now input.layout.now input.head j → Edges (graph_of j) first succ
  unfolding graph_of point_count statements_of
  rowed_all {b} {at} {first} {succ} r l j g =
      record {
        ordered = omega (arith, length-statements j.blocks 0 0 j.blocks);
        few = g.points;
        sized = r.sized.entries;
        starts = λ p k. rows.filled.starts p (before p k);
        ends = λ p k. omega (arith, rows.filled.ends p (before p k), r.within.entry);
        next = λ p k. rows.filled.next p (before p k);
        inside = λ p q k e. next_in_code j g.named p q e;
      }
    where
      rows : Rows j b at first succ
      rows = r.rows j g

      last : b ≡ length j.blocks
      last = omega (arith, r.turns, g.layout.block_count)

      before : (p : ℕ) → p < (graph_of j).code → p < at.point
      before p k = let x = first_total j.blocks 0 in let y = code-count j in let z = rows.point ∙ ap (first_point j.blocks 0) last in omega arith
