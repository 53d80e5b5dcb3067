-- Points of walked blocks. Assumes nothing.
use mathlib.Core.Path.{◌≡◌, refl, sym, ap, ◌∙◌}
use mathlib.Core.Bool.{true, false, ◌&&◌}
use mathlib.Core.List.{List}
use Prim.Native.Nat.{ℕ, zero, suc, ◌+◌, ◌-◌, ◌*◌, ◌≤◌, ◌<◌}
use native.Mathlib.Omega.{arith}
use native.Mathlib.Decide.{dec_lt}
use lib.ListN.{length, get_or}
use lib.Dec.{T, ltb, lt→ltb}
use borrow.Author.Tests.{lt-ltb, le-ltb, eq-eqb, ne_eqb}
use Rattle.nll_spec.specs.Syntax.{Job, BlockIndex}
use Rattle.nll_spec.specs.Fixpoint.{holds}
use Rattle.nll_spec.specs.Output.{word_bits}
use Rattle.nll_spec.specs.Decode.{point_count}
use Rattle.nll_spec.specs.WellFormed.{successors_named}
use Rattle.nll_spec.specs.Graph.{graph_of, is_walked, walked_table, first_point}
use Rattle.nll_spec.proofs.Tests.{and_right, and_intro}
use Rattle.nll_spec.proofs.Least.{same_bool}
use Rattle.nll_spec.proofs.GraphLaws.{block_at, no_block, first_of, actions_in, in_code, code-count, walked-point, point-walked, walked-is-code}
use Rattle.record.specs.Layout.{Layout}
use Rattle.record.specs.declared.Head.{Head}
use Rattle.record.specs.declared.Offsets.{Offsets}
use Rattle.record.proofs.AccessLaws.{block-at}
use Rattle.bit_set.specs.Bits.{has, cleared}
use Rattle.bit_set.proofs.BitLaws.{has_with, has_with_other, length_with}
use Rattle.bit_set.proofs.SetLaws.{length-cleared, has-cleared}
use Rattle.graph.proofs.ShapeLaws.{few-blocks}
use Rattle.graph.specs.declared.Shape.{Shape}
use Rattle.graph.specs.Shape.{Shaped, ShapeSays}
use Rattle.graph.specs.Filling.{Given}
use Rattle.graph.specs.Search.{is_marked, MarksWalked, WalkedBlocks, with_run, WalkedBelow, BlockPoints, WalkedIn}
use Rattle.graph.proofs.EdgeLaws.{first_step, first_total, first_zero}

-- ---- A run of points

-- The first i points of a run are in the set.
pub record Running (p i : ℕ) (ws₀ ws : List ℕ) : Type 0 where
  pub is : ws ≡ with_run ws₀ p i

pub running_none : (p : ℕ) (ws : List ℕ) → Running p 0 ws ws
running_none p ws = record { is = refl }

module _ (ws : List ℕ) (p : ℕ) where
  length_run : (n : ℕ) → length (with_run ws p n) ≡ length ws
  length_run zero = refl
  length_run (suc n) = length_with (with_run ws p n) (p + n) ∙ length_run n

  run_other : (n q : ℕ) → (p ≤ q → p + n ≤ q) → has (with_run ws p n) q ≡ has ws q
  run_other zero q h = refl
  run_other (suc n) q h =
      has_with_other (with_run ws p n) (p + n) q (λ e. let x : p + suc n ≤ q = h (omega arith) in omega arith)
      ∙ run_other n q (λ l. let x : p + suc n ≤ q = h l in omega arith)

  run_in : (n q : ℕ) → p + n ≤ word_bits * length ws → p ≤ q → q < p + n → has (with_run ws p n) q ≡ true
  run_in zero q r a b = absurd (omega arith)
  run_in (suc n) q r a b = go (dec_lt q (p + n)) (λ l. run_in n q (omega arith) a l)
    where
      go : Dec (q < p + n) → (q < p + n → has (with_run ws p n) q ≡ true) → has (with_run ws p (suc n)) q ≡ true
      go (yes l) f = has_with_other (with_run ws p n) (p + n) q (λ e. omega arith) ∙ f l
      go (no l) f = let e : q ≡ p + n = omega arith in rw e (has_with (with_run ws p n) (p + n) (let k = length_run n in omega arith))

-- ---- One block

module _ {s : List ℕ} {t : Offsets} {seen : List ℕ} {h : Head} {j : Job} (w : Given s t h j) (marks : MarksWalked seen j) (b : BlockIndex) (l : b < length j.blocks) {d : Shape} (says : ShapeSays s (get_or t.blocks b 0) d) {p : ℕ} {ws : List ℕ} (was : WalkedBelow j b p ws) where
  shaped : Shaped (block_at j.blocks b) d
  shaped = says.shaped (block_at j.blocks b) (block-at w.layout b no_block l)

  pub points-room : p + (d.actions + 1) ≤ 1024
  points-room = let x = in_code j b l (actions_in j b) (omega arith) in let y = code-count j in omega (arith, was.point, shaped.many, w.layout.few)

  -- a point of the block is walked exactly if the block is marked
  here : (q : ℕ) → p ≤ q → q < p + (d.actions + 1) → is_walked (graph_of j) q ≡ is_marked seen b
  here q a k =
      let i : q - p ≤ actions_in j b = omega (arith, shaped.many) in
      let e : q ≡ first_of j b + (q - p) = omega (arith, was.point) in
      same_bool (is_walked (graph_of j) q) (holds (walked_table j) 0 b) (point-walked j b l (q - p) i q e) (walked-point j b l (q - p) i q e) ∙ sym (marks.same b)

  next-point : p + (d.actions + 1) ≡ first_point j.blocks 0 (b + 1)
  next-point = let x = first_step j.blocks 0 b l in omega (arith, was.point, shaped.many)

  -- the set that has the block's points exactly if it is marked
  module _ {u : List ℕ} (others : (q : ℕ) → (p ≤ q → p + (d.actions + 1) ≤ q) → has u q ≡ has ws q) (these : (q : ℕ) → p ≤ q → q < p + (d.actions + 1) → q < 1024 → has u q ≡ is_marked seen b) where
    below_more : WalkedBelow j (b + 1) (p + (d.actions + 1)) u
    below_more = record { point = next-point; points = λ q k. go q k (dec_lt q p) (dec_lt q (p + (d.actions + 1))) }
      where
        go : (q : ℕ) → q < 1024 → Dec (q < p) → Dec (q < p + (d.actions + 1)) → has u q ≡ (ltb q (p + (d.actions + 1)) && is_walked (graph_of j) q)
        go q k (yes a) c = let m : q < p + (d.actions + 1) = omega arith in others q (λ e. absurd (omega arith)) ∙ was.points q k ∙ rw (lt-ltb q p a, lt-ltb q (p + (d.actions + 1)) m)
        go q k (no a) (yes c) = these q (omega arith) c k ∙ sym (here q (omega arith) c) ∙ rw (lt-ltb q (p + (d.actions + 1)) c)
        go q k (no a) (no c) = others q (λ e. omega arith) ∙ was.points q k ∙ rw (le-ltb q p (omega arith), le-ltb q (p + (d.actions + 1)) (omega arith))

  pub below_unmarked : get_or seen b 0 ≡ 0 → WalkedBelow j (b + 1) (p + (d.actions + 1)) ws
  below_unmarked e =
      below_more (λ q k. refl) (λ q a c k. was.points q k ∙ rw (le-ltb q p a, eq-eqb (get_or seen b 0) 0 e))

  pub below-marked : length ws ≡ 32 → (get_or seen b 0 ≡ 0 → ⊥) → WalkedBelow j (b + 1) (p + (d.actions + 1)) (with_run ws p (d.actions + 1))
  below-marked z e =
      below_more (λ q k. run_other ws p (d.actions + 1) q k)
      (λ q a c k. run_in ws p (d.actions + 1) q (let r = points-room in omega arith) a c ∙ rw (ne_eqb (get_or seen b 0) 0 e))

-- ---- What is returned

module _ (s : List ℕ) (t : Offsets) (seen : List ℕ) (b : BlockIndex) (p : ℕ) {ws : List ℕ} (size : length ws ≡ 32) where
  pub points_none : p ≤ 1024 → 64 ≤ b → BlockPoints s t seen b p p ws ws
  points_none r h = record { size = size; within = r; points = λ _ j w m l was. absurd (omega (arith, few-blocks w.layout)) }

  module _ {d : Shape} (says : ShapeSays s (get_or t.blocks b 0) d) where
    pub points-over : p ≤ 1024 → 1024 < p + (d.actions + 1) → BlockPoints s t seen b p p ws ws
    points-over r h = record { size = size; within = r; points = λ _ j w m l was. absurd (omega (arith, points-room w m b l says was)) }

    pub points_unmarked : p + (d.actions + 1) ≤ 1024 → {at : ℕ} → at ≡ b → get_or seen at 0 ≡ 0 → BlockPoints s t seen b p (p + (d.actions + 1)) ws ws
    points_unmarked r {at} i e = record { size = size; within = r; points = λ _ j w m l was. below_unmarked w m b l says was (rw i at e) }

    pub points-marked : p + (d.actions + 1) ≤ 1024 → {at : ℕ} → at ≡ b → (get_or seen at 0 ≡ 0 → ⊥) → {u : List ℕ} → u ≡ with_run ws p (d.actions + 1) → BlockPoints s t seen b p (p + (d.actions + 1)) ws u
    points-marked r {at} i e {u} k =
        record {
          size = ap length k ∙ length_run ws p (d.actions + 1) ∙ size;
          within = r;
          points = λ _ j w m l was. rw k (below-marked w m b l says was size (rw i at e));
        }

-- ---- The whole

-- The set has the walked points of the first b blocks of every job of the record with these marks.
pub record Pointed (s : List ℕ) (t : Offsets) (seen : List ℕ) (h : Head) (b : BlockIndex) (p : ℕ) (ws : List ℕ) : Type 0 where
  pub turns : b ≤ h.blocks
  pub size : length ws ≡ 32
  pub within : p ≤ 1024
  pub points : (j : Job) → Given s t h j → MarksWalked seen j → WalkedBelow j b p ws

module _ (s : List ℕ) (t : Offsets) (seen : List ℕ) (h : Head) where
  pub pointed_none : (ws : List ℕ) {u : List ℕ} → length ws ≡ 32 → u ≡ cleared ws 0 32 → Pointed s t seen h 0 0 u
  pointed_none ws {u} z e =
      record {
        turns = omega arith;
        size = ap length e ∙ length-cleared ws 0 32 ∙ z;
        within = omega arith;
        points = λ j w m. record { point = sym (first_zero j.blocks); points = λ q k. rw e (empty q k ∙ rw (le-ltb q 0 (omega arith))) };
      }
    where
      empty : (q : ℕ) → q < 1024 → has (cleared ws 0 32) q ≡ false
      empty q k = let i : word_bits * 0 + q ≡ q = omega arith in rw i at (has-cleared ws 0 32 (omega arith) q (omega arith))

  pub pointed_more : {b : BlockIndex} {p next : ℕ} {ws u : List ℕ} → Pointed s t seen h b p ws → b < h.blocks → BlockPoints s t seen b p next ws u → Pointed s t seen h (b + 1) next u
  pointed_more r l w = record { turns = omega arith; size = w.size; within = w.within; points = λ j g m. w.points h j g m (omega (arith, g.layout.block_count)) (r.points j g m) }

  pointed_all : {b : BlockIndex} {p : ℕ} {ws : List ℕ} → Pointed s t seen h b p ws → h.blocks ≤ b → (j : Job) → Given s t h j → MarksWalked seen j → WalkedIn j ws
  pointed_all {b} {p} {ws} r l j g m q k =
      was.points q k
      ∙ same_bool (ltb q p && is_walked (graph_of j) q) (is_walked (graph_of j) q) (λ a. and_right (ltb q p) (is_walked (graph_of j) q) a)
      (λ a. and_intro (ltb q p) (is_walked (graph_of j) q) (lt→ltb q p (let x = walked-is-code j q a in omega (arith, code))) a)
    where
      was : WalkedBelow j b p ws
      was = r.points j g m

      last : b ≡ length j.blocks
      last = omega (arith, r.turns, g.layout.block_count)

      code : p ≡ (graph_of j).code
      code = let x = first_total j.blocks 0 in let y = code-count j in let z = was.point ∙ ap (first_point j.blocks 0) last in omega arith

  pub pointed_walked : {b : BlockIndex} {p start : ℕ} {ws : List ℕ} → Pointed s t seen h b p ws → h.blocks ≤ b → WalkedBlocks s t start seen
      → (j : Job) → Layout s t h j → T (successors_named j) → point_count j ≤ 1024 → j.start ≡ start → T (ltb j.start (length j.blocks))
      → WalkedIn j ws
  pointed_walked r l marks j w n p e i =
      let g : Given s t h j = record { layout = w; named = n; points = p } in
      pointed_all r l j g (marks.marks h j g e i)
