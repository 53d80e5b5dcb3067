-- Why rounds until nothing changes give the least sets. Assumes nothing.
use mathlib.Core.Path.{◌≡◌, refl, sym, ap, ◌∙◌, subst}
use mathlib.Core.Bool.{Bool, true, false}
use mathlib.Core.List.{List}
use Prim.Native.Nat.{ℕ, ◌+◌, ◌-◌, ◌*◌, ◌/◌, ◌%◌, ◌<◌}
use native.Mathlib.Omega.{arith}
use lib.ListN.{get_or}
use Rattle.nll_spec.specs.Syntax.{Point}
use Rattle.nll_spec.specs.Graph.{Graph}
use Rattle.nll_spec.specs.Output.{word_bits}
use Rattle.nll_spec.specs.Meaning.{Next}
use Rattle.bit_set.specs.Bits.{has}
use Rattle.bit_set.specs.Missing.{missing}
use Rattle.bit_set.proofs.MissingLaws.{missing_lt}
use Rattle.graph.specs.Tables.{Edges}
use Rattle.graph.proofs.EntryLaws.{edge_next, next_edge}
use Rattle.flow.specs.declared.Direction.{Direction}
use Rattle.flow.specs.declared.Direction.TheVariants.{Forward, Backward}
use Rattle.flow.specs.Flows.{bit_at, Step, Flows, given, along, FlowSays}
use Rattle.flow.specs.Running.{Comes, here, over, Since, Ran, Lanes, source, target, Turned, Row, nth, Rows}
use Rattle.flow.proofs.RunningLaws.{since_none, since_then}

-- every point of the blocks has its turn in a round
turn_of : (d : Direction) (code p : ℕ) → p < code → (i : ℕ) × (i < code) × (nth d code i ≡ p)
turn_of Forward code p l = (p, l, refl)
turn_of Backward code p l = (code - 1 - p, omega arith, omega arith)

turn_below : (d : Direction) (code i : ℕ) → i < code → nth d code i < code
turn_below Forward code i l = l
turn_below Backward code i l = omega arith

-- ---- The edges of a round are the graph's

-- an edge between words is a step of the graph
pub record Stepped (d : Direction) (g : Graph) (v w : ℕ) : Type 0 where
  pub from : Point
  pub to : Point
  pub lane : ℕ
  pub few : lane < 4
  pub from_is : v ≡ 4 * from + lane
  pub to_is : w ≡ 4 * to + lane
  pub step : Step d g from to
  pub from_in : from < g.code
  pub to_in : to < g.code

module _ (d : Direction) (g : Graph) (first succ : List ℕ) (t : Edges g first succ) where
  rows_step : (v w : ℕ) → Rows d g.code first succ g.code v w → Stepped d g v w
  rows_step v w e =
      let p = nth d g.code e.0 in
      let x = e.2 in
      let q = get_or succ x.0 0 in
      let l : p < g.code = turn_below d g.code e.0 e.1 in
      let n : Next g p q = edge_next g first succ t p q l (x.0, x.1, x.2, refl) in
      go d p q l x.3.0 n x.3.1
    where
      go : (d : Direction) (p q : Point) → p < g.code → q < g.code → Next g p q → Lanes 4 (source d p q) (target d p q) v w → Stepped d g v w
      go Forward p q l m n k = record { from = p; to = q; lane = k.0; few = k.1; from_is = k.2; to_is = k.3; step = n; from_in = l; to_in = m }
      go Backward p q l m n k = record { from = q; to = p; lane = k.0; few = k.1; from_is = k.2; to_is = k.3; step = n; from_in = m; to_in = l }

  next-rows : (p q k : ℕ) → p < g.code → Next g p q → k < 4 → Rows d g.code first succ g.code (4 * source d p q + k) (4 * target d p q + k)
  next-rows p q k l n h =
      let i = turn_of d g.code p l in
      let e = next_edge g first succ t p q l n in (
        i.0,
        i.1,
        subst (λ (x : ℕ). Row d g.code first succ x (4 * source d p q + k) (4 * target d p q + k)) (sym i.2)
            (e.0, e.1, e.2, subst (λ (x : ℕ). Turned d g.code p x (4 * source d p q + k) (4 * target d p q + k)) (sym e.3) (t.inside p q l n, (k, h, refl, refl))),
      )

step-rows : (d : Direction) (g : Graph) (first succ : List ℕ) → Edges g first succ → (p q k : ℕ) → p < g.code → q < g.code → Step d g p q → k < 4 → Rows d g.code first succ g.code (4 * p + k) (4 * q + k)
step-rows Forward g first succ t p q k l m n h = next-rows Forward g first succ t p q k l n h
step-rows Backward g first succ t p q k l m n h = next-rows Backward g first succ t q p k m n h

-- ---- Both ways

module _ (g : Graph) (first succ pass ws : List ℕ) where
  comes_flows : (d : Direction) → Edges g first succ → (b w : ℕ) → Comes (Rows d g.code first succ g.code) pass ws b w → (p k : ℕ) → k < 4 → p < g.code → w ≡ 4 * p + k → Flows g d pass ws (word_bits * k + b) p
  comes_flows d t b w (here h) p k l m e =
      let z : word_bits * w + b ≡ bit_at p (word_bits * k + b) = omega arith in
      given m (ap (has ws) (sym z) ∙ h)
  comes_flows d t b w (over {v = v} c e h) p k l m q =
      let s = rows_step d g first succ t v w e in
      let same : s.to ≡ p = omega (arith, s.few, s.to_is) in
      let lane : s.lane ≡ k = omega (arith, s.few, s.to_is) in
      let z : word_bits * w + b ≡ bit_at p (word_bits * k + b) = omega arith in
      along (comes_flows d t b v c s.from k l s.from_in (s.from_is ∙ ap (λ (x : ℕ). 4 * s.from + x) lane))
      (subst (λ (x : ℕ). Step d g s.from x) same s.step) (ap (has pass) (sym z) ∙ h)

  -- a number that goes forward is at a point of a block
  flows_below : Edges g first succ → {b p : ℕ} → Flows g Forward pass ws b p → p < g.code
  flows_below t (given l h) = l
  flows_below t (along {p = p} {q = q} f s h) = t.inside p q (flows_below t f) s

  before-below : (d : Direction) → Edges g first succ → {b : ℕ} (p q : ℕ) → Flows g d pass ws b p → Step d g p q → q < g.code → p < g.code
  before-below Forward t p q f s l = flows_below t f
  before-below Backward t p q f s l = t.inside q p l s

  module _ (d : Direction) (t : Edges g first succ) (u : List ℕ) (kept : (j : ℕ) → has ws j ≡ true → has u j ≡ true)
      (closed : (v w b : ℕ) → Rows d g.code first succ g.code v w → b < word_bits → has u (word_bits * v + b) ≡ true → has pass (word_bits * w + b) ≡ true → has u (word_bits * w + b) ≡ true) where
    flows_in : (b p : ℕ) → b < 128 → p < g.code → Flows g d pass ws b p → has u (bit_at p b) ≡ true
    flows_in b p l m (given n h) = kept (bit_at p b) h
    flows_in b q l m (along {p = p} f s h) =
        let n : p < g.code = before-below d t p q f s m in
        let was : has u (bit_at p b) ≡ true = flows_in b p l n f in
        let k : b / word_bits < 4 = omega arith in
        let zp : word_bits * (4 * p + b / word_bits) + b % word_bits ≡ bit_at p b = omega arith in
        let zq : word_bits * (4 * q + b / word_bits) + b % word_bits ≡ bit_at q b = omega arith in
        sym (ap (has u) zq)
        ∙ closed (4 * p + b / word_bits) (4 * q + b / word_bits) (b % word_bits) (step-rows d g first succ t p q (b / word_bits) n m s k) (omega arith) (ap (has u) zp ∙ was) (ap (has pass) zq ∙ h)

-- ---- Rounds

module _ (d : Direction) (code : ℕ) (first succ pass ws : List ℕ) where
  pub rounds_none : Since (Rows d code first succ code) pass ws ws
  rounds_none = since_none pass ws

  module _ {u x : List ℕ} {r : Bool} (s : Since (Rows d code first succ code) pass ws u) (a : Ran (Rows d code first succ code) pass u x r) where
    pub rounds_more : Since (Rows d code first succ code) pass ws x
    rounds_more = since_then s a.since (λ v w e. e) (λ v w e. e)

    pub rounds_less : r ≡ true → missing x < missing u
    rounds_less e = let n = a.grew e in missing_lt u x a.since.as_long a.since.kept n.0 n.1 n.2

    pub rounds_all : r ≡ false → (g : Graph) → Edges g first succ → code ≡ g.code → FlowSays g d pass ws x
    rounds_all e g t k =
        record {
          sets = λ p b m n. (
            λ h.
                let z : word_bits * (4 * p + b / word_bits) + b % word_bits ≡ bit_at p b = omega arith in
                let y : word_bits * (b / word_bits) + b % word_bits ≡ b = omega arith in
                subst (λ (i : ℕ). Flows g d pass ws i p) y
                (comes_flows g first succ pass ws d t (b % word_bits) (4 * p + b / word_bits) (v.sound (4 * p + b / word_bits) (b % word_bits) (omega arith) (ap (has x) z ∙ h)) p (b / word_bits) (omega arith) m refl),
            λ f. flows_in g first succ pass ws d t x v.kept closed b p n m f,
          );
        }
      where
        v : Since (Rows d g.code first succ g.code) pass ws x
        v = subst (λ (n : ℕ). Since (Rows d n first succ n) pass ws x) k rounds_more

        b : Ran (Rows d g.code first succ g.code) pass u x r
        b = subst (λ (n : ℕ). Ran (Rows d n first succ n) pass u x r) k a

        closed : (v w i : ℕ) → Rows d g.code first succ g.code v w → i < word_bits → has x (word_bits * v + i) ≡ true → has pass (word_bits * w + i) ≡ true → has x (word_bits * w + i) ≡ true
        closed v w i y n h p =
            ap (λ (l : List ℕ). has l (word_bits * w + i)) (a.same e) ∙ b.closed e v w i y n (sym (ap (λ (l : List ℕ). has l (word_bits * v + i)) (a.same e)) ∙ h) p
