-- The numbers that come to a point are the variables that are live there. Assumes nothing.
use mathlib.Core.Path.{◌≡◌, sym, ap, ap₂, subst, ◌∙◌}
use mathlib.Core.Bool.{Bool, true, not, ◌&&◌}
use mathlib.Core.List.{List}
use Prim.Native.Nat.{ℕ, ◌+◌, ◌≤◌, ◌<◌}
use native.Mathlib.Omega.{arith}
use lib.ListN.{length}
use lib.Dec.{T, ltb}
use borrow.Author.Tests.{lt-ltb}
use Rattle.nll_spec.specs.Lists.{contains}
use Rattle.nll_spec.specs.Syntax.{Action, Job, Point, Variable}
use Rattle.nll_spec.specs.Decode.{code_count}
use Rattle.nll_spec.specs.Fixpoint.{holds}
use Rattle.nll_spec.specs.Graph.{graph_of, action_at, is_walked}
use Rattle.nll_spec.specs.Liveness.{defs, uses, drops, live_table}
use Rattle.nll_spec.specs.Meaning.{Live, now, later}
use Rattle.nll_spec.proofs.Tests.{is_true, and_intro, and_left, and_right}
use Rattle.nll_spec.proofs.Least.{same_bool}
use Rattle.nll_spec.proofs.GraphLaws.{code-count, next-is-code, walked-is-code}
use Rattle.nll_spec.proofs.SeedLaws.{live_table_lem, table_used, table_dropped}
use Rattle.record.specs.Layout.{Holds}
use Rattle.record.specs.declared.Record.{Record}
use Rattle.graph.specs.Tables.{Edges}
use Rattle.graph.specs.Search.{WalkedIn}
use Rattle.bit_set.specs.Bits.{has}
use Rattle.flow.specs.declared.Direction.TheVariants.{Backward}
use Rattle.flow.specs.Flows.{bit_at, Flows, given, along, FlowSays}
use Rattle.liveness.specs.Needs.{Filled, AllActed}
use Rattle.liveness.specs.Rows.{Columns, LiveRows}
use Rattle.liveness.proofs.HalfLaws.{first_half, second_half}

true_T : (b : Bool) → b ≡ true → T b
true_T b e = subst T (sym e) tt

-- number n of each point is in the one set where the action there needs variable v, and in the other where it does not define v
record Numbered (j : Job) (needs : Action → List Variable) (v n : ℕ) (sets pass : List ℕ) : Type 0 where
  below : n < 128
  starts : (p : Point) → p < (graph_of j).code → has sets (bit_at p n) ≡ contains (needs (action_at (graph_of j) p)) v
  passes : (p : Point) → p < (graph_of j).code → has pass (bit_at p n) ≡ not (contains (defs (action_at (graph_of j) p)) v)

module _ (j : Job) (first succ : List ℕ) (t : Edges (graph_of j) first succ) (needs : Action → List Variable) (v n : ℕ) {sets pass : List ℕ} (w : Numbered j needs v n sets pass) where
  flows_live : {p : Point} → Flows (graph_of j) Backward pass sets n p → Live (graph_of j) needs v p
  flows_live {p} (given l h) = now (true_T (contains (needs (action_at (graph_of j) p)) v) (sym (w.starts p l) ∙ h))
  flows_live (along {p = p} {q = q} f s h) = later (true_T (not (contains (defs (action_at (graph_of j) q)) v)) (sym (w.passes q (next-is-code j q p s)) ∙ h)) s (flows_live f)

  live_flows : {p : Point} → p < (graph_of j).code → Live (graph_of j) needs v p → Flows (graph_of j) Backward pass sets n p
  live_flows {p} l (now h) = given l (w.starts p l ∙ is_true (contains (needs (action_at (graph_of j) p)) v) h)
  live_flows {p} l (later {q = q} k s h) = along (live_flows (t.inside p q l s) h) s (w.passes p l ∙ is_true (not (contains (defs (action_at (graph_of j) p)) v)) k)

  -- the row of a variable
  module _ (after walked : List ℕ) (says : FlowSays (graph_of j) Backward pass sets after) (is : WalkedIn j walked)
      (table : (p : Point) → Live (graph_of j) needs v p → T (holds (live_table needs j (graph_of j)) v p)) where
    walked_live : (p : Point) → p < 1024 → (ltb p (graph_of j).code && (has walked p && has after (bit_at p n))) ≡ (is_walked (graph_of j) p && holds (live_table needs j (graph_of j)) v p)
    walked_live p k =
        same_bool (ltb p (graph_of j).code && (has walked p && has after (bit_at p n))) (is_walked (graph_of j) p && holds (live_table needs j (graph_of j)) v p)
        (λ h.
        let r : T (has walked p && has after (bit_at p n)) = and_right (ltb p (graph_of j).code) (has walked p && has after (bit_at p n)) h in
        let i : T (is_walked (graph_of j) p) = subst T (is p k) (and_left (has walked p) (has after (bit_at p n)) r) in
        let l : p < (graph_of j).code = walked-is-code j p i in
        and_intro (is_walked (graph_of j) p) (holds (live_table needs j (graph_of j)) v p) i
        (table p (flows_live ((says.sets p n l w.below).0 (is_true (has after (bit_at p n)) (and_right (has walked p) (has after (bit_at p n)) r))))))
        (λ h.
        let i : T (is_walked (graph_of j) p) = and_left (is_walked (graph_of j) p) (holds (live_table needs j (graph_of j)) v p) h in
        let l : p < (graph_of j).code = walked-is-code j p i in
        let m : has after (bit_at p n) ≡ true = (says.sets p n l w.below).1 (live_flows l (live_table_lem needs j v p (and_right (is_walked (graph_of j) p) (holds (live_table needs j (graph_of j)) v p) h))) in
        and_intro (ltb p (graph_of j).code) (has walked p && has after (bit_at p n)) (true_T (ltb p (graph_of j).code) (lt-ltb p (graph_of j).code l))
        (and_intro (has walked p) (has after (bit_at p n)) (subst T (sym (is p k)) i) (true_T (has after (bit_at p n)) m)))

-- ---- Both halves

module _ (j : Job) {code : ℕ} {sets pass : List ℕ} (f : Filled j code sets pass) (e : code ≡ (graph_of j).code) (is : code ≡ code_count j.blocks) (v : ℕ) (hv : v < 64) where
  inside : (p : Point) → p < (graph_of j).code → ltb p code ≡ true
  inside p l = lt-ltb p code (omega arith)

  used_numbered : Numbered j uses v (0 + v) sets pass
  used_numbered =
      record {
        below = omega arith;
        starts = λ p l. f.starts p (0 + v) (omega arith) (omega arith) ∙ ap₂ (λ (a b : Bool). a && b) (inside p l) (first_half (uses (action_at (graph_of j) p)) (drops (action_at (graph_of j) p)) v hv);
        passes = λ p l. f.passes p (0 + v) (omega arith) (omega arith) ∙ ap₂ (λ (a b : Bool). not (a && b)) (inside p l) (first_half (defs (action_at (graph_of j) p)) (defs (action_at (graph_of j) p)) v hv);
      }

  dropped_numbered : Numbered j drops v (64 + v) sets pass
  dropped_numbered =
      record {
        below = omega arith;
        starts = λ p l. f.starts p (64 + v) (omega arith) (omega arith) ∙ ap₂ (λ (a b : Bool). a && b) (inside p l) (second_half (uses (action_at (graph_of j) p)) (drops (action_at (graph_of j) p)) v hv);
        passes = λ p l. f.passes p (64 + v) (omega arith) (omega arith) ∙ ap₂ (λ (a b : Bool). not (a && b)) (inside p l) (second_half (defs (action_at (graph_of j) p)) (defs (action_at (graph_of j) p)) v hv);
      }

pub live_rows : (r : Record) (first succ walked : List ℕ) {w : ℕ} {sets pass after us ds : List ℕ} → w ≤ 32 → AllActed r sets pass
    → ((j : Job) → Edges (graph_of j) first succ → r.head.code ≡ (graph_of j).code → FlowSays (graph_of j) Backward pass sets after)
    → Columns w r.head.variables r.head.code 0 walked after us → Columns w r.head.variables r.head.code 64 walked after ds
    → (j : Job) → Holds r j → Edges (graph_of j) first succ → WalkedIn j walked → LiveRows j w us ds
live_rows r first succ walked {sets = sets} {pass} {after} n acted flowed used dropped j w edges is =
    record {
      used = λ v p hv hp.
          used.bits v p (among v hv) hp ∙ ap (λ (c : ℕ). ltb p c && (has walked p && has after (bit_at p (0 + v)))) k
          ∙ walked_live j first succ edges uses v (0 + v) (used_numbered j filled k w.code v (small v hv)) after walked says is (λ q. table_used j v q hv) p (omega arith);
      dropped = λ v p hv hp.
          dropped.bits v p (among v hv) hp ∙ ap (λ (c : ℕ). ltb p c && (has walked p && has after (bit_at p (64 + v)))) k
          ∙ walked_live j first succ edges drops v (64 + v) (dropped_numbered j filled k w.code v (small v hv)) after walked says is (λ q. table_dropped j v q hv) p (omega arith);
    }
  where
    k : r.head.code ≡ (graph_of j).code
    k = w.code ∙ sym (code-count j)

    among : (v : ℕ) → v < length j.variables → v < r.head.variables
    among v l = omega (arith, w.variable_count)

    small : (v : ℕ) → v < length j.variables → v < 64
    small v l = omega (arith, w.variable_count, w.variable_limit)

    filled : Filled j r.head.code sets pass
    filled = acted.filled j w

    says : FlowSays (graph_of j) Backward pass sets after
    says = flowed j edges k
