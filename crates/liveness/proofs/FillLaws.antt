-- The points' sets, filled one by one. Assumes nothing.
use mathlib.Core.Path.{◌≡◌, refl, sym, ap, ap₂, ◌∙◌}
use mathlib.Core.Bool.{Bool, true, false, not, ◌&&◌, ◌||◌, or-false}
use mathlib.Core.List.{List}
use Prim.Native.Nat.{ℕ, ◌+◌, ◌*◌, ◌/◌, ◌%◌, ◌^◌, ◌≤◌, ◌<◌}
use native.Mathlib.Omega.{arith}
use native.Mathlib.Nat.{zero-div}
use native.Mathlib.Decide.{ℕ_discrete, dec_lt}
use lib.ListN.{replicate, get_or-replicate}
use lib.Dec.{eqb, ltb}
use borrow.Author.Tests.{eq-eqb, ne_eqb, lt-ltb, le-ltb}
use Rattle.nll_spec.specs.Lists.{below}
use Rattle.nll_spec.specs.Syntax.{Job}
use Rattle.nll_spec.specs.Decode.{read, code_count}
use Rattle.nll_spec.specs.Graph.{graph_of, action_at}
use Rattle.nll_spec.specs.Liveness.{defs}
use Rattle.nll_spec.specs.Output.{word_bits}
use Rattle.nll_spec.proofs.Tests.{is_true, contains-below}
use Rattle.nll_spec.proofs.Lookup.{every-contains}
use Rattle.repr.specs.Parts.{action_says, action_read}
use Rattle.repr.specs.declared.Cursor.{Cursor}
use Rattle.repr.specs.declared.Action as declared
use Rattle.repr.specs.declared.refusal.Refusal.{Refusal}
use Rattle.std.specs.Prelude.{Result, Ok, Err}
use Rattle.record.specs.Layout.{Holds}
use Rattle.record.specs.Access.{Acts}
use Rattle.record.specs.declared.Record.{Record}
use Rattle.repr.proofs.SpellLaws.{clash}
use Rattle.bit_set.proofs.BitLaws.{digit}
use Rattle.flow.specs.Flows.{bit_at}
use Rattle.liveness.specs.Needs.{in_either, needed_by, Added, Removed, Needed, Defined, Filled, Blank, Acted, AllActed}

-- ---- One more

-- what f holds below x, and at x, it holds below x + 1
pub one_more : (f : ℕ → Bool) (p x : ℕ) → ((ltb p x && f p) || (eqb p x && f x)) ≡ (ltb p (x + 1) && f p)
one_more f p x = go (ℕ_discrete p x) (dec_lt p x)
  where
    go : Dec (p ≡ x) → Dec (p < x) → ((ltb p x && f p) || (eqb p x && f x)) ≡ (ltb p (x + 1) && f p)
    go (yes e) d = ap₂ (λ (a b : Bool). (a && f p) || (b && f x)) (le-ltb p x (omega arith)) (eq-eqb p x e) ∙ ap f (sym e) ∙ sym (ap (λ (a : Bool). a && f p) (lt-ltb p (x + 1) (omega arith)))
    go (no n) (yes l) = ap₂ (λ (a b : Bool). (a && f p) || (b && f x)) (lt-ltb p x l) (ne_eqb p x n) ∙ or-false (f p) ∙ sym (ap (λ (a : Bool). a && f p) (lt-ltb p (x + 1) (omega arith)))
    go (no n) (no l) = ap₂ (λ (a b : Bool). (a && f p) || (b && f x)) (le-ltb p x (omega (arith, l))) (ne_eqb p x n) ∙ sym (ap (λ (a : Bool). a && f p) (le-ltb p (x + 1) (omega (arith, l, n))))

not_or : (a b : Bool) → (not a && not b) ≡ not (a || b)
not_or true b = refl
not_or false b = refl

filled_more : (j : Job) (x : ℕ) {sets pass u w : List ℕ} → Filled j x sets pass → Added x (needed_by (action_at (graph_of j) x)) sets u → Removed x (in_either (defs (action_at (graph_of j) x))) pass w → Filled j (x + 1) u w
filled_more j x v a r =
    record {
      starts = λ p b l m.
          a.bits p b m ∙ ap (λ (c : Bool). c || (eqb p x && needed_by (action_at (graph_of j) x) b)) (v.starts p b l m) ∙ one_more (λ q. needed_by (action_at (graph_of j) q) b) p x;
      passes = λ p b l m.
          r.bits p b m ∙ ap (λ (c : Bool). c && not (eqb p x && in_either (defs (action_at (graph_of j) x)) b)) (v.passes p b l m)
          ∙ not_or (ltb p x && in_either (defs (action_at (graph_of j) p)) b) (eqb p x && in_either (defs (action_at (graph_of j) x)) b)
          ∙ ap not (one_more (λ q. in_either (defs (action_at (graph_of j) q)) b) p x);
    }

-- ---- One point

module _ {r : Record} {x : ℕ} {y : Result (declared.Action × Cursor) Refusal} (is : (j : Job) → Holds r j → x < code_count j.blocks → Acts r.bytes.now (action_at (graph_of j) x) y) where
  pub acted_refused : {k : Refusal} {sets pass : List ℕ} → y ≡ Err k → Acted r x sets pass sets pass
  acted_refused i = record { filled = λ j w l v. absurd (let a = is j w l in clash (sym (ap (action_says r.bytes.now) i) ∙ a.reads)) }

  pub acted_action : {a : declared.Action} {next : Cursor} {sets pass u w : List ℕ} → y ≡ Ok (a, next) → Needed r.bytes.now a next x sets u → Defined r.bytes.now a next x pass w → Acted r x sets pass u w
  acted_action {a} {next} i n d =
      record {
        filled = λ j v l f.
            let z = is j v l in
            let e : action_read r.bytes.now a next ≡ read (action_at (graph_of j) x) z.over = sym (ap (action_says r.bytes.now) i) ∙ z.reads in
            filled_more j x f (n.added (action_at (graph_of j) x) z.over e) (d.removed (action_at (graph_of j) x) z.over e);
      }

-- ---- All points

-- Those of the first n points are done.
pub record Acting (r : Record) (n : ℕ) (sets pass : List ℕ) : Type 0 where
  pub filled : (j : Job) → Holds r j → Filled j n sets pass

module _ (r : Record) where
  pub acting_none : {sets pass : List ℕ} → Blank r.head.code sets pass → Acting r 0 sets pass
  acting_none b = record {
    filled = λ j w. record {
      starts = λ p i m n. b.starts p i (omega (arith, m, w.code)) n ∙ sym (ap (λ (c : Bool). c && needed_by (action_at (graph_of j) p) i) (le-ltb p 0 (omega arith)));
      passes = λ p i m n. b.passes p i (omega (arith, m, w.code)) n ∙ sym (ap (λ (c : Bool). not (c && in_either (defs (action_at (graph_of j) p)) i)) (le-ltb p 0 (omega arith)));
    };
  }

  pub acting_more : {n : ℕ} {sets pass u w : List ℕ} → n < r.head.code → Acting r n sets pass → Acted r n sets pass u w → Acting r (n + 1) u w
  acting_more m v a = record { filled = λ j w. a.filled j w (omega (arith, m, w.code)) (v.filled j w) }

  pub acting_all : {n : ℕ} {sets pass : List ℕ} → Acting r n sets pass → n ≡ r.head.code → AllActed r sets pass
  acting_all v e = record { filled = λ j w. rw (← e) (v.filled j w) }

-- ---- The sets at the start

ones : (i : ℕ) → i < word_bits → eqb (digit 4294967295 i) 1 ≡ true
ones i l = is_true _ (every-contains (λ (k : ℕ). eqb (digit 4294967295 k) 1) (below word_bits) i tt (contains-below word_bits i l))

-- n words that have room for the points
pub start_blank : (n code : ℕ) → 4 * code ≤ n → Blank code (replicate n 0) (replicate n 4294967295)
start_blank n code z =
    record {
      starts = λ p b l m.
          ap (λ (w : ℕ). eqb (digit w (bit_at p b % word_bits)) 1) (get_or-replicate n (bit_at p b / word_bits) 0 0 (omega arith)) ∙ ap (λ (k : ℕ). eqb (k % 2) 1) (zero-div (2 ^ (bit_at p b % word_bits)));
      passes = λ p b l m.
          ap (λ (w : ℕ). eqb (digit w (bit_at p b % word_bits)) 1) (get_or-replicate n (bit_at p b / word_bits) 4294967295 0 (omega arith)) ∙ ones (bit_at p b % word_bits) (omega arith);
    }
