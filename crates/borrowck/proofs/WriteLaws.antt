-- The bytes of the verdicts, point by point. Assumes nothing.
use mathlib.Core.Path.{◌≡◌, refl, sym, ap, subst, ◌∙◌}
use mathlib.Core.List.{List, [], ◌∷◌, ◌++◌, map, map-append, append_assoc}
use Prim.Native.Nat.{ℕ, zero, suc, ◌+◌, ◌*◌, ◌≤◌, ◌<◌}
use native.Mathlib.Omega.{arith}
use lib.ListN.{length, get_or, set, drop, length-append, length-set, get_or-eq_default}
use lib.Seq.{drop-cons, set_at}
use Rattle.nll_spec.specs.Lists.{gather, below, count_from}
use Rattle.nll_spec.specs.Fixpoint.{Table, holds}
use Rattle.nll_spec.specs.Syntax.{Point, Action, Noop, Job}
use Rattle.nll_spec.specs.Decode.{code_count, point_count}
use Rattle.nll_spec.specs.Graph.{Statement, graph_of, statements_of, action_at}
use Rattle.nll_spec.specs.Loans.{loans_of}
use Rattle.nll_spec.specs.Access.{Verdict, no_fault, accesses, first_fault, in_scope_at, verdict_at}
use Rattle.nll_spec.specs.Output.{overwrite}
use Rattle.nll_spec.proofs.GraphLaws.{code-count}
use Rattle.record.specs.Layout.{Holds}
use Rattle.record.specs.declared.Record.{Record}
use Rattle.bit_set.specs.Bits.{has}
use Rattle.loans.specs.Loans.{LoansAt}
use Rattle.loans.specs.declared.LoanTable.{LoanTable}
use Rattle.std.specs.Prelude.{Option, None}
use Rattle.loans.proofs.ListLaws.{count-split, gather_append}
use Rattle.borrowck.specs.Faults.{verdict_of, Judged, bytes_to}
use Rattle.borrowck.specs.declared.Fault.{Fault}

-- ---- A point that does nothing

no_action : (j : Job) (p : Point) → code_count j.blocks ≤ p → action_at (graph_of j) p ≡ Noop
unfolding graph_of
no_action j p h = ap (λ (n : Statement). n.action) (get_or-eq_default (statements_of j) (record { block = 0; action = Noop; next = [] }) (let c = code-count j in let k : length (statements_of j) ≤ p = omega arith in k))

idle : (j : Job) (t : Table) (p : Point) → code_count j.blocks ≤ p → verdict_at j (graph_of j) t (loans_of (graph_of j)) p ≡ no_fault
unfolding verdict_at first_fault accesses
idle j t p h = ap (λ (a : Action). first_fault j (in_scope_at t (loans_of (graph_of j)) p) 0 (accesses a)) (no_action j p h)

module _ {input : Record} {lent : LoanTable} {scope : List ℕ} {p : Point} where
  pub judged_idle : input.head.code ≤ p → Judged input lent scope p None
  judged_idle l = record { says = λ j t z b. sym (idle j t p (omega (arith, z.code))) }

-- ---- Two bytes more

bytes-more : (v : Point → Verdict) (n : ℕ) → bytes_to v (n + 1) ≡ bytes_to v n ++ ((v n).kind ∷ (v n).operand ∷ [])
bytes-more v n =
    let e : 0 + n ≡ n = omega arith in
    rw (count-split 0 n 1, e, map-append v (below n) (n ∷ []))
    (gather_append (λ (x : Verdict). x.kind ∷ x.operand ∷ []) (map v (below n)) (v n ∷ []))

bytes-length : (v : Point → Verdict) (i n : ℕ) → length (gather (λ (x : Verdict). x.kind ∷ x.operand ∷ []) (map v (count_from i n))) ≡ 2 * n
bytes-length v i zero = refl
bytes-length v i (suc n) = let e = bytes-length v (suc i) n in omega arith

-- two bytes after those that are overwritten
overwrite-two : (xs old : List ℕ) (n a b : ℕ) → length xs ≡ n → n + 2 ≤ length old → set (set (overwrite xs old) n a) (n + 1) b ≡ overwrite (xs ++ (a ∷ b ∷ [])) old
overwrite-two xs old n a b e h =
    let x : drop (length xs) old ≡ get_or old n 0 ∷ get_or old (suc n) 0 ∷ drop (suc (suc n)) old = rw (e, drop-cons old n 0 (omega arith), drop-cons old (suc n) 0 (omega arith)) in
    let l : length (xs ++ (a ∷ [])) ≡ n + 1 = length-append xs (a ∷ []) ∙ omega arith in
    let k : length (xs ++ (a ∷ b ∷ [])) ≡ suc (suc n) = length-append xs (a ∷ b ∷ []) ∙ omega arith in
    ap (λ (y : List ℕ). set (set (xs ++ y) n a) (n + 1) b) x
    ∙ ap (λ (y : List ℕ). set y (n + 1) b) (set_at xs (get_or old n 0) (get_or old (suc n) 0 ∷ drop (suc (suc n)) old) a n e ∙ sym (append_assoc xs (a ∷ []) (get_or old (suc n) 0 ∷ drop (suc (suc n)) old)))
    ∙ set_at (xs ++ (a ∷ [])) (get_or old (suc n) 0) (drop (suc (suc n)) old) b (n + 1) l
    ∙ append_assoc xs (a ∷ []) (b ∷ drop (suc (suc n)) old)
    ∙ sym (append_assoc xs (a ∷ b ∷ []) (drop (suc (suc n)) old))
    ∙ ap (λ (m : ℕ). (xs ++ (a ∷ b ∷ [])) ++ drop m old) (sym k)

-- ---- What the loop keeps

pub record Writing (input : Record) (lent : LoanTable) (scope old : List ℕ) (p : Point) (new : List ℕ) : Type 0 where
  pub size : length new ≡ length old
  pub is : (j : Job) (t : Table) → Holds input j → LoansAt input.bytes.now j lent.loans lent.count → ((q : Point) → q < code_count j.blocks → (i : Point) → i < lent.count → has scope (128 * q + i) ≡ holds t i q) → new ≡ overwrite (bytes_to (verdict_at j (graph_of j) t (loans_of (graph_of j))) p) old

module _ {input : Record} {lent : LoanTable} {scope old : List ℕ} where
  pub writing_more : {p : Point} {new : List ℕ} {r : Option Fault} {a b : ℕ} → Writing input lent scope old p new → Judged input lent scope p r → (a ≡ (verdict_of r).kind) × (b ≡ (verdict_of r).operand) → 2 * p + 2 ≤ length old
      → Writing input lent scope old (p + 1) (set (set new (2 * p) a) (2 * p + 1) b)
  writing_more {p} {new} {r} {a} {b} g v m room = record {
    size = length-set (set new (2 * p) a) (2 * p + 1) b ∙ length-set new (2 * p) a ∙ g.size;
    is = λ j t w l h.
        let verdicts = verdict_at j (graph_of j) t (loans_of (graph_of j)) in
        let e : verdict_of r ≡ verdicts p = v.says j t w (λ i. record { loans = l; bits = h p i }) in
        ap (λ (x : List ℕ). set (set x (2 * p) a) (2 * p + 1) b) (g.is j t w l h)
        ∙ overwrite-two (bytes_to verdicts p) old (2 * p) a b (bytes-length verdicts 0 p) room
        ∙ rw (m.0, m.1) (ap (λ (x : Verdict). overwrite (bytes_to verdicts p ++ (x.kind ∷ x.operand ∷ [])) old) e)
        ∙ ap (λ (x : List ℕ). overwrite x old) (sym (bytes-more verdicts p));
  }

module _ (input : Record) where
  count-is : (j : Job) → Holds input j → point_count j ≡ input.head.code + input.head.declared
  unfolding point_count
  count-is j w = omega (arith, w.code, w.declared_count)

  module _ (lent : LoanTable) (scope old : List ℕ) where
    -- there is no room
    pub written_nothing : {new : List ℕ} → length old < 2 * (input.head.code + input.head.declared) → (j : Job) (t : Table) → Holds input j → LoansAt input.bytes.now j lent.loans lent.count → ((q : Point) → q < code_count j.blocks → (i : Point) → i < lent.count → has scope (128 * q + i) ≡ holds t i q) → 2 * point_count j ≤ length old → new ≡ overwrite (bytes_to (verdict_at j (graph_of j) t (loans_of (graph_of j))) (point_count j)) old
    written_nothing l j t w z k m = absurd (omega (arith, count-is j w))

    pub written_all : {p : Point} {new : List ℕ} → Writing input lent scope old p new → p ≡ input.head.code + input.head.declared → (j : Job) (t : Table) → Holds input j → LoansAt input.bytes.now j lent.loans lent.count → ((q : Point) → q < code_count j.blocks → (i : Point) → i < lent.count → has scope (128 * q + i) ≡ holds t i q) → 2 * point_count j ≤ length old → new ≡ overwrite (bytes_to (verdict_at j (graph_of j) t (loans_of (graph_of j))) (point_count j)) old
    written_all {p} {new} g x j t w z k m = let e : p ≡ point_count j = x ∙ sym (count-is j w) in subst (λ (n : ℕ). new ≡ overwrite (bytes_to (verdict_at j (graph_of j) t (loans_of (graph_of j))) n) old) e (g.is j t w z k)
