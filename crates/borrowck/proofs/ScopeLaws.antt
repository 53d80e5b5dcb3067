-- The loans in scope, gathered in parts. Assumes nothing.
use mathlib.Core.Path.{◌≡◌, refl, sym, ap, subst, ◌∙◌}
use mathlib.Core.Bool.{Bool, true, false, cond}
use mathlib.Core.List.{List, [], ◌∷◌, ◌++◌, map, map-append, map-map, append-nil}
use Prim.Native.Nat.{ℕ, zero, suc, ◌+◌, ◌-◌, ◌*◌, ◌≤◌, ◌<◌}
use native.Mathlib.Omega.{arith}
use lib.ListN.{length, get_or, set, take, length-set}
use Rattle.std.proofs.lemmas.List.{take_more_set}
use Rattle.nll_spec.specs.Lists.{select, count_from}
use Rattle.nll_spec.specs.Fixpoint.{Table, holds}
use Rattle.nll_spec.specs.Syntax.{Point, Job}
use Rattle.nll_spec.specs.Graph.{graph_of}
use Rattle.nll_spec.specs.Loans as spec
use Rattle.nll_spec.specs.Loans.{loans_of, loan_number}
use Rattle.nll_spec.specs.Access.{in_scope_at}
use Rattle.nll_spec.specs.Output.{word_bits}
use Rattle.bit_set.specs.Bits.{has}
use Rattle.env.specs.Prefixes.{ShortestOf}
use Rattle.loans.specs.Loans.{nth_loan, loan_of}
use Rattle.loans.specs.declared.Loan.{Loan}
use Rattle.loans.specs.declared.LoanTable.{LoanTable}
use Rattle.loans.proofs.ListLaws.{count-split, select-append}
use Rattle.borrowck.specs.Scope.{is_in, held_loans, SomeIn}
use Rattle.borrowck.specs.Faults.{Scoped, Known}

-- ---- Selected numbers

module _ {A : Type 0} where
  -- selected by tests that agree, and mapped to the same
  select-same : (f g : ℕ → Bool) (h k : ℕ → A) (a n : ℕ) → ((i : ℕ) → i < a + n → f i ≡ g i) → ((i : ℕ) → i < a + n → h i ≡ k i) → map h (select f (count_from a n)) ≡ map k (select g (count_from a n))
  select-same f g h k a zero e o = refl
  select-same f g h k a (suc n) e o = rw (e a (omega arith)) (go (g a) (select f (count_from (suc a) n)) (select g (count_from (suc a) n)) (select-same f g h k (suc a) n (λ i l. e i (omega arith)) (λ i l. o i (omega arith))))
    where
      go : (b : Bool) (xs ys : List ℕ) → map h xs ≡ map k ys → map h (cond b (a ∷ xs) xs) ≡ map k (cond b (a ∷ ys) ys)
      go true xs ys w = rw (o a (omega arith), w)
      go false xs ys w = w

  -- what holds of each number holds of those selected
  pub select-holds : (P : A → Type 0) (d : A) (f : ℕ → Bool) (h : ℕ → A) (a n : ℕ) → ((i : ℕ) → i < a + n → P (h i)) → (i : ℕ) → i < length (map h (select f (count_from a n))) → P (get_or (map h (select f (count_from a n))) i d)
  select-holds P d f h a zero o = λ i l. absurd (omega arith)
  select-holds P d f h a (suc n) o = go (f a) (select f (count_from (suc a) n)) (select-holds P d f h (suc a) n (λ i l. o i (omega arith)))
    where
      go : (b : Bool) (xs : List ℕ) → ((i : ℕ) → i < length (map h xs) → P (get_or (map h xs) i d)) → (i : ℕ) → i < length (map h (cond b (a ∷ xs) xs)) → P (get_or (map h (cond b (a ∷ xs) xs)) i d)
      go true xs w zero l = o a (omega arith)
      go true xs w (suc i) l = w i (omega arith)
      go false xs w i l = w i l

  select-split : (f : ℕ → Bool) (h : ℕ → A) (a m n : ℕ) → map h (select f (count_from a (m + n))) ≡ map h (select f (count_from a m)) ++ map h (select f (count_from (a + m) n))
  select-split f h a m n = rw (count-split a m n, select-append f (count_from a m) (count_from (a + m) n)) (map-append h (select f (count_from a m)) (select f (count_from (a + m) n)))

module _ (table : List Loan) (scope : List ℕ) (p : Point) where
  -- the loans below `to` are those below `from` and those from there on
  pub scope_split : (from to : ℕ) → from ≤ to → held_loans table scope p 0 to ≡ held_loans table scope p 0 from ++ held_loans table scope p from to
  scope_split from to l =
      let e : to - 0 ≡ (from - 0) + (to - from) = omega arith in
      let o : 0 + (from - 0) ≡ from = omega arith in
      ap (λ (n : ℕ). map (nth_loan table) (select (is_in scope p) (count_from 0 n))) e
      ∙ select-split (is_in scope p) (nth_loan table) 0 (from - 0) (to - from)
      ∙ ap (λ (a : ℕ). held_loans table scope p 0 from ++ map (nth_loan table) (select (is_in scope p) (count_from a (to - from)))) o

  -- one number more
  scope_more : (from i : ℕ) → from ≤ i → held_loans table scope p from (i + 1) ≡ held_loans table scope p from i ++ map (nth_loan table) (cond (is_in scope p i) (i ∷ []) [])
  scope_more from i l =
      let e : i + 1 - from ≡ (i - from) + 1 = omega arith in
      let o : from + (i - from) ≡ i = omega arith in
      ap (λ (n : ℕ). map (nth_loan table) (select (is_in scope p) (count_from from n))) e
      ∙ select-split (is_in scope p) (nth_loan table) from (i - from) 1
      ∙ ap (λ (a : ℕ). held_loans table scope p from i ++ map (nth_loan table) (select (is_in scope p) (count_from a 1))) o

-- ---- A part

-- The first n loans are those from number `from` on and below i that are in scope.
pub record Gathering (table : List Loan) (many : ℕ) (scope : List ℕ) (p : Point) (from i n : ℕ) (loans : List Loan) : Type 0 where
  pub size : length loans ≡ 16
  pub low : from ≤ i
  pub high : i - from ≤ many - from
  pub most : n ≤ i - from
  pub few : n ≤ 16
  pub are : take n loans ≡ held_loans table scope p from i

-- the bit of loan i at p, as it is tested
at-bit : (scope : List ℕ) (p i : ℕ) {b : Bool} → b ≡ has scope (word_bits * (4 * p) + i) → b ≡ is_in scope p i
at-bit scope p i e = let k : word_bits * (4 * p) + i ≡ 128 * p + i = omega arith in e ∙ ap (has scope) k

module _ {table : List Loan} {many : ℕ} {scope : List ℕ} {p : Point} {from : ℕ} where
  module _ {i n : ℕ} {loans : List Loan} (g : Gathering table many scope p from i n loans) where
    module _ {b : Bool} (l : i < many) (e : b ≡ has scope (word_bits * (4 * p) + i)) where
      is_in_lem : b ≡ is_in scope p i
      is_in_lem = at-bit scope p i e

      pub gathering_pass : b ≡ false → Gathering table many scope p from (i + 1) n loans
      gathering_pass h = record {
        size = g.size;
        low = omega (arith, g.low);
        high = omega (arith, g.low);
        most = omega (arith, g.most, g.low);
        few = g.few;
        are = rw (scope_more table scope p from i g.low, sym is_in_lem, h, append-nil (held_loans table scope p from i)) g.are;
      }

      pub gathering_more : {x : Loan} → b ≡ true → x ≡ nth_loan table i → (n ≡ 16 → ⊥) → Gathering table many scope p from (i + 1) (n + 1) (set loans n x)
      gathering_more {x} h o z = record {
        size = length-set loans n x ∙ g.size;
        low = omega (arith, g.low);
        high = omega (arith, g.low);
        most = omega (arith, g.most, g.low);
        few = omega (arith, g.few, z);
        are =
            take_more_set loans n x (omega (arith, g.size, g.few, z))
            ∙ rw (g.are, o) (sym (rw (scope_more table scope p from i g.low, sym is_in_lem, h)));
      }

-- ---- The loans in scope of a job

-- nothing is selected where nothing passes the test
select-none : (f : ℕ → Bool) (a n : ℕ) → ((i : ℕ) → i < a + n → f i ≡ false) → select f (count_from a n) ≡ []
select-none f a zero h = refl
select-none f a (suc n) h = rw (h a (omega arith)) (select-none f (suc a) n (λ i l. h i (omega arith)))

module _ {s : List ℕ} {j : Job} {lent : LoanTable} {scope : List ℕ} {p : Point} {t : Table} (z : Scoped s j lent scope p t) where
  pub same_at : map (loan_of s) (held_loans lent.loans scope p 0 lent.count) ≡ in_scope_at t (loans_of (graph_of j)) p
  unfolding in_scope_at
  same_at =
      let e : lent.count - 0 ≡ lent.count = omega arith in
      map-map (loan_of s) (nth_loan lent.loans) (select (is_in scope p) (count_from 0 (lent.count - 0)))
      ∙ rw e (select-same (is_in scope p) (λ i. holds t i p) (λ i. loan_of s (nth_loan lent.loans i)) (loan_number (loans_of (graph_of j))) 0 lent.count (λ i o. z.bits i (omega arith)) (λ i o. z.loans.same i (omega arith)))
      ∙ ap (λ n. map (loan_number (loans_of (graph_of j))) (select (λ i. holds t i p) (count_from 0 n))) z.loans.count

  pub none-at : {b : Bool} → SomeIn scope p b → b ≡ false → in_scope_at t (loans_of (graph_of j)) p ≡ []
  none-at w e = sym same_at ∙ ap (λ (ns : List ℕ). map (loan_of s) (map (nth_loan lent.loans) ns)) (select-none (is_in scope p) 0 (lent.count - 0) λ i o. let f = z.loans.few in w.none e i (omega arith))

  pub known_at : Known j s lent.loans lent.count
  known_at i l = subst (λ (x : spec.Loan). ShortestOf j x.path (nth_loan lent.loans i).shortest) (sym (z.loans.same i l)) (z.loans.shortest i l)
