-- The loans of the points, point by point. Assumes nothing.
use mathlib.Core.Path.{◌≡◌, refl, sym, ap, ◌∙◌}
use mathlib.Core.Bool.{Bool, true, false, cond}
use mathlib.Core.List.{List, [], ◌∷◌, ◌++◌, append_assoc, append-nil}
use Prim.Native.Nat.{ℕ, zero, suc, ◌+◌, ◌-◌, ◌≤◌, ◌<◌, min}
use native.Mathlib.Omega.{arith}
use native.Mathlib.Nat.{add-zero}
use native.Mathlib.Decide.{dec_lt}
use lib.ListN.{length, take, set, length-append, get_or-append}
use lib.Seq.{get_or-take, get_or_at, get_or-set_same, get_or-set_other}
use Rattle.nll_spec.specs.Lists.{gather, select, count_from}
use Rattle.nll_spec.specs.Syntax.{Point, Job}
use Rattle.nll_spec.specs.Graph.{Graph, action_at, is_walked}
use Rattle.nll_spec.specs.Loans as spec
use Rattle.nll_spec.specs.Loans.{loan_at, loan_number}
use Rattle.env.specs.Prefixes.{ShortestOf}
use Rattle.loans.specs.Loans.{no_loan, nth_loan, loan_of, loans_below, Listed}
use Rattle.loans.specs.declared.Loan.{Loan}
use Rattle.loans.specs.declared.LoanTable.{LoanTable}

-- ---- Lists one after the other

module _ {A : Type 0} where
  pub select-append : (f : A → Bool) (xs ys : List A) → select f (xs ++ ys) ≡ select f xs ++ select f ys
  select-append f [] ys = refl
  select-append f (x ∷ xs) ys = go (f x) refl (select-append f xs ys)
    where
      go : (b : Bool) → f x ≡ b → select f (xs ++ ys) ≡ select f xs ++ select f ys → cond b (x ∷ select f (xs ++ ys)) (select f (xs ++ ys)) ≡ cond b (x ∷ select f xs) (select f xs) ++ select f ys
      go true e r = ap (λ (l : List A). x ∷ l) r
      go false e r = r

  pub gather_append : {B : Type 0} (f : A → List B) (xs ys : List A) → gather f (xs ++ ys) ≡ gather f xs ++ gather f ys
  gather_append f [] ys = refl
  gather_append f (x ∷ xs) ys = ap (λ l. f x ++ l) (gather_append f xs ys) ∙ sym (append_assoc (f x) (gather f xs) (gather f ys))

pub count-split : (i m n : ℕ) → count_from i (m + n) ≡ count_from i m ++ count_from (i + m) n
count-split i zero n = rw (let e : 0 + n ≡ n = omega arith in e, add-zero i)
count-split i (suc m) n = let e : suc m + n ≡ suc (m + n) = omega arith in let f : i + suc m ≡ suc i + m = omega arith in rw (e, f, count-split (suc i) m n)

module _ (g : Graph) where
  below_split : (p k : ℕ) → loans_below g (p + k) ≡ loans_below g p ++ gather (λ q. loan_at q (action_at g q)) (select (is_walked g) (count_from p k))
  below_split p k =
      rw (count-split 0 p k, let e : 0 + p ≡ p = omega arith in e, select-append (is_walked g) (count_from 0 p) (count_from p k))
      (gather_append (λ q. loan_at q (action_at g q)) (select (is_walked g) (count_from 0 p)) (select (is_walked g) (count_from p k)))

  pub below_unwalked : (p : Point) → is_walked g p ≡ false → loans_below g (p + 1) ≡ loans_below g p
  below_unwalked p e = below_split p 1 ∙ rw e (append-nil (loans_below g p))

  pub below-walked : (p : Point) → is_walked g p ≡ true → loans_below g (p + 1) ≡ loans_below g p ++ loan_at p (action_at g p)
  below-walked p e = below_split p 1 ∙ rw (e, append-nil (loan_at p (action_at g p)))

  pub below_more : (p q : Point) → p ≤ q → length (loans_below g p) ≤ length (loans_below g q)
  below_more p q h =
      let k = q - p in
      let e : q ≡ p + k = omega arith in
      let f = ap length (below_split p k) ∙ length-append (loans_below g p) (gather (λ r. loan_at r (action_at g r)) (select (is_walked g) (count_from p k))) in
      rw e (omega (arith, f))

-- ---- One loan more

pub listed_more : {s : List ℕ} {j : Job} {xs : List spec.Loan} {t : List Loan} {n : ℕ} {y : spec.Loan} → Listed s j xs t n → (x : Loan) → n < length t → loan_of s x ≡ y → ShortestOf j y.path x.shortest
    → Listed s j (xs ++ (y ∷ [])) (set t n x) (n + 1)
listed_more {s} {j} {xs} {t} {n} {y} w x l e z =
    record {
      count = let c = w.count in let l = length-append xs (y ∷ []) in omega arith;
      same = λ i h. same i h (dec_lt i n);
      shortest = λ i h. short-of i h (dec_lt i n);
    }
  where
    old : (i : ℕ) → i < n → loan_number (xs ++ (y ∷ [])) i ≡ loan_number xs i
    old i h = get_or-append xs (y ∷ []) _ i (let c = w.count in omega arith)

    new : (i : ℕ) → i ≡ n → loan_number (xs ++ (y ∷ [])) i ≡ y
    new i h = get_or_at xs y [] _ i (let c = w.count in omega arith)

    kept : (i : ℕ) → i < n → nth_loan (set t n x) i ≡ nth_loan t i
    kept i h = get_or-set_other t n i x no_loan (λ k. omega arith)

    put : nth_loan (set t n x) n ≡ x
    put = get_or-set_same t n x no_loan l

    same : (i : ℕ) → i < n + 1 → Dec (i < n) → loan_of s (nth_loan (set t n x) i) ≡ loan_number (xs ++ (y ∷ [])) i
    same i h (yes l) = ap (loan_of s) (kept i l) ∙ w.same i l ∙ sym (old i l)
    same i h (no l) = let k : i ≡ n = omega arith in rw k (ap (loan_of s) put ∙ e ∙ sym (new n refl))

    short-of : (i : ℕ) → i < n + 1 → Dec (i < n) → ShortestOf j (loan_number (xs ++ (y ∷ [])) i).path (nth_loan (set t n x) i).shortest
    short-of i h (yes l) = rw (old i l, kept i l) (w.shortest i l)
    short-of i h (no l) = let k : i ≡ n = omega arith in rw (k, new n refl, put) z

-- ---- The loans that a table gives

pub lent_at : (table : LoanTable) {lent : List Loan} → (lent ≡ take table.count table.loans) × (length lent ≡ min table.count 128) → (i : ℕ) → i < length lent → nth_loan lent i ≡ nth_loan table.loans i
lent_at table e i l = ap (λ xs. nth_loan xs i) e.0 ∙ get_or-take table.count table.loans i no_loan (omega (arith, e.1))
