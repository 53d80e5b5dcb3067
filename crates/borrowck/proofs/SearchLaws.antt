-- The search over loans and prefixes. Assumes nothing.
use mathlib.Core.Path.{◌≡◌, refl, sym, ◌∙◌}
use mathlib.Core.Bool.{Bool, true, false}
use mathlib.Core.List.{List}
use Prim.Native.Nat.{ℕ, ◌+◌, ◌≤◌, ◌<◌}
use native.Mathlib.Omega.{arith}
use native.Mathlib.Decide.{dec_lt}
use lib.ListN.{length}
use lib.Dec.{eqb}
use borrow.Author.Tests.{eq-eqb, ne_eqb, eqb-true, eqb-false}
use Rattle.nll_spec.specs.Syntax.{Path, Job}
use Rattle.nll_spec.specs.Types.{is_prefix, is_supporting, is_frozen}
use Rattle.repr.specs.Reading.{borrow_kind_of, path_of}
use Rattle.env.specs.Prefixes.{ShortestOf}
use Rattle.loans.specs.Loans.{nth_loan, loan_of}
use Rattle.loans.specs.declared.Loan.{Loan}
use Rattle.borrowck.specs.Search.{counts, near, meets, lent_at, own_at, Prefixes, FoundIn, nth_access}
use Rattle.borrowck.specs.declared.Access.{Access}
use Rattle.borrowck.specs.declared.Depth.{Depth}
use Rattle.borrowck.specs.declared.Depth.TheVariants.{Shallow, Deep}
use Rattle.std.specs.Prelude.{None}

-- ---- The prefixes of one loan

-- a path is a prefix of none with another base
prefix_apart : (j : Job) (q p : Path) → eqb q.base p.base ≡ false → is_prefix j q p ≡ false
unfolding is_prefix
prefix_apart j q p e = rw e

near_apart : (j : Job) (depth : Depth) (q p : Path) → eqb q.base p.base ≡ false → near j depth q p ≡ false
unfolding is_supporting is_frozen
near_apart j Deep q p e = rw e
near_apart j Shallow q p e = rw e

-- The prefixes of fewer than k steps do not conflict.
pub record Looked (s : List ℕ) (loan : Loan) (x : Access) (k : ℕ) : Type 0 where
  pub before : (j : Job) → ShortestOf j (path_of s loan.path) loan.shortest → (m : ℕ) → m < k → (lent_at j s loan x.path m ≡ false) × (own_at j s x.depth loan x.path m ≡ false)

module _ (s : List ℕ) (loan : Loan) (x : Access) where
  -- all prefixes are looked at, and none conflicts
  untouched : {n k : ℕ} → Prefixes loan x n → Looked s loan x k → n ≤ k → (j : Job) → ShortestOf j (path_of s loan.path) loan.shortest → meets j x.depth x.mode (path_of s x.path) (loan_of s loan) ≡ false
  untouched {n} {k} f w l j z = go (counts x.mode (borrow_kind_of loan.kind)) refl
    where
      go : (b : Bool) → counts x.mode (borrow_kind_of loan.kind) ≡ b → meets j x.depth x.mode (path_of s x.path) (loan_of s loan) ≡ false
      go false e = rw e
      go true e = same (eqb loan.path.base.0 x.path.base.0) refl
        where
          same : (b : Bool) → eqb loan.path.base.0 x.path.base.0 ≡ b → meets j x.depth x.mode (path_of s x.path) (loan_of s loan) ≡ false
          same true i =
              let one = eqb-true loan.path.base.0 x.path.base.0 i in
              let a = (w.before j z loan.path.steps (let o = f.lent e one in omega arith)).0 in
              let b = (w.before j z x.path.steps (let o = f.own e one in omega arith)).1 in
              let u : is_prefix j (path_of s loan.path) (path_of s x.path) ≡ false = sym (rw (eq-eqb loan.path.steps loan.path.steps refl)) ∙ a in
              let v : near j x.depth (path_of s x.path) (path_of s loan.path) ≡ false = sym (rw (eq-eqb x.path.steps x.path.steps refl)) ∙ b in
              rw (e, u, v)
          same false i =
              let u = prefix_apart j (path_of s loan.path) (path_of s x.path) i in
              let v = near_apart j x.depth (path_of s x.path) (path_of s loan.path) (ne_eqb x.path.base.0 loan.path.base.0 λ o. eqb-false loan.path.base.0 x.path.base.0 i (sym o)) in
              rw (e, u, v)

-- ---- All loans

-- the shortest prefixes of each loan are known
abbrev Known : List ℕ → List Loan → Job → Type 0
Known s loans j = (i : ℕ) → i < length loans → ShortestOf j (path_of s (nth_loan loans i).path) (nth_loan loans i).shortest

module _ (s : List ℕ) (x : Access) (loans : List Loan) where
  -- The loans below i do not conflict.
  pub record Searched (i : ℕ) : Type 0 where
    pub most : i ≤ length loans
    pub before : (j : Job) → Known s loans j → (k : ℕ) → k < i → meets j x.depth x.mode (path_of s x.path) (loan_of s (nth_loan loans k)) ≡ false

  module _ (i : ℕ) (w : Searched i) (l : i < length loans) {n : ℕ} (f : Prefixes (nth_loan loans i) x n) (k : ℕ) where
    pub searched_more : Looked s (nth_loan loans i) x k → n ≤ k → Searched (i + 1)
    searched_more v o = record { most = omega arith; before = λ j z m h. go j z m h (dec_lt m i) }
      where
        go : (j : Job) → Known s loans j → (m : ℕ) → m < i + 1 → Dec (m < i) → meets j x.depth x.mode (path_of s x.path) (loan_of s (nth_loan loans m)) ≡ false
        go j z m h (yes a) = w.before j z m a
        go j z m h (no a) = let y : m ≡ i = omega arith in rw y (untouched s (nth_loan loans i) x f v o j (z i l))

-- ---- All accesses

module _ (s : List ℕ) (accesses : List Access) (loans : List Loan) where
  -- The accesses below k conflict with none of the loans.
  pub record Tried (k : ℕ) : Type 0 where
    pub before : (m : ℕ) → m < k → FoundIn s (nth_access accesses m) loans None
