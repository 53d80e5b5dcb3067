-- The loans in scope at a point, in parts.
use Rattle.std.specs.Prelude.{◌≡◌, Bool, false, List, map, ℕ, ◌+◌, ◌-◌, ◌*◌, ◌≤◌, ◌<◌, take}
use Rattle.nll_spec.specs.Lists.{select, count_from}
use Rattle.nll_spec.specs.Syntax.{Point}
use Rattle.bit_set.specs.Bits.{has}
use Rattle.loans.specs.Loans.{nth_loan}
use Rattle.loans.specs.declared.Loan.{Loan}
use Rattle.borrowck.specs.declared.scope.Part.{Part}

-- the loans of a part
abbrev pub loans_in : Part → List Loan
loans_in x = take x.count x.loans

-- the words say that loan i is in scope at p
abbrev pub is_in : List ℕ → Point → ℕ → Bool
is_in scope p i = has scope (128 * p + i)

-- the loans in scope at p from number `from` on and below `to`
abbrev pub held_loans : List Loan → List ℕ → Point → ℕ → ℕ → List Loan
held_loans table scope p from to = map (nth_loan table) (select (is_in scope p) (count_from from (to - from)))

-- Where the answer is no, no loan is in scope at p.
pub record SomeIn (scope : List ℕ) (p : Point) (r : Bool) : Type 0 where
  pub none : r ≡ false → (i : ℕ) → i < 128 → is_in scope p i ≡ false

-- The part has the loans in scope from number `from` on and below its next, which is no more than there are.
pub record Gathered (table : List Loan) (many : ℕ) (scope : List ℕ) (p : Point) (from : ℕ) (r : Part) : Type 0 where
  pub most : from ≤ many → r.next ≤ many
  pub on : from < many → from < r.next
  pub are : loans_in r ≡ held_loans table scope p from r.next
