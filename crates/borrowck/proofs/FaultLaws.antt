-- The first access that conflicts, and its fault. Assumes nothing.
use mathlib.Core.Path.{◌≡◌, refl, sym, ap, subst, ◌∙◌}
use mathlib.Core.Bool.{Bool, true, false, ◌||◌, or-true}
use mathlib.Core.List.{List, [], ◌∷◌, ◌++◌, map}
use Prim.Native.Nat.{ℕ, zero, suc, ◌+◌, ◌-◌, ◌≤◌, ◌<◌}
use native.Mathlib.Omega.{arith}
use lib.ListN.{length, get_or, take}
use lib.Seq.{get_or-take, length-take-le}
use lib.Dec.{T}
use Rattle.nll_spec.specs.Lists.{any}
use Rattle.nll_spec.specs.Fixpoint.{Table}
use Rattle.nll_spec.specs.Syntax.{Point, Job}
use Rattle.nll_spec.specs.Decode.{code_count}
use Rattle.nll_spec.specs.Graph.{graph_of, action_at}
use Rattle.nll_spec.specs.Loans as spec
use Rattle.nll_spec.specs.Loans.{loans_of}
use Rattle.nll_spec.specs.Access.{Access, accesses, conflicts, fault_kind, no_fault, first_fault, in_scope_at, verdict_at}
use Rattle.nll_spec.proofs.Tests.{is_true, is_false}
use Rattle.nll_spec.proofs.Members.{any_member, any_element, place_member, member_place}
use Rattle.repr.specs.Reading.{path_of}
use Rattle.repr.specs.Parts.{action_says}
use Rattle.repr.specs.declared.Cursor.{Cursor}
use Rattle.repr.specs.declared.Action.{Action}
use Rattle.repr.specs.declared.refusal.Refusal.{Refusal}
use Rattle.record.specs.Layout.{Holds}
use Rattle.record.specs.Access.{Acts}
use Rattle.record.specs.declared.Record.{Record}
use Rattle.env.specs.Prefixes.{ShortestOf}
use Rattle.loans.specs.Loans.{no_loan, nth_loan, loan_of}
use Rattle.loans.specs.declared.Loan.{Loan}
use Rattle.loans.specs.declared.LoanTable.{LoanTable}
use Rattle.std.specs.Prelude.{Option, Some, None, Result, Ok}
use Rattle.std.specs.Option.{unwrap_or}
use Rattle.std.proofs.Common.{rules}
use Rattle.borrowck.specs.Search.{meets, FoundIn, no_access, nth_access, before_conflict, FirstIn}
use Rattle.borrowck.specs.Accesses.{kind_number, Means, accesses_in, Mean, none, more, AccessesOf}
use Rattle.borrowck.specs.Scope.{loans_in, is_in, held_loans, SomeIn, Gathered}
use Rattle.borrowck.specs.Faults.{verdict_of, Scoped, hits, Known, Checked}
use Rattle.borrowck.proofs.FewLaws.{few-at}
use Rattle.borrowck.proofs.ScopeLaws.{select-holds, scope_split, none-at, same_at, known_at}
use Rattle.borrowck.specs.declared.Access as own
use Rattle.borrowck.specs.declared.Conflict.{Conflict}
use Rattle.borrowck.specs.declared.Fault.{Fault}
use Rattle.borrowck.specs.declared.accesses.Accesses.{Accesses}
use Rattle.borrowck.specs.declared.scope.Part.{Part}

-- ---- Some loan

any_same : {A : Type 0} (f g : A → Bool) → ((x : A) → f x ≡ g x) → (xs : List A) → any f xs ≡ any g xs
any_same f g h [] = refl
any_same f g h (x ∷ xs) = rw (h x, any_same f g h xs)

any-map : {A B : Type 0} (f : B → Bool) (g : A → B) (xs : List A) → any f (map g xs) ≡ any (λ x. f (g x)) xs
any-map f g [] = refl
any-map f g (x ∷ xs) = rw (any-map f g xs)

any_append : {A : Type 0} (f : A → Bool) (xs ys : List A) → any f (xs ++ ys) ≡ any f xs || any f ys
any_append f [] ys = refl
any_append f (x ∷ xs) ys = go (f x) (any_append f xs ys)
  where
    go : (b : Bool) → any f (xs ++ ys) ≡ any f xs || any f ys → b || any f (xs ++ ys) ≡ (b || any f xs) || any f ys
    go true e = refl
    go false e = e

module _ {A : Type 0} (f : A → Bool) (d : A) where
  any_at : (xs : List A) (i : ℕ) → i < length xs → f (get_or xs i d) ≡ true → any f xs ≡ true
  any_at xs i l e = is_true (any f xs) (any_member f (place_member d xs i l) (subst T (sym e) tt))

  any_nowhere : (xs : List A) → ((i : ℕ) → i < length xs → f (get_or xs i d) ≡ false) → any f xs ≡ false
  any_nowhere xs h = is_false (any f xs) λ t. let x = any_element f xs t in let k = member_place d x.1 in subst T (sym (ap f k.2) ∙ h k.0 k.1) x.2

-- what the search finds among the loans
module _ {s : List ℕ} {loans : List Loan} {x : own.Access} where
  found-some : {i : ℕ} → FoundIn s x loans (Some i) → (j : Job) → ((i : ℕ) → i < length loans → ShortestOf j (path_of s (nth_loan loans i).path) (nth_loan loans i).shortest) → any (hits j s x) loans ≡ true
  found-some {i} w j z = let f = w.says j z in any_at (hits j s x) no_loan loans i f.0 f.1

  found-none : FoundIn s x loans None → (j : Job) → ((i : ℕ) → i < length loans → ShortestOf j (path_of s (nth_loan loans i).path) (nth_loan loans i).shortest) → any (hits j s x) loans ≡ false
  found-none w j z = any_nowhere (hits j s x) no_loan loans (w.says j z)

-- what the search finds among the first n accesses
first-taken : {s : List ℕ} {list : List own.Access} {n : ℕ} {loans : List Loan} (r : Option Conflict) → n ≤ length list → FirstIn s (take n list) (length (take n list)) loans r → FirstIn s list n loans r
first-taken {s} {list} {n} {loans} r l v = record {
  before = λ k h. subst (λ (x : own.Access). FoundIn s x loans None) (get_or-take n list k no_access (below r v' k h)) (v'.before k h);
  most = v'.most;
  here = λ c e. subst (λ (x : own.Access). FoundIn s x loans (Some c.loan)) (get_or-take n list c.access no_access (v'.most c e)) (v'.here c e);
}
  where
    v' : FirstIn s (take n list) n loans r
    v' = rw (length-take-le n list l) at v

    below : (q : Option Conflict) → FirstIn s (take n list) n loans q → (k : ℕ) → k < before_conflict n q → k < n
    below (Some c) w k h = let m = w.most c refl in omega arith
    below None w k h = h

-- ---- Part by part

module _ {s : List ℕ} {table : List Loan} {scope : List ℕ} {p : Point} {accs : Accesses} where
  -- how many accesses there are before the one that was found
  pub checked_most : {n : ℕ} (r : Option ℕ) → Checked s table scope p accs n r → unwrap_or r accs.count ≤ accs.count
  checked_most (Some k) w = let l = w.most k refl in omega arith
  checked_most None w = omega arith

  module _ {many from : ℕ} (first : Option ℕ) (w : Checked s table scope p accs from first) (l : from < many) {part : Part} (g : Gathered table many scope p from part) {n : ℕ} (a : n ≡ unwrap_or first accs.count) {r : Option Conflict} (size : n ≤ length accs.list) (found : FirstIn s (take n accs.list) (length (take n accs.list)) (loans_in part) r) where
    v : FirstIn s accs.list n (loans_in part) r
    v = first-taken r size found

    low : from ≤ part.next
    low = let o = g.on l in omega arith

    -- what an access conflicts with below the part, and in it
    both : (j : Job) (x : own.Access) → any (hits j s x) (held_loans table scope p 0 part.next) ≡ any (hits j s x) (held_loans table scope p 0 from) || any (hits j s x) (loans_in part)
    both j x = rw (scope_split table scope p from part.next low, g.are) (any_append (hits j s x) (held_loans table scope p 0 from) (held_loans table scope p from part.next))

    fewer : (j : Job) → Known j s table part.next → Known j s table from
    fewer j z i h = z i (omega (arith, low))

    shortest : (j : Job) → Known j s table part.next → (i : ℕ) → i < length (loans_in part) → ShortestOf j (path_of s (nth_loan (loans_in part) i).path) (nth_loan (loans_in part) i).shortest
    shortest j z = rw g.are (select-holds (λ x. ShortestOf j (path_of s x.path) x.shortest) no_loan (is_in scope p) (nth_loan table) from (part.next - from) λ i h. z i (omega (arith, low)))

    -- an access before that conflicts neither below the part nor in it
    clear : (j : Job) → Known j s table part.next → (k : ℕ) → k < unwrap_or first accs.count → k < before_conflict n r → any (hits j s (nth_access accs.list k)) (held_loans table scope p 0 part.next) ≡ false
    clear j z k h o = both j (nth_access accs.list k) ∙ rw (w.before j (fewer j z) k h, found-none (v.before k o) j (shortest j z))

    pub checked_pass : r ≡ None → Checked s table scope p accs part.next first
    checked_pass e = record {
      before = λ j z k h. clear j z k h (rw e (omega (arith, a)));
      most = w.most;
      here = λ k o j z. both j (nth_access accs.list k) ∙ rw (w.here k o j (fewer j z));
    }

    pub checked_more : {c : Conflict} → r ≡ Some c → Checked s table scope p accs part.next (Some c.access)
    checked_more {c} e = record {
      before = λ j z k h. clear j z k (let m = v.most c e in omega (arith, a)) (rw e h);
      most = λ k o. let i : k ≡ c.access = search rules in let m = v.most c e in let o = checked_most first w in omega (arith, a);
      here = λ k o j z. let i : k ≡ c.access = search rules in rw i (both j (nth_access accs.list c.access) ∙ rw (found-some (v.here c e) j (shortest j z)) (or-true (any (hits j s (nth_access accs.list c.access)) (held_loans table scope p 0 from))));
    }

-- ---- The first fault

first_true : (j : Job) (loans : List spec.Loan) (i : ℕ) (x : Access) (xs : List Access) → any (conflicts j x) loans ≡ true → first_fault j loans i (x ∷ xs) ≡ record { kind = fault_kind x; operand = i }
unfolding first_fault
first_true j loans i x xs e = rw (e, first_fault)

first_false : (j : Job) (loans : List spec.Loan) (i : ℕ) (x : Access) (xs : List Access) → any (conflicts j x) loans ≡ false → first_fault j loans i (x ∷ xs) ≡ first_fault j loans (suc i) xs
unfolding first_fault
first_false j loans i x xs e = rw (e, first_fault)

first-none : (j : Job) (loans : List spec.Loan) (i : ℕ) → first_fault j loans i [] ≡ no_fault
unfolding first_fault
first-none j loans i = refl

-- without loans there is no fault
first_free : (j : Job) (i : ℕ) (xs : List Access) → first_fault j [] i xs ≡ no_fault
first_free j i [] = first-none j [] i
first_free j i (x ∷ xs) = first_false j [] i x xs refl ∙ first_free j (suc i) xs

module _ (s : List ℕ) (j : Job) (loans : List spec.Loan) where
  abbrev some : own.Access → Bool
  some x = any (meets j x.depth x.mode (path_of s x.path)) loans

  some_is : {x : own.Access} {a : Access} → Means s x a → any (conflicts j a) loans ≡ some x
  some_is {x} {a} m = any_same (conflicts j a) (meets j x.depth x.mode (path_of s x.path)) (m.same j) loans

  -- no access conflicts
  fault_none : {xs : List own.Access} {bs : List Access} → Mean s xs bs → (i : ℕ) → ((k : ℕ) → k < length xs → some (nth_access xs k) ≡ false) → first_fault j loans i bs ≡ no_fault
  fault_none none i h = first-none j loans i
  fault_none {xs = x ∷ xs} {bs = b ∷ bs} (more m w) i h = first_false j loans i b bs (some_is m ∙ h 0 (omega arith)) ∙ fault_none w (suc i) (λ k l. h (suc k) (omega arith))

  -- access k is the first that conflicts
  fault_first : {xs : List own.Access} {bs : List Access} → Mean s xs bs → (i k : ℕ) → ((m : ℕ) → m < k → some (nth_access xs m) ≡ false) → k < length xs → some (nth_access xs k) ≡ true → first_fault j loans i bs ≡ record { kind = kind_number (nth_access xs k).fault; operand = i + k }
  fault_first none i k h l e = absurd (omega arith)
  fault_first {xs = x ∷ xs} {bs = b ∷ bs} (more m w) i zero h l e = first_true j loans i b bs (some_is m ∙ e) ∙ (let o : i + 0 ≡ i = omega arith in rw (m.kind, o))
  fault_first {xs = x ∷ xs} {bs = b ∷ bs} (more m w) i (suc k) h l e =
      let o : suc i + k ≡ i + suc k = omega arith in
      first_false j loans i b bs (some_is m ∙ h 0 (omega arith)) ∙ rw o at (fault_first w (suc i) k (λ n z. h (suc n) (omega arith)) (omega arith) e)

-- ---- The verdict at a point

-- the accesses of the point's action
mean_at : (input : Record) (p : Point) {v : Result (Action × Cursor) Refusal} → ((j : Job) → Holds input j → p < code_count j.blocks → Acts input.bytes.now (action_at (graph_of j) p) v) → {a : Action} {c : Cursor} → v ≡ Ok (a, c) → {accs : Accesses} → AccessesOf input.bytes.now a c accs → (j : Job) → Holds input j → p < code_count j.blocks → Mean input.bytes.now (accesses_in accs) (accesses (action_at (graph_of j) p))
mean_at input p m e o j w l = o.says _ _ (sym (ap (action_says input.bytes.now) e) ∙ (m j w l).reads) (few-at w p)

module _ (input : Record) (lent : LoanTable) (scope : List ℕ) (p : Point) where
  -- The verdict at p, as `nll_spec` has it.
  abbrev Says : Option Fault → Type 0
  Says r = (j : Job) (t : Table) → Holds input j → p < code_count j.blocks → Scoped input.bytes.now j lent scope p t → verdict_of r ≡ verdict_at j (graph_of j) t (loans_of (graph_of j)) p

  pub verdict_free : {b : Bool} → SomeIn scope p b → b ≡ false → Says None
  unfolding verdict_at
  verdict_free o i j t w l z = let xs = accesses (action_at (graph_of j) p) in sym (ap (λ (free : List spec.Loan). first_fault j free 0 xs) (none-at z o i) ∙ first_free j 0 xs)

  module _ {v : Result (Action × Cursor) Refusal} (m : (j : Job) → Holds input j → p < code_count j.blocks → Acts input.bytes.now (action_at (graph_of j) p) v) where
    module _ {a : Action} {c : Cursor} (e : v ≡ Ok (a, c)) {accs : Accesses} (o : AccessesOf input.bytes.now a c accs) where
      pub verdict_idle : accs.count ≡ 0 → Says None
      unfolding verdict_at
      verdict_idle i j t w l z = sym (fault_none input.bytes.now j (in_scope_at t (loans_of (graph_of j)) p) (mean_at input p m e o j w l) 0 (λ k n. absurd (omega (arith, i, o.all))))

      module _ {r : Option ℕ} (y : Checked input.bytes.now lent.loans scope p accs lent.count r) where
        module _ (j : Job) (t : Table) (z : Scoped input.bytes.now j lent scope p t) where
          abbrev s : List ℕ
          s = input.bytes.now

          abbrev given : List spec.Loan
          given = in_scope_at t (loans_of (graph_of j)) p

          -- of the accesses, as the check has it
          tested : (n : ℕ) → n < accs.count → some s j given (nth_access (accesses_in accs) n) ≡ any (hits j s (nth_access accs.list n)) (held_loans lent.loans scope p 0 lent.count)
          tested n u =
              rw (get_or-take accs.count accs.list n (nth_access [] 0) u, sym (same_at z)) (any-map (meets j (nth_access accs.list n).depth (nth_access accs.list n).mode (path_of s (nth_access accs.list n).path)) (loan_of s) (held_loans lent.loans scope p 0 lent.count))

          known : Known j s lent.loans lent.count
          known n u = known_at z n u

        pub verdict_clear : r ≡ None → Says None
        unfolding verdict_at
        verdict_clear h j t w l z = sym (fault_none input.bytes.now j (given j t z) (mean_at input p m e o j w l) 0 (λ n d. let d' : n < accs.count = omega (arith, o.all) in tested j t z n d' ∙ y.before j (known j t z) n (rw h d')))

        pub verdict_fault : {k : ℕ} → r ≡ Some k → Says (Some (record { kind = (nth_access accs.list k).fault; operand = k }))
        unfolding verdict_at
        verdict_fault {k} h j t w l z =
            let u = y.most k h in
            let b : 0 + k ≡ k = omega arith in
            sym (rw (b, get_or-take accs.count accs.list k (nth_access [] 0) u) at (fault_first input.bytes.now j (given j t z) (mean_at input p m e o j w l) 0 k (λ n d. tested j t z n (omega arith) ∙ y.before j (known j t z) n (rw h d)) (omega (arith, o.all)) (tested j t z k u ∙ y.here k h j (known j t z))))
