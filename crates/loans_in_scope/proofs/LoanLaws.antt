-- A loan at the point where it starts and at those of its region, by the table of loans and by the job. Assumes nothing.
use mathlib.Core.Path.{◌≡◌, sym, ap, ◌∙◌}
use mathlib.Core.Bool.{true, ◌&&◌}
use mathlib.Core.List.{List}
use Prim.Native.Nat.{ℕ, ◌+◌, ◌*◌, ◌≤◌, ◌<◌}
use native.Mathlib.Omega.{arith}
use lib.ListN.{length}
use lib.Dec.{T, leb, ltb, ltb→lt}
use Rattle.nll_spec.specs.Lists.{Member, here, select, below}
use Rattle.nll_spec.specs.Fixpoint.{Table, holds}
use Rattle.nll_spec.specs.Syntax as syntax
use Rattle.nll_spec.specs.Syntax.{Job, Point}
use Rattle.nll_spec.specs.Decode.{read, items, path, code_count, point_count}
use Rattle.nll_spec.specs.WellFormed.{named, structs_named, outlived_named, variables_named, successors_named, actions_named, action_named, is_region, path_named}
use Rattle.nll_spec.specs.Graph.{graph_of, statements_of, action_at, is_walked}
use Rattle.nll_spec.specs.Loans.{loan_at, loans_of, loan_number, overwritten}
use Rattle.nll_spec.specs.Loans as loans
use Rattle.nll_spec.proofs.Tests.{and_left, and_right}
use Rattle.nll_spec.proofs.Members.{place_member, gather_member}
use Rattle.nll_spec.proofs.GraphLaws.{every-action}
use Rattle.nll_spec.specs.Output.{word_bits}
use Rattle.bit_set.specs.Bits.{has}
use Rattle.repr.specs.Reading.{rest}
use Rattle.repr.specs.Parts.{action_says, action_read}
use Rattle.repr.specs.declared.Cursor.{Cursor}
use Rattle.repr.specs.declared.Path.{Path}
use Rattle.repr.specs.declared.Action.{Action}
use Rattle.repr.specs.declared.Action.TheVariants.{Noop, Init, Borrow, Assign, Constraint, Use, Drop, StorageDead}
use Rattle.repr.specs.declared.refusal.Refusal.{Refusal}
use Rattle.std.specs.Prelude.{Option, Result, Ok}
use Rattle.record.specs.Access.{Acts}
use Rattle.repr.proofs.SpellLaws.{done_back, then}
use Rattle.loans.specs.Loans.{nth_loan}
use Rattle.loans.specs.declared.Loan.{Loan}
use Rattle.loans_in_scope.specs.Gains.{Gains, Column}
use Rattle.loans_in_scope.specs.Scope.{overwritten_by, paths_of, inside_of, starts}
use Rattle.loans_in_scope.specs.Filling.{loan_in, given_to, RegionTo, RegionsTo, Begins, Begun}
use Rattle.loans_in_scope.specs.declared.Setup.{Setup}
use Rattle.loans_in_scope.proofs.GainsLaws.{on_as, columns_more}

-- ---- What an action overwrites

same_item : {A : Type 0} {a b : A} {bs cs : List ℕ} → read a bs ≡ read b cs → a ≡ b
same_item e = cc

overwritten-is : (s : List ℕ) (a : Action) (c : Cursor) {x : syntax.Action} {over : List ℕ} → action_read s a c ≡ read x over → paths_of s (overwritten_by a) ≡ overwritten x
unfolding overwritten
overwritten-is s Noop c e = ap overwritten (same_item e)
overwritten-is s (Init dest n) c e = ap overwritten (done_back _ _ (then (items n path) _ (rest s c) e).last)
overwritten-is s (Borrow dest r k source) c e = ap overwritten (same_item e)
overwritten-is s (Assign dest source) c e = ap overwritten (same_item e)
overwritten-is s (Constraint sup sub) c e = ap overwritten (same_item e)
overwritten-is s (Use p) c e = ap overwritten (same_item e)
overwritten-is s (Drop p) c e = ap overwritten (same_item e)
overwritten-is s (StorageDead v) c e = ap overwritten (same_item e)

module _ {s : List ℕ} {x : syntax.Action} {r : Result (Action × Cursor) Refusal} (e : Acts s x r) where
  pub acts_over : {a : Action} {c : Cursor} → r ≡ Ok (a, c) → {d : Option Path} → d ≡ overwritten_by a → paths_of s d ≡ overwritten x
  acts_over {a} {c} i q = ap (paths_of s) q ∙ overwritten-is s a c (sym (ap (action_says s) i) ∙ e.reads)

-- ---- A loan's region is one of the job's

loan-named : (j : Job) (p : Point) (a : syntax.Action) (loan : loans.Loan) → T (action_named j a) → Member loan (loan_at p a) → loan.region < j.regions
unfolding loan_at action_named
loan-named j p (syntax.Borrow d r k q) loan n here =
    ltb→lt r j.regions (and_right (path_named j d) (is_region j r) (and_left (path_named j d && is_region j r) (path_named j q) n))
loan-named j p syntax.Noop loan n x'' = elim x'' [ ]
loan-named j p (syntax.Init _ _) loan n x5 = elim x5 [ ]
loan-named j p (syntax.Borrow d r k q) loan n (Rattle.nll_spec.specs.Lists.there x7) = elim x7 [ ]
loan-named j p (syntax.Assign _ _) loan n x7 = elim x7 [ ]
loan-named j p (syntax.Constraint _ _) loan n x8 = elim x8 [ ]
loan-named j p (syntax.Use _) loan n x8 = elim x8 [ ]
loan-named j p (syntax.Drop _) loan n x9 = elim x9 [ ]
loan-named j p (syntax.StorageDead _) loan n x10 = elim x10 [ ]

actions-named : (j : Job) → T (named j) → (p : Point) → T (action_named j (action_at (graph_of j) p))
unfolding named actions_named graph_of statements_of action_named
actions-named j n =
    every-action (action_named j) j.blocks 0 0 j.blocks tt
    (and_right (leb (length j.outlives) j.regions && structs_named j && outlived_named j && variables_named j && successors_named j && ltb j.start (length j.blocks)) (actions_named j) n)

pub region-named : (j : Job) → T (named j) → (i : ℕ) → i < length (loans_of (graph_of j)) → (loan_number (loans_of (graph_of j)) i).region < j.regions
unfolding loans_of
region-named j n i l =
    let m = gather_member (λ p. loan_at p (action_at (graph_of j) p)) (select (is_walked (graph_of j)) (below (graph_of j).code)) (place_member _ (loans_of (graph_of j)) i l) in
    loan-named j m.0 (action_at (graph_of j) m.0) _ (actions-named j n m.0) m.2

pub successors-of : (j : Job) → T (named j) → T (successors_named j)
unfolding named
successors-of j n =
    and_right (leb (length j.outlives) j.regions && structs_named j && outlived_named j && variables_named j) (successors_named j)
    (and_left (leb (length j.outlives) j.regions && structs_named j && outlived_named j && variables_named j && successors_named j) (ltb j.start (length j.blocks))
    (and_left (leb (length j.outlives) j.regions && structs_named j && outlived_named j && variables_named j && successors_named j && ltb j.start (length j.blocks)) (actions_named j) n))

-- ---- The bits of a loan

code_below : (j : Job) → code_count j.blocks ≤ point_count j
unfolding point_count
code_below j = omega arith

module _ (u : Setup) {j : Job} {sets : Table} (g : given_to u j sets) where
  pub inside_is : (i p : ℕ) → i < u.loans.now.count → p < code_count j.blocks → inside_of u.words.now u.width (loan_in u i).region p ≡ holds sets (loan_number (loans_of (graph_of j)) i).region p
  inside_is i p l m =
      let e : (loan_in u i).region ≡ (loan_number (loans_of (graph_of j)) i).region = ap (λ (x : loans.Loan). x.region) (g.loans.same i l) in
      let n : i < length (loans_of (graph_of j)) = omega (arith, g.loans.count) in
      let r : (loan_number (loans_of (graph_of j)) i).region < length sets = omega (arith, region-named j g.names i n, g.rows) in
      ap (λ (x : ℕ). inside_of u.words.now u.width x p) e ∙ g.says.bits (loan_number (loans_of (graph_of j)) i).region p r (omega (arith, code_below j, g.room))

-- ---- The points of a region

-- number i of the first n points that the set from word start on has, of those below code
abbrev pub RegionPart : List ℕ → ℕ → ℕ → ℕ → ℕ → Point → ℕ → Type 0
RegionPart words start code i n p k = (Column code i p k × (p < n)) × (has words (word_bits * start + p) ≡ true)

-- ---- The loans, one after the other

module _ (v : Setup) {ws : List ℕ} where
  pub begun_more : {a b : List ℕ} (i : ℕ) {x : Loan} → x ≡ nth_loan v.loans.now.loans i → Begun v i ws a → Begins v x i a b → Begun v (i + 1) ws b
  begun_more i {x} e a b = record {
    bits = λ j o m.
        columns_more (λ p k. starts j (overwritten (action_at (graph_of j) p)) (loan_in v k) p) ws v.code i (a.bits j o m)
        (on_as {g = λ p k. starts j (overwritten (action_at (graph_of j) p)) (loan_in v k) p} (b.bits j o m) (λ p k w. w) (λ p k w. w) (λ p k w. rw (w.1, e)));
  }

  pub regions-more : {a b : List ℕ} (i : ℕ) {x : Loan} → x ≡ nth_loan v.loans.now.loans i → Gains (RegionsTo v i) ws a → Gains (RegionTo v x.region.0 i) a b → Gains (RegionsTo v (i + 1)) ws b
  regions-more i {x} e a b =
      columns_more (λ p k. inside_of v.words.now v.width (loan_in v k).region p) ws v.code i a
      (on_as {g = λ p k. inside_of v.words.now v.width (loan_in v k).region p} b (λ p k w. w) (λ p k w. w) (λ p k w. rw (w.1, e)))
