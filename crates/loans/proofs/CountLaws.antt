-- There are no more loans than Borrow actions. Assumes nothing.
use mathlib.Core.Path.{◌≡◌, refl, sym, ap, ◌∙◌}
use mathlib.Core.Bool.{Bool, true, false, cond}
use mathlib.Core.List.{List, [], ◌∷◌, ◌++◌, map, map-append}
use Prim.Native.Nat.{ℕ, suc, ◌+◌, ◌≤◌, ◌<◌}
use native.Mathlib.Omega.{arith}
use native.Mathlib.Nat.{add-zero}
use lib.ListN.{length, length-append}
use Rattle.nll_spec.specs.Lists.{gather, select, count_from}
use Rattle.nll_spec.specs.Syntax.{Point, BlockIndex, Action, Noop, Init, Borrow, Assign, Constraint, Use, Drop, StorageDead, Block, Job}
use Rattle.nll_spec.specs.Decode.{is_borrow, borrow_count}
use Rattle.nll_spec.specs.Graph.{Statement, first_point, block_statements, statements_from, statements_of, statement_at, graph_of, action_at, is_walked}
use Rattle.nll_spec.specs.Loans as spec
use Rattle.nll_spec.specs.Loans.{loan_at, loans_of}
use Rattle.loans.proofs.ListLaws.{select-append}

-- how many of the points' actions are borrows
abbrev borrows : List Statement → ℕ
borrows ns = length (select is_borrow (map (λ n. n.action) ns))

one_loan : (p : Point) (a : Action) (rest : List Action) → length (loan_at p a) + length (select is_borrow rest) ≡ length (select is_borrow (a ∷ rest))
unfolding loan_at
one_loan p Noop rest = omega arith
one_loan p (Init d qs) rest = omega arith
one_loan p (Borrow d r k q) rest = omega arith
one_loan p (Assign d q) rest = omega arith
one_loan p (Constraint sup sub) rest = omega arith
one_loan p (Use q) rest = omega arith
one_loan p (Drop q) rest = omega arith
one_loan p (StorageDead v) rest = omega arith

-- the loans of some points, where `at` gives the action of each
few-loans : (walked : Point → Bool) (at : Point → Action) (i : Point) (ns : List Statement) → ((k : ℕ) → k < length ns → at (i + k) ≡ (statement_at ns k).action)
    → length (gather (λ p. loan_at p (at p)) (select walked (count_from i (length ns)))) ≤ borrows ns
few-loans walked at i [] h = omega arith
few-loans walked at i (n ∷ ns) h = go (walked i) (few-loans walked at (suc i) ns λ k l. let e : suc i + k ≡ i + suc k = omega arith in ap at e ∙ h (suc k) (omega arith))
  where
    first : at i ≡ n.action
    first = ap at (sym (add-zero i)) ∙ h 0 (omega arith)

    later : List spec.Loan
    later = gather (λ p. loan_at p (at p)) (select walked (count_from (suc i) (length ns)))

    go : (b : Bool) → length later ≤ borrows ns → length (gather (λ p. loan_at p (at p)) (cond b (i ∷ select walked (count_from (suc i) (length ns))) (select walked (count_from (suc i) (length ns))))) ≤ borrows (n ∷ ns)
    go true r = let e = length-append (loan_at i (at i)) later in let f = ap (λ (a : Action). length (loan_at i a)) first in let o = one_loan i n.action (map (λ (m : Statement). m.action) ns) in omega arith
    go false r = let o = one_loan i n.action (map (λ (m : Statement). m.action) ns) in omega arith

block_borrows : (b : BlockIndex) (after : List Point) (p : Point) (acts : List Action) → borrows (block_statements b after p acts) ≡ length (select is_borrow acts)
unfolding block_statements
block_borrows b after p [] = refl
block_borrows b after p (a ∷ acts) = go (is_borrow a) (block_borrows b after (suc p) acts)
  where
    xs : List Action
    xs = map (λ (n : Statement). n.action) (block_statements b after (suc p) acts)

    go : (c : Bool) → length (select is_borrow xs) ≡ length (select is_borrow acts) → length (cond c (a ∷ select is_borrow xs) (select is_borrow xs)) ≡ length (cond c (a ∷ select is_borrow acts) (select is_borrow acts))
    go true e = ap suc e
    go false e = e

both : (xs ys : List Action) → length (select is_borrow (xs ++ ys)) ≡ length (select is_borrow xs) + length (select is_borrow ys)
both xs ys = ap length (select-append is_borrow xs ys) ∙ length-append (select is_borrow xs) (select is_borrow ys)

all_borrows : (all : List Block) (b : BlockIndex) (p : Point) (ds : List Block) → borrows (statements_from all b p ds) ≡ length (select is_borrow (gather (λ d. d.actions) ds))
unfolding statements_from
all_borrows all b p [] = refl
all_borrows all b p (d ∷ ds) =
    let x = ap (λ (l : List Action). length (select is_borrow l)) (map-append (λ (n : Statement). n.action) here later) ∙ both (map (λ (n : Statement). n.action) here) (map (λ (n : Statement). n.action) later) in
    let y = both d.actions (gather (λ (e : Block). e.actions) ds) in
    omega (arith, x, y, block_borrows b (map (first_point all 0) d.successors) p d.actions, all_borrows all (suc b) (p + suc (length d.actions)) ds)
  where
    here : List Statement
    here = block_statements b (map (first_point all 0) d.successors) p d.actions

    later : List Statement
    later = statements_from all (suc b) (p + suc (length d.actions)) ds

-- A job within refusal 5's limit of Borrow actions has at most as many loans.
pub loans-few : (j : Job) → length (loans_of (graph_of j)) ≤ borrow_count j
unfolding loans_of graph_of statements_of borrow_count
loans-few j =
    let x = few-loans (is_walked (graph_of j)) (action_at (graph_of j)) 0 (statements_of j) (λ k l. let e : 0 + k ≡ k = omega arith in ap (action_at (graph_of j)) e) in
    let y = all_borrows j.blocks 0 0 j.blocks in
    omega arith
