-- A test of all actions, made point by point. Assumes nothing.
use mathlib.Core.Path.{◌≡◌, refl, sym, ap, ◌∙◌}
use mathlib.Core.Bool.{Bool, true, false, ◌&&◌, and-true, and_assoc, cond}
use mathlib.Core.List.{List, [], ◌∷◌, ◌++◌, map}
use Prim.Native.Nat.{ℕ, suc, ◌+◌, ◌<◌, ◌≤◌}
use native.Mathlib.Omega.{arith}
use native.Mathlib.Numerals.{add-one}
use lib.ListN.{length, get_or, drop, drop_of_length-le}
use lib.Seq.{drop-cons}
use lib.Dec.{T, leb, ltb}
use Rattle.nll_spec.specs.Lists.{every, gather}
use Rattle.nll_spec.specs.Syntax.{Action, Noop, Init, Borrow, Assign, Constraint, Use, Drop, StorageDead, Block, Job, Point, BlockIndex}
use Rattle.nll_spec.specs.Decode.{code_count}
use Rattle.nll_spec.specs.WellFormed.{path_named, action_named, actions_named, structs_named, outlived_named, variables_named, successors_named, named, is_region, path_fits, paths_of, paths_fit, shape_fits, shapes_fit, actions_of}
use Rattle.nll_spec.specs.Graph.{Statement, first_point, block_statements, statements_from, statements_of, graph_of, action_at}
use Rattle.nll_spec.proofs.Tests.{is_true, and_left, and_right}
use Rattle.nll_spec.proofs.GraphLaws.{length-statements}
use Rattle.record.specs.Layout.{Layout}
use Rattle.record.specs.declared.Head.{Head}
use Rattle.record.specs.declared.Offsets.{Offsets}
use Rattle.refusals.proofs.PartLaws.{every_append, every_both}
use Rattle.well_formed.specs.Tests.{refusal_of, number_in, action_taken}
use Rattle.repr.specs.declared.refusal.Refusal.{Refusal}
use Rattle.repr.specs.declared.refusal.Refusal.TheVariants.{Version, Length, Form, Range, Size, Name, Arguments, Path, Shape, Room}
use Rattle.repr.specs.Refusals.{number_of}
use Rattle.std.specs.Prelude.{Result, Ok, Err, is_ok}

-- what stands for a point that is not there
abbrev pub no_point : Statement
no_point = record { block = 0; action = Noop; next = [] }

-- a test of what a point does
abbrev pub at_point : (Action → Bool) → Statement → Bool
at_point f n = f n.action

module _ (f : Action → Bool) (none : f Noop ≡ true) where
  every-block : (b : BlockIndex) (after : List Point) (p : Point) (acts : List Action) (ns : List Statement) → every (at_point f) (block_statements b after p acts ++ ns) ≡ every f acts && every (at_point f) ns
  unfolding block_statements
  every-block b after p [] ns = rw none
  every-block b after p (a ∷ acts) ns = ap (λ (z : Bool). f a && z) (every-block b after (suc p) acts ns) ∙ sym (and_assoc (f a) (every f acts) (every (at_point f) ns))

  every_statement : (all : List Block) (b : BlockIndex) (p : Point) (ds : List Block) → every (at_point f) (statements_from all b p ds) ≡ every f (gather (λ d. d.actions) ds)
  unfolding statements_from
  every_statement all b p [] = refl
  every_statement all b p (d ∷ ds) =
      every-block b (map (first_point all 0) d.successors) p d.actions (statements_from all (suc b) (p + suc (length d.actions)) ds)
      ∙ ap (λ (z : Bool). every f d.actions && z) (every_statement all (suc b) (p + suc (length d.actions)) ds)
      ∙ sym (every_append f d.actions (gather (λ (e : Block). e.actions) ds))

  pub every-point : (j : Job) → every (at_point f) (statements_of j) ≡ every f (actions_of j)
  unfolding statements_of
  every-point j = every_statement j.blocks 0 0 j.blocks

point_tested : (f : Action → Bool) (j : Job) (p : Point) {r : Bool} → r ≡ f (action_at (graph_of j) p) → r ≡ at_point f (get_or (statements_of j) p no_point)
unfolding graph_of
point_tested f j p e = e

module _ {s : List ℕ} {t : Offsets} {h : Head} {j : Job} (w : Layout s t h j) {code : ℕ} (e : code ≡ h.code) where
  pub points-counted : length (statements_of j) ≡ code
  unfolding statements_of
  points-counted = length-statements j.blocks 0 0 j.blocks ∙ sym (e ∙ w.code)

  pub point-inside : {p : Point} → p < code → p < code_count j.blocks
  point-inside l = let c = w.code in omega arith

-- ---- The paths of named actions

every-same : {A : Type 0} (f g : A → Bool) (xs : List A) → ((x : A) → f x ≡ g x) → every f xs ≡ every g xs
every-same f g [] h = refl
every-same f g (x ∷ xs) h = rw (h x, every-same f g xs h)

-- all paths of an action begin at variables
abbrev paths_named : Job → Action → Bool
paths_named j a = every (path_named j) (paths_of a)

abbrev paths_may_be_taken : Job → Action → Bool
paths_may_be_taken j a = every (path_fits j) (paths_of a)

module _ (j : Job) where
  -- named actions have named paths
  paths-named : (a : Action) → T (action_named j a) → paths_named j a ≡ true
  unfolding action_named paths_of
  paths-named Noop h = refl
  paths-named (Init p qs) h = is_true (path_named j p && every (path_named j) qs) h
  paths-named (Borrow p r k q) h =
      let l = and_left (path_named j p && is_region j r) (path_named j q) h in
      rw (is_true (path_named j p) (and_left (path_named j p) (is_region j r) l), is_true (path_named j q) (and_right (path_named j p && is_region j r) (path_named j q) h))
  paths-named (Assign p q) h = rw (is_true (path_named j p) (and_left (path_named j p) (path_named j q) h), is_true (path_named j q) (and_right (path_named j p) (path_named j q) h))
  paths-named (Constraint sup sub) h = refl
  paths-named (Use p) h = rw (is_true (path_named j p) h)
  paths-named (Drop p) h = rw (is_true (path_named j p) h)
  paths-named (StorageDead v) h = refl

  actions-named : (acts : List Action) → T (every (action_named j) acts) → every (paths_named j) acts ≡ true
  actions-named [] h = refl
  actions-named (a ∷ acts) h =
      rw (paths-named a (and_left (action_named j a) (every (action_named j) acts) h), actions-named acts (and_right (action_named j a) (every (action_named j) acts) h))

  last-named : T (named j) → T (actions_named j)
  unfolding named
  last-named h = and_right (leb (length j.outlives) j.regions && structs_named j && outlived_named j && variables_named j && successors_named j && ltb j.start (length j.blocks)) (actions_named j) h

  pub paths-taken : T (named j) → every (action_taken j) (actions_of j) ≡ paths_fit j
  unfolding actions_named paths_fit
  paths-taken h =
      every-same (action_taken j) (λ a. paths_named j a && paths_may_be_taken j a) (actions_of j) (λ a. every_both (path_named j) (path_fits j) (paths_of a))
      ∙ every_both (paths_named j) (paths_may_be_taken j) (actions_of j)
      ∙ rw (actions-named (actions_of j) (last-named h))

  no_paths : action_taken j Noop ≡ true
  unfolding paths_of
  no_paths = refl

  every-path : T (named j) → every (at_point (action_taken j)) (statements_of j) ≡ paths_fit j
  every-path h = every-point (action_taken j) no_paths j ∙ paths-taken h

  every_shape : every (at_point (shape_fits j)) (statements_of j) ≡ shapes_fit j
  unfolding shape_fits shapes_fit
  every_shape = every-point (shape_fits j) refl j

-- ---- The refusal of a point

-- no refusal has the number 0
pub some_number : (k : Refusal) → number_of k ≡ 0 → ⊥
some_number Version e = omega arith
some_number Length e = omega arith
some_number Form e = omega arith
some_number Range e = omega arith
some_number Size e = omega arith
some_number Name e = omega arith
some_number Arguments e = omega arith
some_number Path e = omega arith
some_number Shape e = omega arith
some_number Room e = omega arith

-- one has the number 8
path_number : (k : Refusal) → number_of k ≡ 8 → k ≡ Path
path_number Version e = absurd (omega arith)
path_number Length e = absurd (omega arith)
path_number Form e = absurd (omega arith)
path_number Range e = absurd (omega arith)
path_number Size e = absurd (omega arith)
path_number Name e = absurd (omega arith)
path_number Arguments e = absurd (omega arith)
path_number Path e = refl
path_number Shape e = absurd (omega arith)
path_number Room e = absurd (omega arith)

-- the refusal of an action whose paths may not be taken
path_refused : (y : Bool) (d : Result (Unit {0}) Refusal) → number_in d ≡ refusal_of false y → d ≡ Err Path
path_refused y (Ok u) e = absurd (omega arith)
path_refused y (Err k) e = ap Err (path_number k e)

taken_of : (x y : Bool) {d : Result (Unit {0}) Refusal} → number_in d ≡ refusal_of x y → (d ≡ Err Path → ⊥) → true ≡ x
taken_of true y e n = refl
taken_of false y {d} e n = absurd (n (path_refused y d e))

untaken_of : (x y : Bool) {k : ℕ} → k ≡ refusal_of x y → k ≡ 8 → false ≡ x
untaken_of true true e n = absurd (omega arith)
untaken_of true false e n = absurd (omega arith)
untaken_of false y e n = refl

shape_of : (x y : Bool) (d : Result (Unit {0}) Refusal) → number_in d ≡ refusal_of x y → (d ≡ Err Path → ⊥) → is_ok d ≡ y
shape_of true true (Ok u) e n = refl
shape_of true true (Err k) e n = absurd (some_number k e)
shape_of true false (Ok u) e n = absurd (omega arith)
shape_of true false (Err k) e n = refl
shape_of false y d e n = absurd (n (path_refused y d e))

-- from item i on
every_from : {A : Type 0} (f : A → Bool) (xs : List A) (x : A) (i : ℕ) {r : Bool} → i < length xs → r ≡ f (get_or xs i x) → every f (drop i xs) ≡ r && every f (drop (i + 1) xs)
every_from f xs x i h e = rw (drop-cons xs i x h, add-one, e)

-- all points are tested for both, up to p: their paths may be taken, and `fits` says whether the shapes fit
pub record Judged (j : Job) (p : Point) (fits : Bool) : Type 0 where
  pub paths : every (at_point (action_taken j)) (statements_of j) ≡ every (at_point (action_taken j)) (drop p (statements_of j))
  pub shapes : every (at_point (shape_fits j)) (statements_of j) ≡ fits && every (at_point (shape_fits j)) (drop p (statements_of j))

module _ {j : Job} {code p : ℕ} {fits : Bool} (c : length (statements_of j) ≡ code) (g : Judged j p fits) where
  -- a test of all points from p on
  point_from : p < code → (f : Action → Bool) {r : Bool} → r ≡ f (action_at (graph_of j) p) → every (at_point f) (drop p (statements_of j)) ≡ r && every (at_point f) (drop (p + 1) (statements_of j))
  point_from l f i = every_from (at_point f) (statements_of j) no_point p (omega arith) (point_tested f j p i)

  module _ (l : p < code) {d : Result (Unit {0}) Refusal} (e : number_in d ≡ refusal_of (action_taken j (action_at (graph_of j) p)) (shape_fits j (action_at (graph_of j) p))) where
    pub judged_stop : d ≡ Err Path → T (named j) → number_in d ≡ refusal_of (paths_fit j) (shapes_fit j)
    judged_stop n h =
        let f : paths_fit j ≡ false = sym (every-path j h) ∙ g.paths ∙ point_from l (action_taken j) (untaken_of (action_taken j (action_at (graph_of j) p)) (shape_fits j (action_at (graph_of j) p)) e (ap number_in n)) in
        ap number_in n ∙ rw f

    pub judged-more : (d ≡ Err Path → ⊥) → Judged j (p + 1) (fits && is_ok d)
    judged-more n = record {
      paths = g.paths ∙ point_from l (action_taken j) (taken_of (action_taken j (action_at (graph_of j) p)) (shape_fits j (action_at (graph_of j) p)) e n);
      shapes = g.shapes ∙ ap (λ (z : Bool). fits && z) (point_from l (shape_fits j) (shape_of (action_taken j (action_at (graph_of j) p)) (shape_fits j (action_at (graph_of j) p)) d e n)) ∙ sym (and_assoc fits (is_ok d) _);
    }

  pub judged-all : code ≤ p → T (named j) → refusal_of (paths_fit j) (shapes_fit j) ≡ cond fits 0 9
  judged-all l h =
      let o : length (statements_of j) ≤ p = omega arith in
      let a : paths_fit j ≡ true = sym (every-path j h) ∙ g.paths ∙ rw (drop_of_length-le (statements_of j) o) in
      let b : shapes_fit j ≡ fits = sym (every_shape j) ∙ g.shapes ∙ rw (drop_of_length-le (statements_of j) o) (and-true fits) in
      rw (a, b)
