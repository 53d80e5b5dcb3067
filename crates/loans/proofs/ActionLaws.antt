-- What the actions of a job's points are: their paths are named, may be taken and are short. Assumes nothing.
use mathlib.Core.Path.{◌≡◌, subst}
use mathlib.Core.Bool.{true, ◌&&◌}
use mathlib.Core.List.{List, [], ◌∷◌}
use Prim.Native.Nat.{ℕ, ◌≤◌, ◌<◌}
use lib.ListN.{length}
use lib.Dec.{T, leb, ltb, leb→le, ltb→lt}
use Rattle.nll_spec.specs.Lists.{every}
use Rattle.nll_spec.specs.Syntax.{Path, Point, BorrowKind, Action, Borrow, Job}
use Rattle.nll_spec.specs.WellFormed.{structs_named, outlived_named, variables_named, successors_named, action_named, actions_named, named, path_named, is_region, path_fits, paths_of, paths_fit}
use Rattle.nll_spec.specs.Graph.{graph_of, statements_of, action_at}
use Rattle.nll_spec.proofs.Tests.{and_left, and_right, is_true}
use Rattle.nll_spec.proofs.GraphLaws.{every-action}
use Rattle.record.specs.Layout.{Layout}
use Rattle.record.specs.declared.Head.{Head}
use Rattle.record.specs.declared.Offsets.{Offsets}
use Rattle.env.proofs.ShortLaws.{short, all_short, coded-short}

-- ---- A borrow of a job

-- the tests that refusals 6 and 8 make of all actions
actions-named : (j : Job) → T (named j) → T (actions_named j)
unfolding named
actions-named j h =
    and_right (leb (length j.outlives) j.regions && structs_named j && outlived_named j && variables_named j && successors_named j && ltb j.start (length j.blocks)) (actions_named j) h

module _ {s : List ℕ} {t : Offsets} {h : Head} {j : Job} (w : Layout s t h j) (p : Point) {d q : Path} {r : ℕ} {k : BorrowKind} (e : action_at (graph_of j) p ≡ Borrow d r k q) where
  pub source-named : T (named j) → q.base < length j.variables
  unfolding graph_of statements_of actions_named action_named
  source-named n =
      let x = every-action (action_named j) j.blocks 0 0 j.blocks tt (actions-named j n) p in
      let y : T (action_named j (Borrow d r k q)) = subst (λ (a : Action). T (action_named j a)) e x in
      ltb→lt q.base (length j.variables) (and_right (path_named j d && is_region j r) (path_named j q) y)

  pub source_fits : T (paths_fit j) → path_fits j q ≡ true
  unfolding graph_of statements_of paths_fit paths_of
  source_fits f =
      let x = every-action (λ a. every (path_fits j) (paths_of a)) j.blocks 0 0 j.blocks tt f p in
      let y : T (every (path_fits j) (d ∷ q ∷ [])) = subst (λ (a : Action). T (every (path_fits j) (paths_of a))) e x in
      is_true (path_fits j q) (and_left (path_fits j q) true (and_right (path_fits j d) (every (path_fits j) (q ∷ [])) y))

  pub source-short : length q.steps ≤ 6
  unfolding graph_of statements_of paths_of
  source-short =
      let x = every-action all_short j.blocks 0 0 j.blocks tt (coded-short w.blocks.coded) p in
      let y : T (every short (d ∷ q ∷ [])) = subst (λ (a : Action). T (all_short a)) e x in
      leb→le (length q.steps) 6 (and_left (short q) true (and_right (short d) (every short (q ∷ [])) y))
