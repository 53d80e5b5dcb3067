-- The paths of a job's borrows and assignments are named, may be taken and are short. Assumes nothing.
use mathlib.Core.Path.{◌≡◌, subst}
use mathlib.Core.Bool.{Bool, true, false, ◌&&◌, cond}
use mathlib.Core.List.{List}
use Prim.Native.Nat.{ℕ}
use native.Mathlib.Omega.{arith}
use lib.ListN.{length}
use lib.Dec.{T, leb→le, ltb→lt}
use Rattle.nll_spec.specs.Lists.{every}
use Rattle.nll_spec.specs.Syntax.{Point, RegionName, BorrowKind, Action, Borrow, Assign, Job}
use Rattle.nll_spec.specs.Decode.{max_steps}
use Rattle.nll_spec.specs.WellFormed.{named, types_fit, shapes_fit, action_named, path_named, is_region, path_fits, paths_of, paths_fit, refusal}
use Rattle.nll_spec.specs.Graph.{graph_of, statements_of, action_at}
use Rattle.nll_spec.proofs.Tests.{and_left, and_right, is_true}
use Rattle.nll_spec.proofs.GraphLaws.{every-action}
use Rattle.nll_spec.proofs.AcceptedLaws.{accepted-job}
use Rattle.repr.specs.Reading.{path_of}
use Rattle.repr.specs.declared.Path as repr
use Rattle.record.specs.Layout.{Layout}
use Rattle.record.specs.declared.Head.{Head}
use Rattle.record.specs.declared.Offsets.{Offsets}
use Rattle.env.proofs.ShortLaws.{short, all_short, coded-short}
use Rattle.constraints.specs.Constraining.{Takes}

-- ---- Paths of a job that is not refused

paths-fit : (j : Job) → refusal j ≡ 0 → T (paths_fit j)
unfolding refusal
paths-fit j e = go (named j) (types_fit j) (paths_fit j) (shapes_fit j) e
  where
    go : (a b c d : Bool) → ◌≡◌ {A = ℕ} (cond a (cond b (cond c (cond d 0 9) 8) 7) 6) 0 → T c
    go true true true d e = tt
    go true true false d e = absurd (omega arith)
    go true false c d e = absurd (omega arith)
    go false b c d e = absurd (omega arith)

module _ {s : List ℕ} {t : Offsets} {h : Head} {j : Job} (w : Layout s t h j) (accepted : refusal j ≡ 0) (p : Point) {a : Action} (e : action_at (graph_of j) p ≡ a) where
  names : T (action_named j a)
  names = subst (λ (x : Action). T (action_named j x)) e ((accepted-job j accepted).actions-named p)

  pub fits : T (every (path_fits j) (paths_of a))
  unfolding graph_of statements_of paths_fit paths_of
  fits = subst (λ (x : Action). T (every (path_fits j) (paths_of x))) e (every-action (λ x. every (path_fits j) (paths_of x)) j.blocks 0 0 j.blocks tt (paths-fit j accepted) p)

  pub shorts : T (all_short a)
  unfolding graph_of statements_of paths_of
  shorts = subst (λ (x : Action). T (all_short x)) e (every-action all_short j.blocks 0 0 j.blocks tt (coded-short w.blocks.coded) p)

takes : (s : List ℕ) (j : Job) (q : repr.Path) → T (path_named j (path_of s q)) → T (path_fits j (path_of s q)) → T (short (path_of s q)) → Takes s j q
takes s j q n f k =
    record { named = ltb→lt q.base.0 (length j.variables) n; fits = is_true (path_fits j (path_of s q)) f; short = omega (arith, leb→le (length (path_of s q).steps) max_steps k) }

module _ {s : List ℕ} {t : Offsets} {h : Head} {j : Job} (w : Layout s t h j) (accepted : refusal j ≡ 0) (p : Point) (d q : repr.Path) where
  pub assign_takes : action_at (graph_of j) p ≡ Assign (path_of s d) (path_of s q) → Takes s j d × Takes s j q
  unfolding action_named paths_of
  assign_takes e = (
    takes s j d (and_left (path_named j (path_of s d)) (path_named j (path_of s q)) n) (and_left (path_fits j (path_of s d)) (path_fits j (path_of s q) && true) f) (and_left (short (path_of s d)) (short (path_of s q) && true) k),
    takes s j q (and_right (path_named j (path_of s d)) (path_named j (path_of s q)) n)
        (and_left (path_fits j (path_of s q)) true (and_right (path_fits j (path_of s d)) (path_fits j (path_of s q) && true) f))
        (and_left (short (path_of s q)) true (and_right (short (path_of s d)) (short (path_of s q) && true) k)),
  )
    where
      n : T (action_named j (Assign (path_of s d) (path_of s q)))
      n = names w accepted p e

      f : T (every (path_fits j) (paths_of (Assign (path_of s d) (path_of s q))))
      f = fits w accepted p e

      k : T (all_short (Assign (path_of s d) (path_of s q)))
      k = shorts w accepted p e

  pub borrow-takes : {r : RegionName} {k : BorrowKind} → action_at (graph_of j) p ≡ Borrow (path_of s d) r k (path_of s q) → Takes s j d × Takes s j q
  unfolding action_named paths_of
  borrow-takes {r} {k = kind} e = (
    takes s j d (and_left (path_named j (path_of s d)) (is_region j r) (and_left (path_named j (path_of s d) && is_region j r) (path_named j (path_of s q)) n))
        (and_left (path_fits j (path_of s d)) (path_fits j (path_of s q) && true) f) (and_left (short (path_of s d)) (short (path_of s q) && true) k),
    takes s j q (and_right (path_named j (path_of s d) && is_region j r) (path_named j (path_of s q)) n)
        (and_left (path_fits j (path_of s q)) true (and_right (path_fits j (path_of s d)) (path_fits j (path_of s q) && true) f))
        (and_left (short (path_of s q)) true (and_right (short (path_of s d)) (short (path_of s q) && true) k)),
  )
    where
      n : T (action_named j (Borrow (path_of s d) r kind (path_of s q)))
      n = names w accepted p e

      f : T (every (path_fits j) (paths_of (Borrow (path_of s d) r kind (path_of s q))))
      f = fits w accepted p e

      k : T (all_short (Borrow (path_of s d) r kind (path_of s q)))
      k = shorts w accepted p e
