-- What the list of the points that follow a point says of the tables. Assumes nothing.
use mathlib.Core.Path.{◌≡◌, ◌∙◌}
use mathlib.Core.List.{List}
use Prim.Native.Nat.{ℕ, ◌+◌, ◌<◌}
use native.Mathlib.Omega.{arith}
use lib.ListN.{length, get_or, take, length-take, length-drop}
use lib.Seq.{get_or-drop, get_or-take}
use Rattle.nll_spec.specs.Syntax.{Point}
use Rattle.graph.specs.Tables.{row_start, row_end, up_to, successors}

-- The numbers of the list are the entries from the row's start up to its end.
module _ (first succ : List ℕ) (p : Point) where
  abbrev end : ℕ
  end = up_to (row_end first p)

  pub successor_in : (i : ℕ) → i < length (successors first succ p) → row_start first p + i < end
  successor_in i l = omega (arith, l, length-drop (row_start first p) (take end succ), length-take end succ)

  pub successor_at : (i : ℕ) → i < length (successors first succ p) → get_or (successors first succ p) i 0 ≡ get_or succ (row_start first p + i) 0
  successor_at i l = get_or-drop (row_start first p) (take end succ) i 0 ∙ get_or-take end succ (row_start first p + i) 0 (successor_in i l)
