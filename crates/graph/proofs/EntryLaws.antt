-- What the entries of the tables say of the graph. Assumes nothing.
use mathlib.Core.Path.{◌≡◌, sym, ap, ◌∙◌, subst}
use mathlib.Core.Logic.{◌⊎◌, inl, inr}
use mathlib.Core.List.{List, [], ◌∷◌}
use Prim.Native.Nat.{ℕ, zero, suc, ◌+◌, ◌-◌, ◌≤◌, ◌<◌, suc-le-suc}
use native.Mathlib.Nat.{not-suc-le-zero, le_of_suc-le-suc, zero-lt-suc}
use native.Mathlib.Omega.{arith}
use native.Mathlib.Decide.{dec_lt}
use lib.ListN.{length, get_or, take}
use lib.Seq.{length-slice, get_or-drop, get_or-take}
use lib.Dec.{T, eqb, eqb→eq}
use borrow.Author.Tests.{lt-ltb, le-ltb}
use Rattle.nll_spec.specs.Lists.{contains}
use Rattle.nll_spec.specs.Syntax.{Point}
use Rattle.nll_spec.specs.Graph.{Graph, next_of}
use Rattle.nll_spec.specs.Meaning.{Next}
use Rattle.nll_spec.proofs.Tests.{or_cases, contains-here, any-there}
use Rattle.graph.specs.Tables.{row_start, row_end, up_to, Edge, Edges}

-- ---- A number in a list

contains-at : (xs : List ℕ) (n : ℕ) → T (contains xs n) → (k : ℕ) × (k < length xs) × (get_or xs k 0 ≡ n)
contains-at (x ∷ xs) n h = go (or_cases (eqb n x) (contains xs n) h) (λ w. contains-at xs n w)
  where
    go : T (eqb n x) ⊎ T (contains xs n) → (T (contains xs n) → (k : ℕ) × (k < length xs) × (get_or xs k 0 ≡ n)) → (k : ℕ) × (k < suc (length xs)) × (get_or (x ∷ xs) k 0 ≡ n)
    go (inl e) r = (0, zero-lt-suc (length xs), sym (eqb→eq n x e))
    go (inr w) r = let k = r w in (suc k.0, suc-le-suc k.1, k.2)
contains-at [] n h = elim h [ ]

at-contains : (xs : List ℕ) (k : ℕ) → k < length xs → T (contains xs (get_or xs k 0))
at-contains [] k h = absurd (not-suc-le-zero h)
at-contains (x ∷ xs) zero h = contains-here x xs
at-contains (x ∷ xs) (suc k) h = any-there (eqb (get_or xs k 0)) x xs (at-contains xs k (le_of_suc-le-suc h))

-- ---- What follows a point

pub up_to_is : (e : ℕ) → e ≤ 1536 → up_to e ≡ e
up_to_is e l = go (dec_lt e 1536)
  where
    go : Dec (e < 1536) → up_to e ≡ e
    go (yes k) = rw (lt-ltb e 1536 k)
    go (no k) = let q : 1536 ≡ e = omega (arith, k) in rw (le-ltb e 1536 (omega arith)) q

module _ (g : Graph) (first succ : List ℕ) (t : Edges g first succ) where
  pub length-after : (p : Point) → p < g.code → length (next_of g p) ≡ row_end first p - row_start first p
  length-after p l = ap length (sym (t.next p l)) ∙ length-slice (row_start first p) (row_end first p) succ (omega (arith, t.ends p l, t.sized))

  after-at : (p : Point) (k : ℕ) → p < g.code → k < row_end first p - row_start first p → get_or (next_of g p) k 0 ≡ get_or succ (row_start first p + k) 0
  after-at p k l h =
      ap (λ (xs : List ℕ). get_or xs k 0) (sym (t.next p l)) ∙ get_or-drop (row_start first p) (take (row_end first p) succ) k 0
      ∙ get_or-take (row_end first p) succ (row_start first p + k) 0 (omega arith)

  pub edge_next : (p q : Point) → p < g.code → Edge first succ p q → Next g p q
  edge_next p q l e =
      let lo : row_start first p ≤ e.0 = e.1 in
      let hi : e.0 < row_end first p = rw (up_to_is (row_end first p) (t.ends p l)) at e.2 in
      let k : e.0 - row_start first p < row_end first p - row_start first p = omega arith in
      let i : row_start first p + (e.0 - row_start first p) ≡ e.0 = omega arith in
      subst (λ (x : ℕ). T (contains (next_of g p) x)) (after-at p (e.0 - row_start first p) l k ∙ ap (λ (x : ℕ). get_or succ x 0) i ∙ e.3)
      (at-contains (next_of g p) (e.0 - row_start first p) (rw (length-after p l) k))

  pub next_edge : (p q : Point) → p < g.code → Next g p q → Edge first succ p q
  next_edge p q l n =
      let w = contains-at (next_of g p) q n in
      let k : w.0 < row_end first p - row_start first p = rw (length-after p l) at w.1 in
      (row_start first p + w.0, omega arith, rw (up_to_is (row_end first p) (t.ends p l)) (omega arith), sym (after-at p w.0 l k) ∙ w.2)
