-- The search over tables that say a graph goes as the graph's walks do. Assumes nothing.
use mathlib.Core.Path.{◌≡◌, refl, ◌∙◌}
use mathlib.Core.Bool.{Bool, true, false}
use mathlib.Core.List.{List, [], ◌∷◌}
use Prim.Native.Nat.{ℕ, ◌*◌, ◌<◌}
use native.Mathlib.Omega.{arith}
use lib.ListN.{length}
use lib.Dec.{T, ltb, ltb→lt, lt→ltb}
use borrow.Author.Tests.{lt-ltb}
use Rattle.std.proofs.lemmas.Float.{T_from_true}
use Rattle.nll_spec.specs.Syntax.{Point}
use Rattle.nll_spec.specs.Graph.{Graph, next_of}
use Rattle.nll_spec.specs.Regions.{is_exit}
use Rattle.nll_spec.specs.Meaning.{Walk, begin, go_on}
use Rattle.nll_spec.proofs.Tests.{and_intro, and_left, and_right, is_true}
use Rattle.bit_set.specs.Bits.{has}
use Rattle.graph.specs.Tables.{Edges, Edge}
use Rattle.graph.proofs.EntryLaws.{length-after, edge_next, next_edge}
use Rattle.dfs.specs.Walk.{in_code, Reach, here, step, Leaf}
use Rattle.infer.specs.Ran.{Setting, sets_of, bit_at, Given}
use Rattle.infer.specs.declared.Setup.{Setup}
use Rattle.dfs.proofs.SearchLaws.{reach_held, code_below}
use Rattle.infer.proofs.RanLaws.{has-sets, sets-has}

-- ---- Points that nothing follows

exit_nil : (l : List ℕ) → T (elim l [ [] ↦ true | q ∷ qs ↦ false ]) → length l ≡ 0
exit_nil [] h = refl
exit_nil (_ ∷ _) h = elim h [ ]

nil_exit : (l : List ℕ) → length l ≡ 0 → T (elim l [ [] ↦ true | q ∷ qs ↦ false ])
nil_exit [] e = tt
nil_exit (x ∷ l) e = absurd (omega arith)

module _ (g : Graph) (first succ : List ℕ) (t : Edges g first succ) where
  pub leaf_exit : (p : Point) → p < g.code → Leaf first p → T (is_exit g p)
  leaf_exit p l h = and_intro (ltb p g.code) _ (lt→ltb p g.code l) (nil_exit (next_of g p) (length-after g first succ t p l ∙ omega arith))

  pub exit_leaf : (p : Point) → T (is_exit g p) → Leaf first p
  exit_leaf p h =
      let l : p < g.code = ltb→lt p g.code (and_left (ltb p g.code) (elim (next_of g p) [ [] ↦ true | q ∷ qs ↦ false ]) h) in
      let e : length (next_of g p) ≡ 0 = exit_nil (next_of g p) (and_right (ltb p g.code) (elim (next_of g p) [ [] ↦ true | q ∷ qs ↦ false ]) h) in
      omega (arith, length-after g first succ t p l, t.starts p l)

-- ---- Walks

module _ (s : Setting) (g : Setup) (ws grew : List ℕ) (given : Given s g ws grew) (r p : ℕ) where
  abbrev h : ℕ → Bool
  h = in_code ws (r * s.width) g.shape.code

  abbrev Reached : ℕ → Type 0
  Reached = Reach (Edge g.graph.now.first g.graph.now.succ) h p

  held_in : (x : Point) → h x ≡ true → T (sets_of s ws r x)
  held_in x e =
      let l : x < g.shape.code = code_below ws (r * s.width) g.shape.code x e in
      has-sets s ws r x (omega (arith, given.code, given.edges.ordered)) (is_true _ (and_right (ltb x g.shape.code) (has ws (bit_at s.width r x)) (T_from_true _ e)))

  in_held : (x : Point) → x < s.graph.code → T (sets_of s ws r x) → h x ≡ true
  in_held x l i = rw (lt-ltb x g.shape.code (omega (arith, l, given.code))) (sets-has s ws r x i)

  pub reach_below : {x : Point} → Reached x → x < s.graph.code
  reach_below {x} w = omega (arith, given.code, code_below ws _ g.shape.code x (reach_held w))

  pub reach_walk : {x : Point} → Reached x → Walk s.graph (sets_of s ws r) p x
  reach_walk (here e) = begin (held_in p e)
  reach_walk (step {q = q} {s = y} w e k) =
      go_on (reach_walk w) (edge_next s.graph g.graph.now.first g.graph.now.succ given.edges q y (reach_below w) e) (held_in y k)

  pub walk_reach : {x : Point} → p < s.graph.code → Walk s.graph (sets_of s ws r) p x → Reached x
  walk_reach l (begin i) = here (in_held p l i)
  walk_reach l (go_on {p = q} {q = y} w n i) =
      let u = walk_reach l w in
      step u (next_edge s.graph g.graph.now.first g.graph.now.succ given.edges q y (reach_below u) n) (in_held y (given.edges.inside q y (reach_below u) n) i)
