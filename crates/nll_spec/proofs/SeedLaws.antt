-- The tables of walked blocks, live variables, declared outlives and seeds hold exactly what specs/Meaning defines.
-- Assumes nothing.
use mathlib.Core.Path.{◌≡◌, refl, sym, ◌∙◌, subst, ap}
use mathlib.Core.Logic.{◌⊎◌, inl, inr}
use mathlib.Core.Bool.{Bool, true, false, ◌&&◌, ◌||◌, not, cond}
use mathlib.Core.List.{List, []}
use Prim.Native.Nat.{ℕ, zero, suc, ◌+◌, ◌-◌, ◌<◌, ◌≤◌}
use native.Mathlib.Omega.{arith}
use native.Mathlib.Decide.{dec_lt}
use lib.ListN.{length, get_or, get_or-eq_default}
use lib.Dec.{T, eqb, eqb→eq, eqb_refl, ltb, ltb→lt, lt→ltb, leb, leb→le, le→leb}
use Rattle.nll_spec.specs.Lists.{any, every, contains, below, below_down}
use Rattle.nll_spec.specs.Fixpoint.{Table, holds}
use Rattle.nll_spec.specs.Syntax.{RegionName, Variable, Point, BlockIndex, Action, Noop, Ty, UnitTy, Job}
use Rattle.nll_spec.specs.Types.{variable_type, regions_of}
use Rattle.nll_spec.specs.WellFormed.{successors_named, outlived_named}
use Rattle.nll_spec.specs.Graph.{graph_of, action_at, next_of, is_walked, block_successors, walked_rule, walked_table}
use Rattle.nll_spec.specs.Liveness.{defs, uses, drops, live_rule, live_table}
use Rattle.nll_spec.specs.Regions.{drop_regions, outlives_rule, outlives_table, has_live, seed_table}
use Rattle.nll_spec.specs.Meaning.{Reached, start, next, Live, now, later, DeclaredOutlives, itself, through, Seed, everywhere, end, used, dropped}
use Rattle.nll_spec.proofs.Tests.{or_left, or_right, or_cases, or_join, and_intro, and_left, and_right, is_true, cond_true, contains-here, contains-below, below-contains, contains-below_down, length-count_from, length-below_down, any_of, any_found}
use Rattle.nll_spec.proofs.Lookup.{holds-tabulate, map-contains, every-at, every-contains}
use Rattle.nll_spec.proofs.Least.{Inside, least-closed, least_ind, held-inside, sized-tabulate}
use Rattle.nll_spec.proofs.GraphLaws.{first_of, actions_in, Place, place_of, next-within, next-at-end, next-is-code, action-is-code, code_in_points, end_in_points, walked_block, walked-point, point-walked, walked-is-code, walked_next}
use Rattle.nll_spec.proofs.AcceptedLaws.{Accepted}

-- ---- Walked blocks

module _ (j : Job) where
  -- from a block's first point its other points are reached
  reached-within : (b : BlockIndex) → b < length j.blocks → Reached j (first_of j b) → (i : ℕ) → i ≤ actions_in j b → Reached j (first_of j b + i)
  reached-within b l r zero h = subst (Reached j) (omega arith) r
  reached-within b l r (suc i) h =
      subst (Reached j) (omega arith)
      (next (reached-within b l r i (omega arith)) (subst (λ (ps : List Point). T (contains ps (suc (first_of j b + i)))) (sym (next-within j b l i h)) (contains-here (suc (first_of j b + i)) [])))

  -- and so are the first points of its successors
  reached_successor : (a b : BlockIndex) → a < length j.blocks → T (contains (block_successors j a) b) → Reached j (first_of j a) → Reached j (first_of j b)
  reached_successor a b l h r =
      next (reached-within a l r (actions_in j a) (omega arith))
      (subst (λ (ps : List Point). T (contains ps (first_of j b))) (sym (next-at-end j a l)) (map-contains (first_of j) (block_successors j a) b h))

  -- a walked block's first point is reached
  walked-first : (row b : ℕ) → T (holds (walked_table j) row b) → Reached j (first_of j b)
  unfolding walked_table
  walked-first = least_ind (walked_rule j) (λ row b. Reached j (first_of j b)) 1 (below (length j.blocks)) keeps
    where
      keeps : (t : Table) → Inside t (λ row b. Reached j (first_of j b)) → (row b : ℕ) → row < 1 → T (contains (below (length j.blocks)) b) → T (walked_rule j t row b) → Reached j (first_of j b)
      keeps t inside row b hr hb h = go (or_cases (eqb b j.start) (any follows (below (length j.blocks))) h)
        where
          follows : BlockIndex → Bool
          follows a = holds t row a && contains (block_successors j a) b

          go : T (eqb b j.start) ⊎ T (any follows (below (length j.blocks))) → Reached j (first_of j b)
          go (inl e) = subst (λ (c : BlockIndex). Reached j (first_of j c)) (sym (eqb→eq b j.start e)) start
          go (inr w) =
              let (a, l, k) = any_found follows (below (length j.blocks)) w in
              reached_successor a b (below-contains (length j.blocks) a l) (and_right (holds t row a) (contains (block_successors j a) b) k)
              (inside row a (and_left (holds t row a) (contains (block_successors j a) b) k))

  -- A point of a walked block is reached.
  pub walked-reached : (p : Point) → T (is_walked (graph_of j) p) → Reached j p
  walked-reached p w =
      subst (Reached j) (sym at.place)
      (reached-within at.block at.is_block (walked-first 0 at.block (point-walked j at.block at.is_block at.index at.is_index p at.place w)) at.index at.is_index)
    where
      at : Place j.blocks 0 p
      at = place_of j p (walked-is-code j p w)

  -- A point that is reached is of a walked block.
  pub reached-walked : T (ltb j.start (length j.blocks)) → T (successors_named j) → (p : Point) → Reached j p → T (is_walked (graph_of j) p)
  reached-walked named valid p start =
      walked-point j j.start l 0 (omega arith) (first_of j j.start) (omega arith)
      (walked_block j j.start l (or_left (eqb j.start j.start) (any (λ a. holds (walked_table j) 0 a && contains (block_successors j a) j.start) (below (length j.blocks))) (eqb_refl j.start)))
    where
      l : j.start < length j.blocks
      l = ltb→lt j.start (length j.blocks) named
  reached-walked named valid q (next {p = p} r e) = walked_next j valid p q (reached-walked named valid p r) e

-- ---- Liveness

module _ (needs : Action → List Variable) (j : Job) where
  abbrev is_needed : Variable → Point → Bool
  is_needed v p = contains (needs (action_at (graph_of j) p)) v

  abbrev is_kept : Variable → Point → Bool
  is_kept v p = not (contains (defs (action_at (graph_of j) p)) v)

  abbrev is_later : Table → Variable → Point → Bool
  is_later t v p = any (holds t v) (next_of (graph_of j) p)

  -- A variable is live where the table holds it.
  pub live_table_lem : (v : Variable) (p : Point) → T (holds (live_table needs j (graph_of j)) v p) → Live (graph_of j) needs v p
  unfolding live_table
  live_table_lem = least_ind (live_rule needs (graph_of j)) (Live (graph_of j) needs) (length j.variables) (below_down (graph_of j).code) keeps
    where
      keeps : (t : Table) → Inside t (Live (graph_of j) needs) → (v p : ℕ) → v < length j.variables → T (contains (below_down (graph_of j).code) p) → T (live_rule needs (graph_of j) t v p) → Live (graph_of j) needs v p
      keeps t inside v p hv hp h = go (or_cases (is_needed v p) (is_kept v p && is_later t v p) h)
        where
          go : T (is_needed v p) ⊎ T (is_kept v p && is_later t v p) → Live (graph_of j) needs v p
          go (inl n) = now n
          go (inr w) =
              let (q, e, k) = any_found (holds t v) (next_of (graph_of j) p) (and_right (is_kept v p) (is_later t v p) w) in
              later (and_left (is_kept v p) (is_later t v p) w) e (inside v q k)

  live_closed : (v : Variable) (p : Point) → v < length j.variables → p < (graph_of j).code
      → T (is_needed v p) ⊎ T (is_kept v p && is_later (live_table needs j (graph_of j)) v p) → T (holds (live_table needs j (graph_of j)) v p)
  unfolding live_table
  live_closed v p hv hp h =
      least-closed (live_rule needs (graph_of j)) (length j.variables) (below_down (graph_of j).code) v p hv (contains-below_down (graph_of j).code p hp) (rw length-below_down hp)
      (or_join (is_needed v p) (is_kept v p && is_later (live_table needs j (graph_of j)) v p) h)

  -- The table holds a variable where it is live, if Noop, which stands outside the code, needs nothing.
  pub table_live : ((v : Variable) → T (contains (needs Noop) v) → ⊥) → (v : Variable) (p : Point) → v < length j.variables → Live (graph_of j) needs v p → T (holds (live_table needs j (graph_of j)) v p)
  table_live none v p hv (now n) = live_closed v p hv (action-is-code j (λ (a : Action). contains (needs a) v) p (none v) n) (inl n)
  table_live none v p hv (later {q = q} k e l) =
      live_closed v p hv (next-is-code j p q e)
      (inr (and_intro (is_kept v p) (is_later (live_table needs j (graph_of j)) v p) k
      (any_of (holds (live_table needs j (graph_of j)) v) (next_of (graph_of j) p) q e (table_live none v q hv l))))

pub table_used : (j : Job) (v : Variable) (p : Point) → v < length j.variables → Live (graph_of j) uses v p → T (holds (live_table uses j (graph_of j)) v p)
unfolding uses
table_used j = table_live uses j (λ v h. h)

pub table_dropped : (j : Job) (v : Variable) (p : Point) → v < length j.variables → Live (graph_of j) drops v p → T (holds (live_table drops j (graph_of j)) v p)
unfolding drops
table_dropped j = table_live drops j (λ v h. h)

-- ---- Declared outlives

module _ (j : Job) where
  -- the table extends a chain at its front, `through` at its back
  outlives_trans : (r m e : RegionName) → DeclaredOutlives j r m → DeclaredOutlives j m e → DeclaredOutlives j r e
  outlives_trans r m e d itself = d
  outlives_trans r m e d (through {m = n} f c) = through (outlives_trans r m n d f) c

  -- A declared region outlives what the table holds.
  pub outlives_table_lem : (r e : RegionName) → T (holds (outlives_table j) r e) → DeclaredOutlives j r e
  unfolding outlives_table
  outlives_table_lem = least_ind (outlives_rule j) (DeclaredOutlives j) (length j.outlives) (below (length j.outlives)) keeps
    where
      keeps : (t : Table) → Inside t (DeclaredOutlives j) → (r e : ℕ) → r < length j.outlives → T (contains (below (length j.outlives)) e) → T (outlives_rule j t r e) → DeclaredOutlives j r e
      keeps t inside r e hr he h = go (or_cases (eqb r e) (any (λ m. holds t m e) (get_or j.outlives r [])) h)
        where
          go : T (eqb r e) ⊎ T (any (λ m. holds t m e) (get_or j.outlives r [])) → DeclaredOutlives j r e
          go (inl q) = subst (DeclaredOutlives j r) (eqb→eq r e q) itself
          go (inr w) = let (m, c, k) = any_found (λ m. holds t m e) (get_or j.outlives r []) w in outlives_trans r m e (through itself c) (inside m e k)

  outlives-closed : (r e : RegionName) → r < length j.outlives → e < length j.outlives → T (outlives_rule j (outlives_table j) r e) → T (holds (outlives_table j) r e)
  unfolding outlives_table
  outlives-closed r e hr he h =
      least-closed (outlives_rule j) (length j.outlives) (below (length j.outlives)) r e hr (contains-below (length j.outlives) e he) (rw length-count_from he) h

  -- only declared regions are given regions that they outlive
  outlives-declared : (r e : RegionName) → T (contains (get_or j.outlives r []) e) → r < length j.outlives
  outlives-declared r e h = go (dec_lt r (length j.outlives))
    where
      go : Dec (r < length j.outlives) → r < length j.outlives
      go (yes l) = l
      go (no l) = absurd (subst (λ (es : List RegionName). T (contains es e)) (get_or-eq_default j.outlives [] (omega arith)) h)

  -- a region outlives what one that it outlives does
  outlives_extended : (r m e : RegionName) → e < length j.outlives → DeclaredOutlives j r m → T (holds (outlives_table j) m e) → T (holds (outlives_table j) r e)
  outlives_extended r m e he itself h = h
  outlives_extended r m e he (through {m = n} d c) h =
      outlives_extended r n e he d
      (outlives-closed n e (outlives-declared n m c) he
      (or_right (eqb n e) (any (λ k. holds (outlives_table j) k e) (get_or j.outlives n [])) (any_of (λ k. holds (outlives_table j) k e) (get_or j.outlives n []) m c h)))

  module _ (valid : T (outlived_named j)) where
    -- what a declared region outlives is declared
    pub outlived_declared : (r e : RegionName) → r < length j.outlives → DeclaredOutlives j r e → e < length j.outlives
    unfolding outlived_named
    outlived_declared r e hr itself = hr
    outlived_declared r e hr (through {m = m} d c) =
        ltb→lt e (length j.outlives)
        (every-contains (λ (x : RegionName). ltb x (length j.outlives)) (get_or j.outlives m []) e
        (every-at (every (λ (x : RegionName). ltb x (length j.outlives))) j.outlives m [] valid (outlives-declared m e c)) c)

    -- The table holds all that a declared region outlives.
    pub table_outlives : (r e : RegionName) → r < length j.outlives → DeclaredOutlives j r e → T (holds (outlives_table j) r e)
    table_outlives r e hr d =
        outlives_extended r e e (outlived_declared r e hr d) d
        (outlives-closed e e (outlived_declared r e hr d) (outlived_declared r e hr d) (or_left (eqb e e) (any (λ m. holds (outlives_table j) m e) (get_or j.outlives e [])) (eqb_refl e)))

-- ---- Seeds

module _ (j : Job) where
  abbrev used_table : Table
  used_table = live_table uses j (graph_of j)

  abbrev dropped_table : Table
  dropped_table = live_table drops j (graph_of j)

  -- region r is in the type of variable v, and in the part of it that a drop needs
  abbrev in_type : RegionName → Variable → Bool
  in_type r v = contains (regions_of (variable_type j v)) r

  abbrev in_drop : RegionName → Variable → Bool
  in_drop r v = contains (drop_regions (variable_type j v) j.structs) r

  abbrev is_declared : RegionName → Bool
  is_declared r = ltb r (length j.outlives)

  abbrev end_seed : RegionName → Point → Bool
  end_seed r p = leb (graph_of j).code p && holds (outlives_table j) r (p - (graph_of j).code)

  abbrev live_seed : RegionName → Point → Bool
  live_seed r p = any (λ v. has_live j used_table dropped_table r p v) (below (length j.variables))

  abbrev seed : RegionName → Point → Bool
  seed r p = cond (is_declared r) (is_walked (graph_of j) p || end_seed r p) (is_walked (graph_of j) p && live_seed r p)

  pub seed_points : (r : RegionName) (p : Point) → T (holds (seed_table j (graph_of j)) r p) → p < (graph_of j).points
  unfolding seed_table
  seed_points r p h = (held-inside (seed_table j (graph_of j)) r p (sized-tabulate j.regions (graph_of j).points (λ r p. seed r p)) h).1

  seed_is : (r : RegionName) (p : Point) → r < j.regions → p < (graph_of j).points → holds (seed_table j (graph_of j)) r p ≡ seed r p
  unfolding seed_table
  seed_is r p hr hp = holds-tabulate j.regions (graph_of j).points (λ r p. seed r p) r p hr hp

  declared_seed_lem : (r : RegionName) (p : Point) → r < length j.outlives → T (is_walked (graph_of j) p || end_seed r p) → Seed j r p
  declared_seed_lem r p hr h = go (or_cases (is_walked (graph_of j) p) (end_seed r p) h)
    where
      go : T (is_walked (graph_of j) p) ⊎ T (end_seed r p) → Seed j r p
      go (inl w) = everywhere hr (walked-reached j p w)
      go (inr w) =
          subst (Seed j r) (omega (arith, leb→le (graph_of j).code p (and_left (leb (graph_of j).code p) (holds (outlives_table j) r (p - (graph_of j).code)) w)))
          (end hr (outlives_table_lem j r (p - (graph_of j).code) (and_right (leb (graph_of j).code p) (holds (outlives_table j) r (p - (graph_of j).code)) w)))

  live_seed_lem : (r : RegionName) (p : Point) → Reached j p → T (live_seed r p) → Seed j r p
  live_seed_lem r p w h =
      let (v, l, k) = any_found (λ v. has_live j used_table dropped_table r p v) (below (length j.variables)) h in
      go v (or_cases (holds used_table v p && in_type r v) (holds dropped_table v p && in_drop r v) k)
    where
      go : (v : Variable) → T (holds used_table v p && in_type r v) ⊎ T (holds dropped_table v p && in_drop r v) → Seed j r p
      go v (inl k) = used w (live_table_lem uses j v p (and_left (holds used_table v p) (in_type r v) k)) (and_right (holds used_table v p) (in_type r v) k)
      go v (inr k) = dropped w (live_table_lem drops j v p (and_left (holds dropped_table v p) (in_drop r v) k)) (and_right (holds dropped_table v p) (in_drop r v) k)

  -- What the table of seeds holds is a seed.
  pub seed_table_lem : (r : RegionName) (p : Point) → r < j.regions → T (holds (seed_table j (graph_of j)) r p) → Seed j r p
  seed_table_lem r p hr h = go (is_declared r) refl (subst T (seed_is r p hr (seed_points r p h)) h)
    where
      go : (b : Bool) → is_declared r ≡ b → T (cond b (is_walked (graph_of j) p || end_seed r p) (is_walked (graph_of j) p && live_seed r p)) → Seed j r p
      go true e w = declared_seed_lem r p (ltb→lt r (length j.outlives) (subst T (sym e) tt)) w
      go false e w = live_seed_lem r p (walked-reached j p (and_left (is_walked (graph_of j) p) (live_seed r p) w)) (and_right (is_walked (graph_of j) p) (live_seed r p) w)

  -- a variable whose type has a region is one of the job: outside there is only Unit
  typed_variable : (f : Ty → List RegionName) → f UnitTy ≡ [] → (v : Variable) (r : RegionName) → T (contains (f (variable_type j v)) r) → v < length j.variables
  typed_variable f e v r h = go (dec_lt v (length j.variables))
    where
      go : Dec (v < length j.variables) → v < length j.variables
      go (yes l) = l
      go (no l) = absurd (subst (λ (rs : List RegionName). T (contains rs r)) (ap f (get_or-eq_default j.variables UnitTy (omega arith)) ∙ e) h)

  module _ (ok : Accepted j) where
    walked_seed : (r : RegionName) (p : Point) → r < j.regions → Reached j p → T (is_declared r) ⊎ T (live_seed r p) → T (holds (seed_table j (graph_of j)) r p)
    walked_seed r p hr w h = subst T (sym (seed_is r p hr (code_in_points j p (walked-is-code j p walked)))) (go (is_declared r) h)
      where
        walked : T (is_walked (graph_of j) p)
        walked = reached-walked j ok.start-named ok.successors-named p w

        go : (b : Bool) → T b ⊎ T (live_seed r p) → T (cond b (is_walked (graph_of j) p || end_seed r p) (is_walked (graph_of j) p && live_seed r p))
        go true h = or_left (is_walked (graph_of j) p) (end_seed r p) walked
        go false (inr k) = and_intro (is_walked (graph_of j) p) (live_seed r p) walked k
        go false (inl x'') = elim x'' [ ]

    end_seed_lem : (r e : RegionName) → r < j.regions → r < length j.outlives → DeclaredOutlives j r e → T (holds (seed_table j (graph_of j)) r ((graph_of j).code + e))
    end_seed_lem r e hr h d =
        subst T (sym (seed_is r p hr (end_in_points j e (outlived_declared j ok.outlived_named_lem r e h d))))
        (cond_true (is_declared r) (is_walked (graph_of j) p || end_seed r p) (is_walked (graph_of j) p && live_seed r p) (is_true (is_declared r) (lt→ltb r (length j.outlives) h))
        (or_right (is_walked (graph_of j) p) (end_seed r p)
        (and_intro (leb (graph_of j).code p) (holds (outlives_table j) r (p - (graph_of j).code)) (le→leb (graph_of j).code p (omega arith))
        (subst (λ (m : RegionName). T (holds (outlives_table j) r m)) (omega arith) (table_outlives j ok.outlived_named_lem r e h d)))))
      where
        p : Point
        p = (graph_of j).code + e

    variable_seed : (r : RegionName) (p : Point) (v : Variable) → r < j.regions → Reached j p → v < length j.variables
        → T (holds used_table v p && in_type r v) ⊎ T (holds dropped_table v p && in_drop r v) → T (holds (seed_table j (graph_of j)) r p)
    variable_seed r p v hr w l h =
        walked_seed r p hr w
        (inr (any_of (λ v. has_live j used_table dropped_table r p v) (below (length j.variables)) v (contains-below (length j.variables) v l)
        (or_join (holds used_table v p && in_type r v) (holds dropped_table v p && in_drop r v) h)))

    -- The table of seeds holds every seed.
    pub table_seed : (r : RegionName) (p : Point) → r < j.regions → Seed j r p → T (holds (seed_table j (graph_of j)) r p)
    unfolding regions_of drop_regions
    table_seed r p hr (everywhere h w) = walked_seed r p hr w (inl (lt→ltb r (length j.outlives) h))
    table_seed r p hr (end {e = e} h d) = end_seed_lem r e hr h d
    table_seed r p hr (used {v = v} w l c) =
        let hv : v < length j.variables = typed_variable regions_of refl v r c in
        variable_seed r p v hr w hv (inl (and_intro (holds used_table v p) (in_type r v) (table_used j v p hv l) c))
    table_seed r p hr (dropped {v = v} w l c) =
        let hv : v < length j.variables = typed_variable (λ t. drop_regions t j.structs) refl v r c in
        variable_seed r p v hr w hv (inr (and_intro (holds dropped_table v p) (in_drop r v) (table_dropped j v p hv l) c))
