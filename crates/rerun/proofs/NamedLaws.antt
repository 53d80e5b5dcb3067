-- The constraints of an accepted job name its regions and points of its blocks: `all_named`. Assumes nothing.
use mathlib.Core.Path.{◌≡◌, refl, sym, ap, ◌∙◌, subst}
use mathlib.Core.Logic.{◌⊎◌, inl, inr, ⊎_elim}
use mathlib.Core.Bool.{Bool, true, false, ◌&&◌, cond}
use mathlib.Core.List.{List, [], ◌∷◌, ◌++◌, map, tail}
use Prim.Native.Nat.{ℕ, zero, suc, ◌+◌, ◌-◌, ◌<◌}
use native.Mathlib.Omega.{arith}
use native.Mathlib.Decide.{dec_lt}
use lib.ListN.{length, get_or, get_or-append}
use lib.Seq.{get_or-append-add}
use lib.Dec.{T, eqb, eqb→eq, eqb_refl}
use Rattle.nll_spec.specs.Lists.{every, contains, below, select, Member}
use Rattle.nll_spec.specs.Syntax.{Job, Point, FieldName, BlockIndex, Block, Variance, Co, Contra, In, Region, Free, BoundRegion}
use Rattle.nll_spec.specs.Syntax.{Ty, UnitTy, RefTy, StructTy, BoundTy, Args, NoArgs, RegionArg, TypeArg, Param, StructDecl}
use Rattle.nll_spec.specs.Syntax.{Action, Noop, Init, Borrow, Assign, Constraint, Use, Drop, StorageDead}
use Rattle.nll_spec.specs.Types.{struct_of, variable_type, path_type, step, never_stops, is_shared, is_ref, ref_region, referent, struct_args, head_region, head_type, tail_args}
use Rattle.nll_spec.specs.Graph.{graph_of, Statement, statement_at, statements_of, statements_from, block_statements, first_point, action_at, next_of, is_walked}
use Rattle.nll_spec.specs.Constraints.{Outlives, invert, within, referent_variance, head_variance, require_outlives, relate_regions, relate, relate_args, relate_source, constraints_at, constraints_of}
use Rattle.nll_spec.specs.WellFormed.{refusal}
use Rattle.nll_spec.specs.Regions.{EndRule}
use Rattle.nll_spec.proofs.Tests.{and_intro, contains-here, contains-below}
use Rattle.nll_spec.proofs.Lookup.{every_append, contains-select, select-contains}
use Rattle.nll_spec.proofs.Members.{every_member, member_gather, gather_member}
use Rattle.nll_spec.proofs.GraphLaws.{next_in_code, walked-is-code}
use Rattle.nll_spec.proofs.AcceptedLaws.{Accepted, accepted-job}
use Rattle.nll_spec.proofs.RegionLaws.{both_named}
use Rattle.infer.specs.Ran.{AllNamed}
use Rattle.infer.proofs.RanLaws.{no_member}
use Rattle.rerun.specs.Rerun.{setting_of, constraints_below}

-- ---- After an action comes the next point

abbrev NextPoint : Statement → Point → Type 0
NextPoint n p = (n.action ≡ Noop) ⊎ (n.next ≡ suc p ∷ [])

module _ (b : BlockIndex) (after : List Point) where
  length-block : (p : Point) (acts : List Action) → length (block_statements b after p acts) ≡ suc (length acts)
  unfolding block_statements
  length-block p [] = refl
  length-block p (a ∷ rest) = ap suc (length-block (suc p) rest)

  block-next : (p : Point) (acts : List Action) (k : ℕ) → NextPoint (statement_at (block_statements b after p acts) k) (p + k)
  unfolding block_statements
  block-next p [] zero = inl refl
  block-next p [] (suc k) = inl refl
  block-next p (a ∷ rest) zero = inr (ap (λ (q : Point). suc q ∷ []) (omega arith))
  block-next p (a ∷ rest) (suc k) = subst (NextPoint (statement_at (block_statements b after (suc p) rest) k)) (omega arith) (block-next (suc p) rest k)

statements-next : (all : List Block) (b : BlockIndex) (p : Point) (ds : List Block) (k : ℕ) → NextPoint (statement_at (statements_from all b p ds) k) (p + k)
unfolding statements_from
statements-next all b p [] k = inl refl
statements-next all b p (d ∷ ds) k = go (dec_lt k (length first)) (statements-next all (suc b) (p + suc (length d.actions)) ds (k - length first))
  where
    none : Statement
    none = record { block = 0; action = Noop; next = [] }

    first : List Statement
    first = block_statements b (map (first_point all 0) d.successors) p d.actions

    others : List Statement
    others = statements_from all (suc b) (p + suc (length d.actions)) ds

    size : length first ≡ suc (length d.actions)
    size = length-block b (map (first_point all 0) d.successors) p d.actions

    go : Dec (k < length first) → NextPoint (statement_at others (k - length first)) (p + suc (length d.actions) + (k - length first)) → NextPoint (statement_at (first ++ others) k) (p + k)
    go (yes l) more =
        subst (λ (n : Statement). NextPoint n (p + k)) (sym (get_or-append first others none k l))
        (block-next b (map (first_point all 0) d.successors) p d.actions k)
    go (no l) more =
        let e : length first + (k - length first) ≡ k = omega (arith, l) in
        let q : p + suc (length d.actions) + (k - length first) ≡ p + k = omega (arith, l, size) in
        subst (λ (n : Statement). NextPoint n (p + k)) (sym (ap (λ (i : ℕ). get_or (first ++ others) i none) (sym e) ∙ get_or-append-add first others (k - length first) none))
        (subst (NextPoint (get_or others (k - length first) none)) q more)

next-point : (j : Job) → Accepted j → (p : Point) → (action_at (graph_of j) p ≡ Noop → ⊥) → suc p < (graph_of j).code
unfolding graph_of statements_of
next-point j ok p act = ⊎_elim (λ e. absurd (act e)) (λ e. go e) (statements-next j.blocks 0 0 j.blocks p)
  where
    go : next_of (graph_of j) p ≡ suc (0 + p) ∷ [] → suc p < (graph_of j).code
    go e = next_in_code j ok.successors-named p (suc p) (subst (λ (ps : List Point). T (contains ps (suc p))) (sym (e ∙ ap (λ (q : Point). suc q ∷ []) (omega arith))) (contains-here (suc p) []))

-- ---- The point of a constraint

module _ (at : Point) where
  is_here : Outlives → Bool
  is_here c = eqb c.point at

  outlives-here : (a b : Region) → T (every is_here (require_outlives at a b))
  unfolding is_here
  outlives-here (Free x) (Free y) = and_intro (eqb at at) true (eqb_refl at) tt
  outlives-here (Free x) (BoundRegion b) = tt
  outlives-here (BoundRegion a) b = tt

  regions-here : (v : Variance) (a b : Region) → T (every is_here (relate_regions at v a b))
  regions-here Co a b = outlives-here b a
  regions-here Contra a b = outlives-here a b
  regions-here In a b = every_append is_here (require_outlives at a b) (require_outlives at b a) (outlives-here a b) (outlives-here b a)

  module _ (ss : List StructDecl) where
    mutual
      unfolding relate

      relate-here : (t : Ty) (v : Variance) (u : Ty) → T (every is_here (relate at ss t v u))
      relate-here UnitTy v u = tt
      relate-here (RefTy k r t) v u =
          every_append is_here (relate_regions at (invert v) r (ref_region u)) (relate at ss t (within v (referent_variance k)) (referent u))
          (regions-here (invert v) r (ref_region u)) (relate-here t (within v (referent_variance k)) (referent u))
      relate-here (StructTy s given) v u = args-here given v (struct_of ss s).params (struct_args u)
      relate-here (BoundTy b) v u = tt

      args-here : (g : Args) (v : Variance) (ds : List Param) (us : Args) → T (every is_here (relate_args at ss g v ds us))
      args-here NoArgs v ds us = tt
      args-here (RegionArg r rest) v ds us =
          every_append is_here (relate_regions at (within v (head_variance ds)) r (head_region us)) (relate_args at ss rest v (tail ds) (tail_args us))
          (regions-here (within v (head_variance ds)) r (head_region us)) (args-here rest v (tail ds) (tail_args us))
      args-here (TypeArg t rest) v ds us =
          every_append is_here (relate at ss t (within v (head_variance ds)) (head_type us)) (relate_args at ss rest v (tail ds) (tail_args us))
          (relate-here t (within v (head_variance ds)) (head_type us)) (args-here rest v (tail ds) (tail_args us))

    source-here : (r : Region) (t : Ty) (fs : List FieldName) → T (every is_here (relate_source at ss r t fs))
    unfolding relate_source
    source-here r t [] = tt
    source-here r t (f ∷ fs) =
        every_append is_here (cond (is_ref t && never_stops ss is_shared (step ss t f) fs) (require_outlives at (ref_region t) r) []) (relate_source at ss r (step ss t f) fs)
        (go (is_ref t && never_stops ss is_shared (step ss t f) fs)) (source-here r (step ss t f) fs)
      where
        go : (b : Bool) → T (every is_here (cond b (require_outlives at (ref_region t) r) []))
        go true = outlives-here (ref_region t) r
        go false = tt

-- it is that of an action of the blocks
point_in : (j : Job) → Accepted j → (p : Point) → p < (graph_of j).code → (a : Action) → action_at (graph_of j) p ≡ a → {c : Outlives} → Member c (constraints_at j p a) → c.point < (graph_of j).code
unfolding constraints_at is_here
point_in j ok p l Noop e m = absurd (no_member m)
point_in j ok p l (Init d qs) e m = absurd (no_member m)
point_in j ok p l (Borrow d r k q) e {c} m =
    subst (λ (x : Point). x < (graph_of j).code)
    (sym (eqb→eq c.point (suc p)
    (every_member (is_here (suc p)) _
    (every_append (is_here (suc p)) (relate (suc p) j.structs (path_type j d) Contra (RefTy k (Free r) (path_type j q))) (relate_source (suc p) j.structs (Free r) (variable_type j q.base) q.steps)
    (relate-here (suc p) j.structs (path_type j d) Contra (RefTy k (Free r) (path_type j q))) (source-here (suc p) j.structs (Free r) (variable_type j q.base) q.steps)) m)))
    (next-point j ok p (λ n. other (sym e ∙ n)))
  where
    is_borrow : Action → Bool
    is_borrow a = elim a [ Noop ↦ false | Init d qs ↦ false | Borrow d r k q ↦ true | Assign d q ↦ false | Constraint x y ↦ false | Use q ↦ false | Drop q ↦ false | StorageDead v ↦ false ]

    other : Borrow d r k q ≡ Noop → ⊥
    other n = subst (λ (a : Action). T (is_borrow a)) n tt
point_in j ok p l (Assign d q) e {c} m =
    subst (λ (x : Point). x < (graph_of j).code)
    (sym (eqb→eq c.point (suc p) (every_member (is_here (suc p)) _ (relate-here (suc p) j.structs (path_type j q) Co (path_type j d)) m)))
    (next-point j ok p (λ n. other (sym e ∙ n)))
  where
    is_assign : Action → Bool
    is_assign a = elim a [ Noop ↦ false | Init d qs ↦ false | Borrow d r k q ↦ false | Assign d q ↦ true | Constraint x y ↦ false | Use q ↦ false | Drop q ↦ false | StorageDead v ↦ false ]

    other : Assign d q ≡ Noop → ⊥
    other n = subst (λ (a : Action). T (is_assign a)) n tt
point_in j ok p l (Constraint sup sub) e {c} m =
    subst (λ (x : Point). x < (graph_of j).code) (sym (eqb→eq c.point p (every_member (is_here p) (record { sup = sup; sub = sub; point = p } ∷ []) (and_intro (eqb p p) true (eqb_refl p) tt) m))) l
point_in j ok p l (Use q) e m = absurd (no_member m)
point_in j ok p l (Drop q) e m = absurd (no_member m)
point_in j ok p l (StorageDead v) e m = absurd (no_member m)

-- ---- The constraints of points are the job's

own_at : (j : Job) (p : Point) → T (is_walked (graph_of j) p) → {c : Outlives} → Member c (constraints_at j p (action_at (graph_of j) p)) → Member c (constraints_of j (graph_of j))
unfolding constraints_of
own_at j p w m =
    member_gather (λ (q : Point). constraints_at j q (action_at (graph_of j) q)) (select (is_walked (graph_of j)) (below (graph_of j).code)) p
    (contains-select (is_walked (graph_of j)) (below (graph_of j).code) p (contains-below (graph_of j).code p (walked-is-code j p w)) w) m

pub own_below : (j : Job) (n : ℕ) (c : Outlives) → Member c (constraints_below j n) → Member c (constraints_of j (graph_of j))
own_below j n c m =
    let (p, at, m') = gather_member (λ (p : Point). constraints_at j p (action_at (graph_of j) p)) (select (is_walked (graph_of j)) (below n)) m in
    own_at j p (select-contains (is_walked (graph_of j)) (below n) p at).1 m'

-- ---- The names of a constraint

module _ (ends : EndRule) (j : Job) (accepted : refusal j ≡ 0) where
  pub all_named : AllNamed (setting_of ends j) (constraints_of j (graph_of j))
  unfolding constraints_of
  all_named c m =
      let ok = accepted-job j accepted in
      let (p, at, m') = gather_member (λ (p : Point). constraints_at j p (action_at (graph_of j) p)) (select (is_walked (graph_of j)) (below (graph_of j).code)) m in
      let w = select-contains (is_walked (graph_of j)) (below (graph_of j).code) p at in
      let (a, b) = both_named ends j ok c m in
      record { sup = a; sub = b; point = point_in j ok p (walked-is-code j p w.1) (action_at (graph_of j) p) refl m' }

  pub named-below : (n : ℕ) → AllNamed (setting_of ends j) (constraints_below j n)
  named-below n c m = all_named c (own_below j n c m)
