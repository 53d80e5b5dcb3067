-- On a path to a use of a holder, the region of the borrow has every point: sets that contain their seeds and meet every constraint put the region of a
-- holder at each point before its use, and the borrow's region outlives those of the holders. `borrow-region`, for either end rule.
-- Assumes nothing.
use mathlib.Core.Path.{◌≡◌, refl, sym, ◌∙◌, subst, ap}
use mathlib.Core.Logic.{◌⊎◌, inl, inr}
use mathlib.Core.Bool.{Bool, true, false, ◌&&◌, ◌||◌, not, cond}
use mathlib.Core.List.{List, [], ◌∷◌}
use Prim.Native.Nat.{ℕ, suc, ◌<◌}
use native.Mathlib.Nat.{not-suc-le-zero}
use native.Mathlib.Omega.{arith}
use native.Mathlib.Decide.{dec_lt}
use lib.ListN.{length, get_or-eq_default}
use lib.Dec.{T, eqb, eqb→eq, ltb, ltb→lt}
use Rattle.nll_spec.specs.Lists.{any, every, contains, Member, here}
use Rattle.nll_spec.specs.Syntax.{BorrowKind, Free, BoundRegion, RegionName, Variable, Point, Path, Job}
use Rattle.nll_spec.specs.Syntax.{Ty, UnitTy, RefTy, StructTy, BoundTy, Co, Contra}
use Rattle.nll_spec.specs.Syntax.{Action, Noop, Init, Borrow, Assign, Constraint, Use, Drop, StorageDead}
use Rattle.nll_spec.specs.Types.{variable_type, path_type, type_after, is_ref, regions_of}
use Rattle.nll_spec.specs.WellFormed.{variables_named, variables_fit, type_named, type_fits, region_fits, same_shape, shape_fits}
use Rattle.nll_spec.specs.Graph.{Graph, graph_of, action_at, next_of}
use Rattle.nll_spec.specs.Liveness.{is_plain, write_use, uses, defs}
use Rattle.nll_spec.specs.Constraints.{Outlives, relate, relate_source, constraints_at}
use Rattle.nll_spec.specs.Regions.{EndRule}
use Rattle.nll_spec.specs.Meaning.{Reached, Live, Seed, Sets, ConstraintOf, Walk, begin, go_on, Solves}
use Rattle.nll_spec.specs.Guarantee.{Holders, only, put, holders_after, is_path, uses_holder}
use Rattle.nll_spec.proofs.Tests.{and_intro, and_left, and_right, contains-here, any_found}
use Rattle.nll_spec.proofs.Lookup.{every-at}
use Rattle.nll_spec.proofs.Members.{member_left}
use Rattle.nll_spec.proofs.GraphLaws.{next-of-action}
use Rattle.nll_spec.proofs.AcceptedLaws.{Accepted}

-- ---- Plain paths

plain_steps : (p : Path) → T (is_plain p) → p.steps ≡ []
plain_steps p h = go p.steps h
  where
    go : (fs : List ℕ) → T (elim fs [ [] ↦ true | f ∷ gs ↦ false ]) → fs ≡ []
    go [] h = refl
    go (_ ∷ _) h = elim h [ ]

plain_type : (j : Job) (p : Path) → T (is_plain p) → path_type j p ≡ variable_type j p.base
unfolding path_type type_after
plain_type j p h = ap (λ (fs : List ℕ). type_after j.structs (variable_type j p.base) fs) (plain_steps p h)

-- ---- Variables that are references

-- what has the shape of a Ref is a Ref
ref_shape : (a b : Ty) → T (same_shape a b) → T (is_ref b) → T (is_ref a)
unfolding same_shape
ref_shape UnitTy (RefTy k r t) h w = absurd h
ref_shape (RefTy k' r' t') (RefTy k r t) h w = tt
ref_shape (StructTy s args) (RefTy k r t) h w = absurd h
ref_shape (BoundTy b) (RefTy k r t) h w = absurd h
ref_shape UnitTy UnitTy h w = elim w [ ]
ref_shape UnitTy (StructTy _ _) h w = elim h [ ]
ref_shape UnitTy (BoundTy _) h w = elim h [ ]
ref_shape (RefTy k' r' t') UnitTy h w = elim h [ ]
ref_shape (RefTy k' r' t') (StructTy _ _) h w = elim h [ ]
ref_shape (RefTy k' r' t') (BoundTy _) h w = elim h [ ]
ref_shape (StructTy s args) UnitTy h w = elim h [ ]
ref_shape (StructTy s args) (StructTy _ _) h w = elim w [ ]
ref_shape (StructTy s args) (BoundTy _) h w = elim h [ ]
ref_shape (BoundTy b) UnitTy h w = elim h [ ]
ref_shape (BoundTy b) (StructTy _ _) h w = elim h [ ]
ref_shape (BoundTy b) (BoundTy _) h w = elim h [ ]

shape_ref : (a b : Ty) → T (same_shape a b) → T (is_ref a) → T (is_ref b)
unfolding same_shape
shape_ref (RefTy k r t) UnitTy h w = absurd h
shape_ref (RefTy k r t) (RefTy k' r' t') h w = tt
shape_ref (RefTy k r t) (StructTy s args) h w = absurd h
shape_ref (RefTy k r t) (BoundTy b) h w = absurd h
shape_ref UnitTy b h w = elim w [ ]
shape_ref (StructTy _ _) b h w = elim w [ ]
shape_ref (BoundTy _) b h w = elim h [ ]

-- a variable whose type is a Ref with a region of the job
pub record RefVariable (j : Job) (v : Variable) : Type 0 where
  pub kind : BorrowKind
  pub region : RegionName
  pub inner : Ty
  pub type : variable_type j v ≡ RefTy kind (Free region) inner
  pub is-region : region < j.regions
  pub is_variable_lem : v < length j.variables

module _ (j : Job) (named : T (variables_named j)) (fits : T (variables_fit j)) where
  pub ref_variable : (v : Variable) → T (is_ref (variable_type j v)) → RefVariable j v
  unfolding type_named type_fits variables_named variables_fit
  ref_variable v h = within (dec_lt v (length j.variables))
    where
      go : v < length j.variables → (t : Ty) → variable_type j v ≡ t → T (is_ref t) → T (type_named j t) → T (type_fits j.structs [] t) → RefVariable j v
      go l (RefTy k (Free r) t) e w n f =
          record { kind = k; region = r; inner = t; type = e; is-region = ltb→lt r j.regions (and_left (ltb r j.regions) (type_named j t) n); is_variable_lem = l }
      go l UnitTy e w n f = elim w [ ]
      go l (StructTy _ _) e w n f = elim w [ ]
      go l (BoundTy _) e w n f = elim w [ ]
      go l (RefTy k (BoundRegion b) t) e w n f = absurd (not-suc-le-zero (ltb→lt b 0 (and_left (ltb b 0) _ (and_left (region_fits [] (BoundRegion b)) (type_fits j.structs [] t) f))))

      within : Dec (v < length j.variables) → RefVariable j v
      within (yes l) = go l (variable_type j v) refl h (every-at (type_named j) j.variables v UnitTy named l) (every-at (type_fits j.structs []) j.variables v UnitTy fits l)
      within (no l) = absurd (subst (λ (t : Ty). T (is_ref t)) (get_or-eq_default j.variables UnitTy (omega arith)) h)

-- ---- The constraints that a borrow and an assignment make

module _ (j : Job) where
  constraint-at : (p : Point) (a : Action) (c : Outlives) → action_at (graph_of j) p ≡ a → Reached j p → Member c (constraints_at j p a) → ConstraintOf j c
  constraint-at p a c e at m = record { at = p; walked = at; made = subst (λ (b : Action). Member c (constraints_at j p b)) (sym e) m }

  -- a borrow's region outlives that of the plain variable that it goes to
  borrow-constraint : (p : Point) (d : Path) (r : RegionName) (k : BorrowKind) (q : Path) (w : Variable) (x : RefVariable j w) → w ≡ d.base → action_at (graph_of j) p ≡ Borrow d r k q → Reached j p → T (is_plain d)
      → ConstraintOf j (record { sup = r; sub = x.region; point = suc p })
  unfolding constraints_at relate
  borrow-constraint p d r k q w x target e at plain =
      constraint-at p (Borrow d r k q) c e at
      (member_left (relate (suc p) j.structs (path_type j d) Contra (RefTy k (Free r) (path_type j q))) (relate_source (suc p) j.structs (Free r) (variable_type j q.base) q.steps)
      (subst (λ (t : Ty). Member c (relate (suc p) j.structs t Contra (RefTy k (Free r) (path_type j q)))) (sym (plain_type j d plain ∙ ap (variable_type j) (sym target) ∙ x.type)) here))
    where
      c : Outlives
      c = record { sup = r; sub = x.region; point = suc p }

  -- the region of an assigned plain variable outlives that of the plain variable that it goes to
  assign_constraint : (p : Point) (d q : Path) (w : Variable) (x : RefVariable j q.base) (y : RefVariable j w) → w ≡ d.base → action_at (graph_of j) p ≡ Assign d q → Reached j p → T (is_plain d) → T (is_plain q)
      → ConstraintOf j (record { sup = x.region; sub = y.region; point = suc p })
  unfolding constraints_at relate
  assign_constraint p d q w x y target e at plain-d plain-q =
      constraint-at p (Assign d q) c e at
      (subst (λ (t : Ty). Member c (relate (suc p) j.structs t Co (path_type j d))) (sym (plain_type j q plain-q ∙ x.type))
      (subst (λ (u : Ty). Member c (relate (suc p) j.structs (RefTy x.kind (Free x.region) x.inner) Co u)) (sym (plain_type j d plain-d ∙ ap (variable_type j) (sym target) ∙ y.type)) here))
    where
      c : Outlives
      c = record { sup = x.region; sub = y.region; point = suc p }

-- ---- Where a holder comes from

-- A variable that holds after an action held before it and was not replaced, or was assigned from one that did.
record Assigned (a : Action) (h : Holders) (w : Variable) : Type 0 where
  to : Path
  from : Path
  is_assign_lem : a ≡ Assign to from
  to_plain : T (is_plain to)
  from_plain : T (is_plain from)
  target : w ≡ to.base
  held : T (h from.base)

Came : Action → Holders → Variable → Type 0
Came a h w = (T (h w) × T (not (contains (defs a) w))) ⊎ Assigned a h w

put_false : (h : Holders) (v w : Variable) → T (put v false h w) → T (h w) × T (not (contains (v ∷ []) w))
put_false h v w t = go (eqb w v) t
  where
    go : (b : Bool) → T (cond b false (h w)) → T (h w) × T (not (b || false))
    go true t = absurd t
    go false t = (t, tt)

came : (a : Action) (h : Holders) (w : Variable) → T (holders_after a h w) → Came a h w
unfolding holders_after defs Came
came Noop h w t = inl (t, tt)
came (Init d qs) h w t = inl (go (is_plain d) t)
  where
    go : (b : Bool) → T ((cond b (put d.base false h) h) w) → T (h w) × T (not (contains (cond b (d.base ∷ []) []) w))
    go true t = put_false h d.base w t
    go false t = (t, tt)
came (Borrow d r k q) h w t = inl (put_false h d.base w t)
came (Assign d q) h w t = go (is_plain d) refl t
  where
    go : (b : Bool) → is_plain d ≡ b → T ((cond b (put d.base (is_plain q && h q.base) h) h) w) → (T (h w) × T (not (contains (cond b (d.base ∷ []) []) w))) ⊎ Assigned (Assign d q) h w
    go true e t = at (eqb w d.base) refl t
      where
        at : (c : Bool) → eqb w d.base ≡ c → T (cond c (is_plain q && h q.base) (h w)) → (T (h w) × T (not (c || false))) ⊎ Assigned (Assign d q) h w
        at true f t =
            inr
            (record {
              to = d;
              from = q;
              is_assign_lem = refl;
              to_plain = subst T (sym e) tt;
              from_plain = and_left (is_plain q) (h q.base) t;
              target = eqb→eq w d.base (subst T (sym f) tt);
              held = and_right (is_plain q) (h q.base) t;
            })
        at false f t = inl (t, tt)
    go false e t = inl (t, tt)
came (Constraint sup sub) h w t = inl (t, tt)
came (Use q) h w t = inl (t, tt)
came (Drop q) h w t = inl (t, tt)
came (StorageDead v) h w t = inl (t, tt)

-- ---- The path

-- a path within a set is walked, once its start is
walk-along : (g : Graph) (inside f : Point → Bool) (from : Point) → ((q : Point) → Walk g inside from q → T (f q)) → (p : Point) (qs : List Point) → Walk g inside from p → T (is_path g p qs) → T (every inside qs) → T (every f qs)
unfolding is_path
walk-along g inside f from reach p [] w path all = tt
walk-along g inside f from reach p (q ∷ qs) w path all =
    let here : Walk g inside from q = go_on w (and_left (contains (next_of g p) q) (is_path g q qs) path) (and_left (inside q) (every inside qs) all) in
    and_intro (f q) (every f qs) (reach q here) (walk-along g inside f from reach q qs here (and_right (contains (next_of g p) q) (is_path g q qs) path) (and_right (inside q) (every inside qs) all))

module _ (ends : EndRule) (j : Job) (ok : Accepted j) (sets : Sets) (solved : Solves ends (graph_of j) j.regions (Seed j) (ConstraintOf j) sets) where
  -- "S outlives T at x": a path from x that T holds, S holds
  outlives-along : (c : Outlives) → ConstraintOf j c → (x : Point) (xs : List Point) → c.point ≡ x → T (is_path (graph_of j) x xs) → T (every (sets c.sub) (x ∷ xs)) → T (every (sets c.sup) (x ∷ xs))
  outlives-along c m x xs at path all =
      and_intro (sets c.sup x) (every (sets c.sup) xs) (reach x start) (walk-along (graph_of j) (sets c.sub) (sets c.sup) c.point reach x xs start path (and_right (sets c.sub x) (every (sets c.sub) xs) all))
    where
      reach : (q : Point) → Walk (graph_of j) (sets c.sub) c.point q → T (sets c.sup q)
      reach = (solved.met c m).points

      start : Walk (graph_of j) (sets c.sub) c.point x
      start = subst (λ (y : Point). Walk (graph_of j) (sets c.sub) c.point y) at (begin (subst (λ (y : Point). T (sets c.sub y)) (sym at) (and_left (sets c.sub x) (every (sets c.sub) xs) all)))

  -- every holder is a reference
  Refs : Holders → Type 0
  Refs h = (v : Variable) → T (h v) → T (is_ref (variable_type j v))

  refs_after : (a : Action) (h : Holders) → T (shape_fits j a) → Refs h → Refs (holders_after a h)
  unfolding Refs Came shape_fits
  refs_after a h shape refs w t = go (came a h w t)
    where
      go : (T (h w) × T (not (contains (defs a) w))) ⊎ Assigned a h w → T (is_ref (variable_type j w))
      go (inl k) = refs w k.0
      go (inr m) =
          subst (λ (v : Variable). T (is_ref (variable_type j v))) (sym m.target)
          (shape_ref (variable_type j m.from.base) (variable_type j m.to.base)
          (subst (λ (u : Ty). T (same_shape (variable_type j m.from.base) u)) (plain_type j m.to m.to_plain)
          (subst (λ (u : Ty). T (same_shape u (path_type j m.to))) (plain_type j m.from m.from_plain)
          (subst (λ (b : Action). T (shape_fits j b)) m.is_assign_lem shape)))
          (refs m.from.base m.held))

  -- the region of a reference that is live at a reached point has the point
  region_live : (v : Variable) (x : RefVariable j v) (q : Point) → Reached j q → Live (graph_of j) uses v q → T (sets x.region q)
  unfolding regions_of
  region_live v x q at live =
      solved.seeded x.region q x.is-region
      (Seed.used at live (subst (λ (t : Ty). T (contains (regions_of t) x.region)) (sym x.type) (contains-here x.region (regions_of x.inner))))

  -- A path from p to a use of a holder: one of the holders that p leaves is live at its first point q, and its region has the whole path.
  record Held (h : Holders) (q : Point) (qs : List Point) : Type 0 where
    holder : Variable
    held : T (h holder)
    ref : RefVariable j holder
    live : Live (graph_of j) uses holder q
    all : T (every (sets ref.region) (q ∷ qs))

  held_use : (h : Holders) (q : Point) → Refs h → Reached j q → T (any h (uses (action_at (graph_of j) q))) → Held h q []
  unfolding Refs
  held_use h q refs at used =
      record {
        holder = found.0;
        held = found.2;
        ref = x;
        live = live;
        all = and_intro (sets x.region q) true (region_live found.0 x q at live) tt;
      }
    where
      found : (v : Variable) × T (contains (uses (action_at (graph_of j) q)) v) × T (h v)
      found = any_found h (uses (action_at (graph_of j) q)) used

      x : RefVariable j found.0
      x = ref_variable j ok.variables-named ok.variables-fit found.0 (refs found.0 found.2)

      live : Live (graph_of j) uses found.0 q
      live = Live.now found.1

  held-before : (h : Holders) (q r : Point) (rs : List Point) → Refs h → Reached j q → T (contains (next_of (graph_of j) q) r) → T (is_path (graph_of j) r rs) → Held (holders_after (action_at (graph_of j) q) h) r rs → Held h q (r ∷ rs)
  unfolding Refs Came uses
  held-before h q r rs refs at next path m = go (came (action_at (graph_of j) q) h m.holder m.held)
    where
      go : (T (h m.holder) × T (not (contains (defs (action_at (graph_of j) q)) m.holder))) ⊎ Assigned (action_at (graph_of j) q) h m.holder → Held h q (r ∷ rs)
      go (inl k) =
          record {
            holder = m.holder;
            held = k.0;
            ref = m.ref;
            live = live;
            all = and_intro (sets m.ref.region q) (every (sets m.ref.region) (r ∷ rs)) (region_live m.holder m.ref q at live) m.all;
          }
        where
          live : Live (graph_of j) uses m.holder q
          live = Live.later k.1 next m.live
      go (inr s) =
          record {
            holder = s.from.base;
            held = s.held;
            ref = x;
            live = live;
            all = and_intro (sets x.region q) (every (sets x.region) (r ∷ rs)) (region_live s.from.base x q at live) rest;
          }
        where
          x : RefVariable j s.from.base
          x = ref_variable j ok.variables-named ok.variables-fit s.from.base (refs s.from.base s.held)

          live : Live (graph_of j) uses s.from.base q
          live = Live.now (subst (λ (a : Action). T (contains (uses a) s.from.base)) (sym s.is_assign_lem) (contains-here s.from.base (write_use s.to)))

          no_noop : action_at (graph_of j) q ≡ Noop → ⊥
          no_noop e = let z : ◌≡◌ {A = ℕ} 0 1 = cc s.is_assign_lem in omega arith

          rest : T (every (sets x.region) (r ∷ rs))
          rest =
              outlives-along (record { sup = x.region; sub = m.ref.region; point = suc q })
              (assign_constraint j q s.to s.from m.holder x m.ref s.target s.is_assign_lem at s.to_plain s.from_plain) r rs (sym (next-of-action j q r no_noop next)) path m.all

  held-path : (h : Holders) (q : Point) (qs : List Point) → Refs h → Reached j q → T (is_path (graph_of j) q qs) → T (uses_holder (graph_of j) h (q ∷ qs)) → Held h q qs
  unfolding is_path uses_holder
  held-path h q [] refs at path used = held_use h q refs at used
  held-path h q (r ∷ rs) refs at path used =
      let next : T (contains (next_of (graph_of j) q) r) = and_left (contains (next_of (graph_of j) q) r) (is_path (graph_of j) r rs) path in
      let rest : T (is_path (graph_of j) r rs) = and_right (contains (next_of (graph_of j) q) r) (is_path (graph_of j) r rs) path in
      held-before h q r rs refs at next rest
      (held-path (holders_after (action_at (graph_of j) q) h) r rs (refs_after (action_at (graph_of j) q) h (ok.shapes q) refs) (Reached.next at next) rest used)

  -- From a borrow into a plain variable to a use of a holder: the borrow's region has the whole path.
  pub borrow-region : (p : Point) (d : Path) (r : RegionName) (k : BorrowKind) (q : Path) → action_at (graph_of j) p ≡ Borrow d r k q → Reached j p → T (is_plain d)
      → (qs : List Point) → T (is_path (graph_of j) p qs) → T (uses_holder (graph_of j) (only d.base) qs) → T (every (sets r) qs)
  unfolding Refs shape_fits is_path
  borrow-region p d r k q e at plain [] path used = tt
  borrow-region p d r k q e at plain (x ∷ xs) path used =
      outlives-along (record { sup = r; sub = m.ref.region; point = suc p }) (borrow-constraint j p d r k q m.holder m.ref (eqb→eq m.holder d.base m.held) e at plain) x xs
      (sym (next-of-action j p x no_noop next)) rest m.all
    where
      next : T (contains (next_of (graph_of j) p) x)
      next = and_left (contains (next_of (graph_of j) p) x) (is_path (graph_of j) x xs) path

      rest : T (is_path (graph_of j) x xs)
      rest = and_right (contains (next_of (graph_of j) p) x) (is_path (graph_of j) x xs) path

      is_ref_lem : T (is_ref (variable_type j d.base))
      is_ref_lem =
          ref_shape (variable_type j d.base) (RefTy k (Free r) (path_type j q))
          (subst (λ (u : Ty). T (same_shape u (RefTy k (Free r) (path_type j q)))) (plain_type j d plain) (subst (λ (a : Action). T (shape_fits j a)) e (ok.shapes p))) tt

      m : Held (only d.base) x xs
      m = held-path (only d.base) x xs (λ v w. subst (λ (u : Variable). T (is_ref (variable_type j u))) (sym (eqb→eq v d.base w)) is_ref_lem) (Reached.next at next) rest used

      no_noop : action_at (graph_of j) p ≡ Noop → ⊥
      no_noop f = let z : ◌≡◌ {A = ℕ} 0 1 = cc in omega arith
