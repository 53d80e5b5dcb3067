-- The regions' sets: the computed table contains its seeds, meets every constraint and is the least that does, `table_least`; under `held_ends` the sets lie
-- within those under `every_end`.
-- Assumes nothing.
use mathlib.Core.Path.{◌≡◌, sym, subst, refl, ap}
use mathlib.Core.Logic.{◌⊎◌, inl, inr, ◌↔◌}
use mathlib.Core.Bool.{Bool, ◌&&◌, ◌||◌, cond}
use mathlib.Core.List.{List}
use Prim.Native.Nat.{ℕ, ◌+◌, ◌-◌, ◌<◌, ◌≤◌}
use native.Mathlib.Omega.{arith}
use lib.ListN.{length, get_or}
use lib.Dec.{T, eqb, eqb_refl, ltb, leb, ltb→lt, le→leb, eqb→eq, leb→le}
use borrow.Author.Tests.{lt-ltb, le-ltb}
use Rattle.nll_spec.specs.Lists.{any, any_from, contains, below, Member}
use Rattle.nll_spec.specs.Fixpoint.{Table, Rule, holds, least}
use Rattle.nll_spec.specs.Syntax.{Job, Point, RegionName}
use Rattle.nll_spec.specs.Graph.{Graph, graph_of, action_at, preds_of}
use Rattle.nll_spec.specs.Constraints.{Outlives, constraints_at, constraints_of}
use Rattle.nll_spec.specs.Regions.{EndRule, passes_end, seed_table, region_rule, adds, visits, no_constraint, is_exit, solve, every_end, held_ends}
use Rattle.nll_spec.specs.WellFormed.{successors_named}
use Rattle.nll_spec.specs.Meaning.{Sets, ConstraintOf, Walk, begin, go_on, Meets, LeastSolution}
use Rattle.nll_spec.proofs.Names.{sets_of}
use Rattle.nll_spec.proofs.Tests.{cond_true, cond_false, and_intro, and_left, and_right, or_left, or_right, contains-below, length-count_from, any_of, below-contains, or_cases, any_found}
use Rattle.nll_spec.proofs.Lookup.{holds-take, any_from-at, any_from-found}
use Rattle.nll_spec.proofs.Least.{least-closed, held-inside, least_ind, sized-least}
use Rattle.nll_spec.proofs.SeedLaws.{seed_points}
use Rattle.nll_spec.proofs.WalkedLaws.{walked_member, member_walked}
use Rattle.nll_spec.proofs.GraphLaws.{next→preds, preds→next, next_in_code}
use Rattle.nll_spec.proofs.Members.{member_place, place_member, every_member}
use Rattle.nll_spec.proofs.AcceptedLaws.{Accepted}
use Rattle.nll_spec.proofs.TypeLaws.{is_named, constraints_good}
use Rattle.nll_spec.proofs.MonotoneLaws.{Looser, looser_same, looser_every, rule_mono}

-- ---- The sets

module _ (ends : EndRule) (j : Job) where
  -- the regions' sets, and below them the points that each constraint's walk visits
  abbrev pub full_table : Table
  full_table =
      least (j.regions + length (constraints_of j (graph_of j))) (below (graph_of j).points)
      (region_rule ends (graph_of j) j.regions (seed_table j (graph_of j)) (constraints_of j (graph_of j)))

  pub sets_full : (r : RegionName) (q : Point) → r < j.regions → holds (sets_of ends j) r q ≡ holds full_table r q
  unfolding solve
  sets_full r q h = holds-take j.regions full_table r q h

  rule : Rule
  rule = region_rule ends (graph_of j) j.regions (seed_table j (graph_of j)) (constraints_of j (graph_of j))

  full_closed : (row q : ℕ) → row < j.regions + length (constraints_of j (graph_of j)) → q < (graph_of j).points → T (rule full_table row q) → T (holds full_table row q)
  unfolding rule
  full_closed row q hr hq h =
      least-closed rule (j.regions + length (constraints_of j (graph_of j))) (below (graph_of j).points) row q hr
      (contains-below (graph_of j).points q hq) (rw length-count_from hq) h

  -- what constraint number i, which is x, adds
  adds_to : ℕ → RegionName → ℕ → Outlives → Bool
  adds_to q r i x = eqb x.sup r && adds ends (graph_of j) j.regions full_table q i x

  -- a region's row of the rule
  region-row : (r q : ℕ) → r < j.regions → T (holds (seed_table j (graph_of j)) r q || any_from 0 (adds_to q r) (constraints_of j (graph_of j))) → T (rule full_table r q)
  unfolding rule adds_to
  region-row r q h w = cond_true (ltb r j.regions) _ _ (lt-ltb r j.regions h) w

  -- a region's set contains its seed
  pub seed_in : (r : RegionName) (q : Point) → r < j.regions → q < (graph_of j).points → T (holds (seed_table j (graph_of j)) r q) → T (holds full_table r q)
  seed_in r q hr hq h =
      full_closed r q (omega arith) hq
      (region-row r q hr
      (or_left (holds (seed_table j (graph_of j)) r q)
      (any_from 0 (adds_to q r) (constraints_of j (graph_of j))) h))

  module _ (k : ℕ) (c : Outlives) (hk : k < length (constraints_of j (graph_of j))) (ek : get_or (constraints_of j (graph_of j)) k no_constraint ≡ c) where
    -- what a constraint's walk visits is in its outer region
    pub visited_in : (q : Point) → c.sup < j.regions → q < (graph_of j).points → T (holds full_table (j.regions + k) q) → T (holds full_table c.sup q)
    unfolding adds_to
    visited_in q hs hq h =
        full_closed c.sup q (omega arith) hq
        (region-row c.sup q hs
        (or_right (holds (seed_table j (graph_of j)) c.sup q) (any_from 0 (adds_to q c.sup) (constraints_of j (graph_of j)))
        (any_from-at no_constraint (adds_to q c.sup) 0 (constraints_of j (graph_of j)) k hk (subst (λ (x : Outlives). T (adds_to q c.sup (0 + k) x)) (sym ek) here))))
      where
        here : T (adds_to q c.sup (0 + k) c)
        here =
            and_intro (eqb c.sup c.sup) (adds ends (graph_of j) j.regions full_table q (0 + k) c) (eqb_refl c.sup)
            (or_left (holds full_table (j.regions + (0 + k)) q) _ (subst (λ (i : ℕ). T (holds full_table (j.regions + i) q)) (omega arith) h))

    -- and where it visits a point without successors, so is each end that the end rule passes on
    pub passed_in : (p e : Point) → c.sup < j.regions → (graph_of j).code ≤ e → e < (graph_of j).points → T (is_exit (graph_of j) p)
        → T (holds full_table (j.regions + k) p) → T (passes_end ends (holds full_table c.sub e)) → T (holds full_table c.sup e)
    unfolding adds_to
    passed_in p e hs he hp exit visited passes =
        full_closed c.sup e (omega arith) hp
        (region-row c.sup e hs
        (or_right (holds (seed_table j (graph_of j)) c.sup e) (any_from 0 (adds_to e c.sup) (constraints_of j (graph_of j)))
        (any_from-at no_constraint (adds_to e c.sup) 0 (constraints_of j (graph_of j)) k hk (subst (λ (x : Outlives). T (adds_to e c.sup (0 + k) x)) (sym ek) here))))
      where
        hpc : p < (graph_of j).code
        hpc = ltb→lt p (graph_of j).code (and_left (ltb p (graph_of j).code) _ exit)

        exits : ℕ → Point → Bool
        exits i q = is_exit (graph_of j) q && holds full_table (j.regions + i) q

        test : ℕ → Bool
        test i = leb (graph_of j).code e && passes_end ends (holds full_table c.sub e) && any (exits i) (below (graph_of j).code)

        ended : T (test k)
        ended =
            and_intro (leb (graph_of j).code e && passes_end ends (holds full_table c.sub e)) (any (exits k) (below (graph_of j).code))
            (and_intro (leb (graph_of j).code e) (passes_end ends (holds full_table c.sub e)) (le→leb (graph_of j).code e he) passes)
            (any_of (exits k) (below (graph_of j).code) p (contains-below (graph_of j).code p hpc) (and_intro (is_exit (graph_of j) p) (holds full_table (j.regions + k) p) exit visited))

        here : T (adds_to e c.sup (0 + k) c)
        here =
            and_intro (eqb c.sup c.sup) (adds ends (graph_of j) j.regions full_table e (0 + k) c) (eqb_refl c.sup)
            (or_right (holds full_table (j.regions + (0 + k)) e) (test (0 + k)) (subst (λ (i : ℕ). T (test i)) (omega arith) ended))

    -- the walk visits a point that its inner region holds, if it starts there or has visited one before it
    pub visit : (q : Point) → q < (graph_of j).points → T (holds full_table c.sub q)
        → T (eqb q c.point || any (holds full_table (j.regions + k)) (preds_of (graph_of j) q)) → T (holds full_table (j.regions + k) q)
    unfolding rule
    visit q hq inner from =
        full_closed (j.regions + k) q (omega arith) hq
        (cond_false (ltb (j.regions + k) j.regions) _ _ (le-ltb (j.regions + k) j.regions (omega arith))
        (subst (λ (i : ℕ). T (visits (graph_of j) j.regions full_table q i (get_or (constraints_of j (graph_of j)) i no_constraint))) same
        (subst (λ (x : Outlives). T (visits (graph_of j) j.regions full_table q k x)) (sym ek)
        (and_intro (holds full_table c.sub q) (eqb q c.point || any (holds full_table (j.regions + k)) (preds_of (graph_of j) q)) inner from))))
      where
        same : k ≡ j.regions + k - j.regions
        same = omega arith

-- ---- Under the looser end rule the sets are larger

module _ (j : Job) (e e' : EndRule) (loose : Looser e e') where
  full_within : (r q : ℕ) → T (holds (full_table e j) r q) → T (holds (full_table e' j) r q)
  full_within =
      least_ind (region_rule e (graph_of j) j.regions (seed_table j (graph_of j)) (constraints_of j (graph_of j))) (λ r q. T (holds (full_table e' j) r q))
      (j.regions + length (constraints_of j (graph_of j))) (below (graph_of j).points)
      (λ t inside r q hr hq h.
      least-closed (region_rule e' (graph_of j) j.regions (seed_table j (graph_of j)) (constraints_of j (graph_of j))) (j.regions + length (constraints_of j (graph_of j))) (below (graph_of j).points) r q hr hq
      (rw length-count_from (below-contains (graph_of j).points q hq))
      (rule_mono (graph_of j) j.regions (seed_table j (graph_of j)) (constraints_of j (graph_of j)) e e' loose t (full_table e' j) inside r q h))

-- Region sets under `held_ends` lie within those under `every_end`.
pub held-within-every : (j : Job) (r : RegionName) (q : Point) → r < j.regions → T (holds (sets_of held_ends j) r q) → T (holds (sets_of every_end j) r q)
held-within-every j r q hr h =
    subst T (sym (sets_full every_end j r q hr)) (full_within j held_ends every_end (looser_every held_ends) r q (subst T (sets_full held_ends j r q hr) h))

-- ---- The sets meet every constraint

module _ (ends : EndRule) (j : Job) (valid : T (successors_named j)) where
  full_points : (r q : ℕ) → T (holds (full_table ends j) r q) → q < (graph_of j).points
  full_points r q h = subst (λ (n : ℕ). q < n) (length-count_from 0 (graph_of j).points) (held-inside (full_table ends j) r q (sized-least _ _ (below (graph_of j).points)) h).1

  module _ (c : Outlives) (isin : (k : ℕ) × (k < length (constraints_of j (graph_of j))) × (get_or (constraints_of j (graph_of j)) k no_constraint ≡ c)) (hs : c.sup < j.regions) (hb : c.sub < j.regions) where
    visited : (q : Point) → Walk (graph_of j) (holds (sets_of ends j) c.sub) c.point q → T (holds (full_table ends j) (j.regions + isin.0) q)
    unfolding successors_named
    visited q (begin h) =
        visit ends j isin.0 c isin.1 isin.2 c.point (full_points c.sub c.point (subst T (sets_full ends j c.sub c.point hb) h)) (subst T (sets_full ends j c.sub c.point hb) h)
        (or_left (eqb c.point c.point) (any (holds (full_table ends j) (j.regions + isin.0)) (preds_of (graph_of j) c.point)) (eqb_refl c.point))
    visited q (go_on {p = p} w next h) =
        visit ends j isin.0 c isin.1 isin.2 q (full_points c.sub q (subst T (sets_full ends j c.sub q hb) h)) (subst T (sets_full ends j c.sub q hb) h)
        (or_right (eqb q c.point) (any (holds (full_table ends j) (j.regions + isin.0)) (preds_of (graph_of j) q))
        (any_of (holds (full_table ends j) (j.regions + isin.0)) (preds_of (graph_of j) q) p (next→preds j p q next (next_in_code j valid p q next)) (visited p w)))

    pub sets_meet : Meets ends (graph_of j) (holds (sets_of ends j)) c
    sets_meet =
        record {
          points = λ q w. subst T (sym (sets_full ends j c.sup q hs)) (visited_in ends j isin.0 c isin.1 isin.2 q hs (full_points (j.regions + isin.0) q (visited q w)) (visited q w));
          passed = λ q e w exit he hp pass. subst T (sym (sets_full ends j c.sup e hs))
              (passed_in ends j isin.0 c isin.1 isin.2 q e hs he hp exit (visited q w) (subst (λ (b : Bool). T (passes_end ends b)) (sets_full ends j c.sub e hb) pass));
        }

-- ---- The sets are the least that contain the seeds and meet every constraint

module _ (ends : EndRule) (j : Job) (regions-named : (k : ℕ) → k < length (constraints_of j (graph_of j)) → (get_or (constraints_of j (graph_of j)) k no_constraint).sub < j.regions) where
  module _ (u : Sets) (seeded : (r : RegionName) (q : Point) → r < j.regions → T (holds (seed_table j (graph_of j)) r q) → T (u r q))
      (met : (k : ℕ) → k < length (constraints_of j (graph_of j)) → Meets ends (graph_of j) u (get_or (constraints_of j (graph_of j)) k no_constraint)) where
    abbrev constraint : ℕ → Outlives
    constraint k = get_or (constraints_of j (graph_of j)) k no_constraint

    -- a region's bit is in u, and a point of a constraint's walk is reached by one through u
    Bounded : ℕ → ℕ → Type 0
    Bounded row q =
        (row < j.regions → T (u row q))
        × ((k : ℕ) → row ≡ j.regions + k → k < length (constraints_of j (graph_of j)) → Walk (graph_of j) (u (constraint k).sub) (constraint k).point q)

    bounded_row : (t : Table) → ((r c : ℕ) → T (holds t r c) → Bounded r c) → (row q : ℕ) → row < j.regions → q < (graph_of j).points
        → T (holds (seed_table j (graph_of j)) row q || any_from 0 (λ k c. eqb c.sup row && adds ends (graph_of j) j.regions t q k c) (constraints_of j (graph_of j)))
        → T (u row q)
    unfolding Bounded
    bounded_row t inside row q hr hq h = go (or_cases (holds (seed_table j (graph_of j)) row q) (any_from 0 test (constraints_of j (graph_of j))) h)
      where
        test : ℕ → Outlives → Bool
        test k c = eqb c.sup row && adds ends (graph_of j) j.regions t q k c

        go : T (holds (seed_table j (graph_of j)) row q) ⊎ T (any_from 0 test (constraints_of j (graph_of j))) → T (u row q)
        go (inl s) = seeded row q hr s
        go (inr a) = by (any_from-found no_constraint test 0 (constraints_of j (graph_of j)) a)
          where
            by : (k : ℕ) × (k < length (constraints_of j (graph_of j))) × T (test (0 + k) (get_or (constraints_of j (graph_of j)) k no_constraint)) → T (u row q)
            by (k, l, w) =
                subst (λ (r : RegionName). T (u r q)) (eqb→eq (constraint k).sup row (and_left (eqb (constraint k).sup row) (added (0 + k)) w))
                (from (or_cases (holds t (j.regions + k) q) (ended k) (subst (λ (i : ℕ). T (added i)) (omega arith) (and_right (eqb (constraint k).sup row) (added (0 + k)) w))))
              where
                exits : ℕ → Point → Bool
                exits i p = is_exit (graph_of j) p && holds t (j.regions + i) p

                ended : ℕ → Bool
                ended i = leb (graph_of j).code q && passes_end ends (holds t (constraint k).sub q) && any (exits i) (below (graph_of j).code)

                added : ℕ → Bool
                added i = holds t (j.regions + i) q || ended i

                walked : (p : Point) → T (holds t (j.regions + k) p) → Walk (graph_of j) (u (constraint k).sub) (constraint k).point p
                walked p v = (inside (j.regions + k) p v).1 k refl l

                from : T (holds t (j.regions + k) q) ⊎ T (ended k) → T (u (constraint k).sup q)
                from (inl v) = (met k l).points q (walked q v)
                from (inr v) =
                    (met k l).passed exit.0 q (walked exit.0 (and_right (is_exit (graph_of j) exit.0) (holds t (j.regions + k) exit.0) exit.2))
                    (and_left (is_exit (graph_of j) exit.0) (holds t (j.regions + k) exit.0) exit.2)
                    (leb→le (graph_of j).code q (and_left (leb (graph_of j).code q) (passes_end ends (holds t (constraint k).sub q)) front)) hq
                    (looser_same ends (holds t (constraint k).sub q) (u (constraint k).sub q) (λ i. (inside (constraint k).sub q i).0 (regions-named k l))
                    (and_right (leb (graph_of j).code q) (passes_end ends (holds t (constraint k).sub q)) front))
                  where
                    front : T (leb (graph_of j).code q && passes_end ends (holds t (constraint k).sub q))
                    front = and_left (leb (graph_of j).code q && passes_end ends (holds t (constraint k).sub q)) (any (exits k) (below (graph_of j).code)) v

                    exit : (p : Point) × T (contains (below (graph_of j).code) p) × T (exits k p)
                    exit = any_found (exits k) (below (graph_of j).code) (and_right (leb (graph_of j).code q && passes_end ends (holds t (constraint k).sub q)) (any (exits k) (below (graph_of j).code)) v)

    bounded_walk : (t : Table) → ((r c : ℕ) → T (holds t r c) → Bounded r c) → (k q : ℕ) → k < length (constraints_of j (graph_of j))
        → T (visits (graph_of j) j.regions t q k (constraint k)) → Walk (graph_of j) (u (constraint k).sub) (constraint k).point q
    unfolding Bounded
    bounded_walk t inside k q l h = go (or_cases (eqb q (constraint k).point) (any (holds t (j.regions + k)) (preds_of (graph_of j) q)) (and_right (holds t (constraint k).sub q) _ h))
      where
        held : T (u (constraint k).sub q)
        held = (inside (constraint k).sub q (and_left (holds t (constraint k).sub q) (eqb q (constraint k).point || any (holds t (j.regions + k)) (preds_of (graph_of j) q)) h)).0 (regions-named k l)

        go : T (eqb q (constraint k).point) ⊎ T (any (holds t (j.regions + k)) (preds_of (graph_of j) q)) → Walk (graph_of j) (u (constraint k).sub) (constraint k).point q
        go (inl e) = subst (λ (x : Point). Walk (graph_of j) (u (constraint k).sub) (constraint k).point x) (sym at) (begin (subst (λ (x : Point). T (u (constraint k).sub x)) at held))
          where
            at : q ≡ (constraint k).point
            at = eqb→eq q (constraint k).point e
        go (inr a) = go_on ((inside (j.regions + k) p.0 p.2).1 k refl l) (preds→next j p.0 q p.1) held
          where
            p : (x : Point) × T (contains (preds_of (graph_of j) q) x) × T (holds t (j.regions + k) x)
            p = any_found (holds t (j.regions + k)) (preds_of (graph_of j) q) a

    bounded : (r q : ℕ) → T (holds (full_table ends j) r q) → Bounded r q
    unfolding Bounded
    bounded =
        least_ind (region_rule ends (graph_of j) j.regions (seed_table j (graph_of j)) (constraints_of j (graph_of j))) Bounded
        (j.regions + length (constraints_of j (graph_of j))) (below (graph_of j).points) keeps
      where
        keeps : (t : Table) → ((r c : ℕ) → T (holds t r c) → Bounded r c) → (row q : ℕ) → row < j.regions + length (constraints_of j (graph_of j)) → T (contains (below (graph_of j).points) q)
            → T (region_rule ends (graph_of j) j.regions (seed_table j (graph_of j)) (constraints_of j (graph_of j)) t row q) → Bounded row q
        keeps t inside row q hr hq h = (below_row, walk-row)
          where
            inner : Bool
            inner = holds (seed_table j (graph_of j)) row q || any_from 0 (λ k c. eqb c.sup row && adds ends (graph_of j) j.regions t q k c) (constraints_of j (graph_of j))

            outer : Bool
            outer = visits (graph_of j) j.regions t q (row - j.regions) (constraint (row - j.regions))

            below_row : row < j.regions → T (u row q)
            below_row l = bounded_row t inside row q l (below-contains (graph_of j).points q hq) (subst (λ (b : Bool). T (cond b inner outer)) (lt-ltb row j.regions l) h)

            walk-row : (k : ℕ) → row ≡ j.regions + k → k < length (constraints_of j (graph_of j)) → Walk (graph_of j) (u (constraint k).sub) (constraint k).point q
            walk-row k e l =
                bounded_walk t inside k q l
                (subst (λ (i : ℕ). T (visits (graph_of j) j.regions t q i (constraint i))) same
                (subst (λ (b : Bool). T (cond b inner outer)) (le-ltb row j.regions (omega arith)) h))
              where
                same : row - j.regions ≡ k
                same = omega arith

    pub sets-least : (r : RegionName) (q : Point) → r < j.regions → T (holds (sets_of ends j) r q) → T (u r q)
    unfolding Bounded
    sets-least r q hr h = (bounded r q (subst T (sets_full ends j r q hr) h)).0 hr

-- ---- In an accepted job

module _ (ends : EndRule) (j : Job) (ok : Accepted j) where
  pub both_named : (c : Outlives) → Member c (constraints_of j (graph_of j)) → (c.sup < j.regions) × (c.sub < j.regions)
  both_named c m = (ltb→lt c.sup j.regions (and_left (ltb c.sup j.regions) (ltb c.sub j.regions) t), ltb→lt c.sub j.regions (and_right (ltb c.sup j.regions) (ltb c.sub j.regions) t))
    where
      t : T (is_named j c)
      t = every_member (is_named j) (constraints_of j (graph_of j)) (constraints_good j ok) m

  -- The table's sets are the least that contain the table's seeds and meet every constraint.
  pub table_least : LeastSolution ends (graph_of j) j.regions (λ r q. T (holds (seed_table j (graph_of j)) r q)) (λ c. Member c (constraints_of j (graph_of j))) (holds (sets_of ends j))
  table_least =
      record {
        solves = record {
          seeded = λ r q hr h. subst T (sym (sets_full ends j r q hr)) (seed_in ends j r q hr (seed_points j r q h) h);
          met = λ c m. sets_meet ends j ok.successors-named c (member_place no_constraint m) (both_named c m).0 (both_named c m).1;
        };
        smallest = λ others s.
            sets-least ends j (λ k l. (both_named (get_or (constraints_of j (graph_of j)) k no_constraint) (place_member no_constraint (constraints_of j (graph_of j)) k l)).1) others s.seeded
            (λ k l. s.met (get_or (constraints_of j (graph_of j)) k no_constraint) (place_member no_constraint (constraints_of j (graph_of j)) k l));
      }

-- ---- Other seeds, constraints and sets that say the same

module _ (ends : EndRule) (g : Graph) (n : ℕ) (cs cs' : Outlives → Type 0) (named : (c : Outlives) → cs c → (c.sup < n) × (c.sub < n)) where
  -- sets that agree on the first n regions meet the same constraints
  meets-same : (sets others : Sets) → ((r : RegionName) → r < n → sets r ≡ others r) → (c : Outlives) → cs c → Meets ends g sets c → Meets ends g others c
  meets-same sets others same c m met =
      record {
        points = λ q w. there c.sup q (named c m).0 (met.points q (back q w));
        passed = λ q e w exit he hp pass.
            there c.sup e (named c m).0 (met.passed q e (back q w) exit he hp (subst (λ (b : Bool). T (passes_end ends b)) (sym (at c.sub e (named c m).1)) pass));
      }
    where
      at : (r : RegionName) (q : Point) → r < n → sets r q ≡ others r q
      at r q h = ap (λ (s : Point → Bool). s q) (same r h)

      there : (r : RegionName) (q : Point) → r < n → T (sets r q) → T (others r q)
      there r q h t = subst T (at r q h) t

      back : (q : Point) → Walk g (others c.sub) c.point q → Walk g (sets c.sub) c.point q
      back q w = subst (λ (s : Point → Bool). Walk g s c.point q) (sym (same c.sub (named c m).1)) w

  pub least-same : (seed seed' : RegionName → Point → Type 0) (sets others : Sets) → ((r : RegionName) (q : Point) → r < n → seed r q ↔ seed' r q) → ((c : Outlives) → cs c ↔ cs' c)
      → ((r : RegionName) → r < n → sets r ≡ others r) → LeastSolution ends g n seed cs sets → LeastSolution ends g n seed' cs' others
  least-same seed seed' sets others seeds constraints same least =
      record {
        solves = record {
          seeded = λ r q hr h. subst (λ (s : Point → Bool). T (s q)) (same r hr) (least.solves.seeded r q hr ((seeds r q hr).1 h));
          met = λ c m. meets-same sets others same c ((constraints c).1 m) (least.solves.met c ((constraints c).1 m));
        };
        smallest = λ u s r q hr h.
            least.smallest u (record { seeded = λ r' q' hr' h'. s.seeded r' q' hr' ((seeds r' q' hr').0 h'); met = λ c m. s.met c ((constraints c).0 m) }) r q hr
            (subst (λ (x : Point → Bool). T (x q)) (sym (same r hr)) h);
      }

-- ---- The constraints of a job are those that the actions of walked blocks make

module _ (j : Job) where
  abbrev made : Point → List Outlives
  made p = constraints_at j p (action_at (graph_of j) p)

  pub constraint-of : (c : Outlives) → Member c (constraints_of j (graph_of j)) → ConstraintOf j c
  unfolding constraints_of
  constraint-of c m = let (p, at, m') = walked_member j made m in record { at = p; walked = at; made = m' }

  pub of-constraint : Accepted j → (c : Outlives) → ConstraintOf j c → Member c (constraints_of j (graph_of j))
  unfolding constraints_of
  of-constraint ok c m = member_walked j made ok m.at m.walked m.made
