-- Rounds of a job's constraints from its seeds end, and then the words say the least sets, and the marks which regions grew. Assumes nothing.
use mathlib.Core.Path.{◌≡◌, refl, sym, ap, ◌∙◌, subst}
use mathlib.Core.Logic.{◌⊎◌, inl, inr, ⊎_elim}
use mathlib.Core.Bool.{Bool, true, false, ◌&&◌, not, cond, true≢false}
use mathlib.Core.List.{List}
use Prim.Native.Nat.{ℕ, zero, suc, ◌+◌, ◌-◌, ◌*◌, ◌^◌, ◌≤◌, ◌<◌, min}
use native.Mathlib.Nat.{mul-le-mul_right, suc-mul}
use native.Mathlib.Omega.{arith}
use native.Mathlib.Decide.{dec_lt}
use lib.ListN.{length, get_or, take, drop, length-take, length-drop, length-replicate, get_or-eq_default}
use lib.Seq.{get_or-take, get_or-drop}
use lib.Dec.{T, T_not, not_T}
use Rattle.std.proofs.lemmas.Bool.{false_from_ne_true}
use Rattle.std.proofs.lemmas.Float.{T_from_true}
use Rattle.nll_spec.specs.Lists.{any, below, Member}
use Rattle.nll_spec.specs.Fixpoint.{holds}
use Rattle.nll_spec.specs.Syntax.{Job, Point, RegionName}
use Rattle.nll_spec.specs.Decode.{point_count}
use Rattle.nll_spec.specs.Graph.{graph_of}
use Rattle.nll_spec.specs.Constraints.{Outlives, constraints_of}
use Rattle.nll_spec.specs.Regions.{EndRule, seed_table, is_grown}
use Rattle.nll_spec.specs.Output.{word_bits, word_count, words_needed, bit}
use Rattle.nll_spec.specs.Meaning.{LeastSolution}
use Rattle.nll_spec.proofs.Tests.{and_intro, and_left, and_right, is_true, is_false, any_of, any_found, contains-below}
use Rattle.nll_spec.proofs.Least.{same_bool, held-inside, sized-tabulate}
use Rattle.nll_spec.proofs.AcceptedLaws.{accepted-job}
use Rattle.nll_spec.proofs.SeedLaws.{seed_points}
use Rattle.nll_spec.proofs.OutputLaws.{points-of, sized-sets}
use Rattle.nll_spec.proofs.RegionLaws.{table_least}
use Rattle.bit_set.specs.Bits.{has}
use Rattle.bit_set.specs.Missing.{falses, missing}
use Rattle.bit_set.proofs.BitLaws.{words_ext, has_out, has-zeros}
use Rattle.bit_set.proofs.RowLaws.{run_has}
use Rattle.bit_set.proofs.MissingLaws.{missing_lt}
use Rattle.constraint_list.specs.Listed.{count_in, first_in}
use Rattle.constraint_list.proofs.ListLaws.{first-none}
use Rattle.infer.specs.Search.{rule_of, Linked}
use Rattle.infer.specs.Ran.{Setting, bit_at, sets_of as sets_in, Words, Marked, AllReady, Ran, Rounds, Quiet, Given, AllNamed, any_marked}
use Rattle.infer.specs.declared.Setup.{Setup}
use Rattle.infer.proofs.RanLaws.{no_member, sets-has, sets_below, has-sets, first_ready, next_ready, quiet_none, quiet_same, found-mark, rounds_none, rounds_more, rounds_unused, solved}
use Rattle.rerun.specs.Rerun.{setting_of, no_marks, Known, Own, OwnKept}
use Rattle.rerun.proofs.NamedLaws.{all_named}
use Rattle.absent_regions.specs.Absent.{Marks}
use Rattle.absent_regions.proofs.MarkLaws.{all_regions, has-all}
use Rattle.regionck.specs.Rounds.{RoundRuns, Tells, Seeded, least_sets, Solved}

missed : (a b : List ℕ) → ((k : ℕ) → has a k ≡ true → has b k ≡ true) → (k : ℕ) → has b k ≡ false → has a k ≡ false
missed a b kept k e = false_from_ne_true (has a k) (λ q. true≢false (sym (kept k q) ∙ e))

-- ---- The marks of the regions that grew

-- Since the words were ws₀, the regions of the set grew, and no other did.
pub record Told (e : Setting) (ws₀ ws marks : List ℕ) : Type 0 where
  pub marked : (r : RegionName) (q : Point) → T (sets_in e ws r q) → T (sets_in e ws₀ r q) ⊎ Marked marks r
  pub earned : (r : RegionName) → Marked marks r → (q : Point) × (q < e.graph.points) × (has ws₀ (bit_at e.width r q) ≡ false) × (has ws (bit_at e.width r q) ≡ true)

module _ (e : Setting) where
  told_none : (ws : List ℕ) → Told e ws ws no_marks
  told_none ws = record { marked = λ r q h. inl h; earned = λ r m. absurd (true≢false (sym m ∙ has-zeros 4 r)) }

  told_more : {ws₀ ws ws' last grew marks marks' : List ℕ} {cs : List Outlives} → Rounds e cs ws₀ ws → Told e ws₀ ws marks → Ran e last cs ws no_marks ws' grew → Marks marks grew marks'
      → Told e ws₀ ws' marks'
  told_more {ws₀} {ws} {ws'} {last} {grew} {marks} {marks'} rounds told ran both =
      record {
        marked = λ r q h. ⊎_elim (λ k. ⊎_elim (λ i. inl i) (λ i. inr (both.all r (inl i))) (told.marked r q k)) (λ k. inr (both.all r (inr k))) (ran.marked r q h);
        earned = λ r m. earned r (both.only r m).1;
      }
    where
      earned : (r : RegionName) → Marked marks r ⊎ Marked grew r → (q : Point) × (q < e.graph.points) × (has ws₀ (bit_at e.width r q) ≡ false) × (has ws' (bit_at e.width r q) ≡ true)
      earned r (inl m) = let (q, lq, a, b) = told.earned r m in (q, lq, a, ran.kept (bit_at e.width r q) b)
      earned r (inr m) =
          ⊎_elim (λ k. absurd (true≢false (sym k ∙ has-zeros 4 r))) (λ k. (k.0, k.1, missed ws₀ ws rounds.kept (bit_at e.width r k.0) k.2, k.3)) (ran.earned r m)

-- ---- How many rounds there are

falses-most : (f : ℕ → Bool) (n : ℕ) → falses f n ≤ n
unfolding falses
falses-most f zero = omega arith
falses-most f (suc n) = go (f n) (falses-most f n)
  where
    go : (b : Bool) → falses f n ≤ n → cond b (falses f n) (suc (falses f n)) ≤ suc n
    go true h = omega arith
    go false h = omega arith

missing-most : (ws : List ℕ) → missing ws ≤ word_bits * length ws
unfolding missing
missing-most ws = falses-most (has ws) (word_bits * length ws)

-- the bits of the first n words
take-has : (n : ℕ) (ws : List ℕ) (k : ℕ) → k < word_bits * n → has (take n ws) k ≡ has ws k
take-has n ws k l = run_has ws 0 n k l ∙ ap (has ws) (omega arith)

module _ (n : ℕ) (a b : List ℕ) (el : length b ≡ length a) (kept : (k : ℕ) → has a k ≡ true → has b k ≡ true) where
  length-first : length (take n b) ≡ length (take n a)
  length-first = length-take n b ∙ ap (min n) el ∙ sym (length-take n a)

  kept-first : (k : ℕ) → has (take n a) k ≡ true → has (take n b) k ≡ true
  kept-first k h = go (dec_lt k (word_bits * n))
    where
      go : Dec (k < word_bits * n) → has (take n b) k ≡ true
      go (yes l) = take-has n b k l ∙ kept k (sym (take-has n a k l) ∙ h)
      go (no l) = absurd (true≢false (sym h ∙ has_out (take n a) k (rw length-take (omega (arith, l, min_le n (length a))))))
        where
          min_le : (x y : ℕ) → min x y ≤ x
          min_le x y = omega arith

  missing-first : (k : ℕ) → k < word_bits * n → has a k ≡ false → has b k ≡ true → missing (take n b) < missing (take n a)
  missing-first k l ea eb = missing_lt (take n a) (take n b) length-first kept-first k (take-has n a k l ∙ ea) (take-has n b k l ∙ eb)

-- a round that marks a region leaves fewer 0 bits in the regions' words
module _ (e : Setting) (wide : e.graph.points ≤ word_bits * e.width) where
  abbrev own : ℕ
  own = e.regions * e.width

  -- a bit that a run sets is in a region's words
  own-bit : {last ws grew ws' grew' : List ℕ} {cs : List Outlives} → Ran e last cs ws grew ws' grew' → (k : ℕ) → has ws k ≡ false → has ws' k ≡ true → k < word_bits * own
  own-bit {ws = ws} {ws' = ws'} ran k ea eb = go (dec_lt k (word_bits * own))
    where
      go : Dec (k < word_bits * own) → k < word_bits * own
      go (yes l) = l
      go (no l) =
          absurd (true≢false (sym eb ∙ ran.others k (λ r q lr lq w. absurd (omega (arith, l, w, mul-le-mul_right e.width lr, suc-mul r e.width))) ∙ ea))

  round_less : {last ws ws' grew : List ℕ} {cs : List Outlives} → Ran e last cs ws no_marks ws' grew → any_marked grew 128 ≡ true → missing (take own ws') < missing (take own ws)
  round_less {ws = ws} {ws' = ws'} {grew = grew} ran m =
      let (r, l, k) = found-mark grew 128 m in
      ⊎_elim (λ z. absurd (true≢false (sym z ∙ has-zeros 4 r)))
      (λ z. missing-first own ws ws' ran.as_long ran.kept (bit_at e.width r z.0) (own-bit ran (bit_at e.width r z.0) z.2 z.3) z.2 z.3)
      (ran.earned r k)

-- ---- Rounds of a job's constraints

-- Some rounds were run. `last` has the marks of the last one, and fewer than `left` bits of the regions are 0.
pub record Going (ends : EndRule) (j : Job) (ws₀ ws last marks : List ℕ) (left : ℕ) : Type 0 where
  pub rounds : Rounds (setting_of ends j) (constraints_of j (graph_of j)) ws₀ ws
  pub ready : AllReady (setting_of ends j) last ws no_marks (constraints_of j (graph_of j))
  pub told : Told (setting_of ends j) ws₀ ws marks
  pub less : missing (take (j.regions * word_count (point_count j)) ws) < left

module _ (g : Setup) (ws₀ : List ℕ) where
  -- so for every job that is handed in
  pub record GoingOn (ws last marks : List ℕ) (left : ℕ) : Type 0 where
    pub going : (j : Job) → Seeded g.graph.now g.shape ws₀ j → Linked g → Going (rule_of g.rule) j ws₀ ws last marks left

  module _ (j : Job) (x : Seeded g.graph.now g.shape ws₀ j) (chained : Linked g) where
    abbrev ends : EndRule
    ends = rule_of g.rule

    abbrev e : Setting
    e = setting_of ends j

    abbrev cs : List Outlives
    cs = constraints_of j (graph_of j)

    known : Known g.graph.now g.shape.code j
    known = record { layout = x.layout; accepted = x.accepted; reached = x.reached; points = x.code }

    points : (graph_of j).points ≡ point_count j
    points = points-of j

    rows : length (seed_table j (graph_of j)) ≡ j.regions
    unfolding seed_table
    rows = (sized-tabulate j.regions (graph_of j).points _).rows

    few-regions : j.regions ≤ 128
    few-regions = omega (arith, x.layout.regions, x.layout.region_limit)

    wide : (graph_of j).points ≤ word_bits * word_count (point_count j)
    wide = omega (arith, points)

    narrow : word_count (point_count j) ≤ 32
    narrow = omega (arith, points, x.edges.few)

    given : (ws : List ℕ) → length ws ≡ length ws₀ → Given e g ws no_marks
    given ws el =
        record {
          edges = x.edges;
          code = x.code;
          points = x.points ∙ sym points;
          width = x.width;
          linked = chained;
          ends = refl;
          wide = wide;
          narrow = narrow;
          few = few-regions;
          room = omega (arith, el, subst (λ (n : ℕ). n * word_count (point_count j) ≤ length ws₀) rows x.seeds.room);
          marks = length-replicate {A = ℕ} 4 0;
        }

    -- the seeds, as the table has them
    seed_has : (r : RegionName) (q : Point) → r < j.regions → q < (graph_of j).points → has ws₀ (bit_at e.width r q) ≡ holds (seed_table j (graph_of j)) r q
    seed_has r q l lq = x.seeds.bits r q (omega (arith, rows)) (omega (arith, wide))

    named : AllNamed e cs
    named = all_named ends j x.accepted

    start : Going ends j ws₀ ws₀ all_regions no_marks 131073
    start =
        record {
          rounds = rounds_none e cs ws₀;
          ready = first_ready e all_regions ws₀ no_marks cs (λ r l. has-all r (omega (arith, l, few-regions))) named;
          told = told_none e ws₀;
          less = omega (arith, missing-most (take (j.regions * word_count (point_count j)) ws₀), size, most);
        }
      where
        most : j.regions * word_count (point_count j) ≤ 4096
        most = omega (arith, mul-le-mul_right (word_count (point_count j)) few-regions, narrow)

        size : length (take (j.regions * word_count (point_count j)) ws₀) ≤ j.regions * word_count (point_count j)
        size = rw length-take (omega arith)

    more : {recent ws last marks ws' grew marks' : List ℕ} {left : ℕ} → Going ends j ws₀ ws last marks left → Own j recent → RoundRuns g last recent ws ws' grew → any_marked grew 128 ≡ true → Marks marks grew marks'
        → Going ends j ws₀ ws' grew marks' (left - 1)
    more {recent} {ws} {last} {marks} {ws'} {grew} {marks'} {left} so own y m both =
        record {
          rounds = rounds_more e cs so.rounds ran;
          ready = next_ready e ran so.ready no_marks;
          told = told_more e so.rounds so.told ran both;
          less = omega (arith, so.less, round_less e wide ran m);
        }
      where
        ran : Ran e last cs ws no_marks ws' grew
        ran = y.ran j known own (given ws so.rounds.as_long)

    module _ {recent ws last marks ws' grew : List ℕ} {left : ℕ} (so : Going ends j ws₀ ws last marks left) (own : Own j recent) (y : RoundRuns g last recent ws ws' grew) (m : any_marked grew 128 ≡ false) where
      ran : Ran e last cs ws no_marks ws' grew
      ran = y.ran j known own (given ws so.rounds.as_long)

      quiet : Quiet e grew
      quiet = quiet_none e grew few-regions m

      same : ws' ≡ ws
      same = quiet_same e ran (so.rounds.fits x.fits) quiet

      all : Rounds e cs ws₀ ws'
      all = rounds_more e cs so.rounds ran

      least : LeastSolution ends (graph_of j) j.regions (λ r q. T (holds (seed_table j (graph_of j)) r q)) (λ c. Member c cs) (sets_in e ws')
      least =
          solved e cs (λ r q. T (holds (seed_table j (graph_of j)) r q))
          (λ r q l k. has-sets e ws₀ r q (seed_points j r q k) (seed_has r q l (seed_points j r q k) ∙ is_true _ k))
          (λ r q l k. T_from_true _ (sym (seed_has r q l (sets_below e ws₀ r q k)) ∙ sets-has e ws₀ r q k)) named so.rounds so.ready ran quiet

      -- the words' sets are the table's
      sets-has_table : (r : RegionName) (q : Point) → r < j.regions → q < (graph_of j).points → has ws' (bit_at e.width r q) ≡ holds (least_sets ends j) r q
      sets-has_table r q l lq =
          same_bool (has ws' (bit_at e.width r q)) (holds (least_sets ends j) r q)
          (λ k. least.smallest (holds (least_sets ends j)) (table_least ends j (accepted-job j x.accepted)).solves r q l (has-sets e ws' r q lq (is_true _ k)))
          (λ k. T_from_true _ (sets-has e ws' r q ((table_least ends j (accepted-job j x.accepted)).smallest (sets_in e ws') least.solves r q l k)))

      bits : (r p : ℕ) → r < length (least_sets ends j) → p < word_bits * word_count (point_count j) → has ws' (word_bits * (r * word_count (point_count j)) + p) ≡ holds (least_sets ends j) r p
      bits r p l lp = go (dec_lt p (graph_of j).points)
        where
          lr : r < j.regions
          lr = omega (arith, l, (sized-sets ends j).rows)

          go : Dec (p < (graph_of j).points) → has ws' (word_bits * (r * word_count (point_count j)) + p) ≡ holds (least_sets ends j) r p
          go (yes k) = sets-has_table r p lr k
          go (no k) =
              rounds_unused e cs all wide r p (omega (arith, k)) lp
              ∙ x.seeds.bits r p (omega (arith, lr, rows)) lp
              ∙ is_false (holds (seed_table j (graph_of j)) r p) (λ z. k (seed_points j r p z))
              ∙ sym (is_false (holds (least_sets ends j) r p) (λ z. k (held-inside (least_sets ends j) r p (sized-sets ends j) z).1))

      tail : (i : ℕ) → words_needed j ≤ i → get_or ws' i 0 ≡ get_or ws₀ i 0
      unfolding words_needed
      tail i l =
          sym (word ws') ∙ ap (λ (z : List ℕ). get_or z 0 0) (words_ext (take 1 (drop i ws')) (take 1 (drop i ws₀)) (cut ws' (all.fits x.fits)) (cut ws₀ x.fits) size bit-same) ∙ word ws₀
        where
          word : (z : List ℕ) → get_or (take 1 (drop i z)) 0 0 ≡ get_or z i 0
          word z = get_or-take 1 (drop i z) 0 0 (omega arith) ∙ get_or-drop i z 0 0 ∙ ap (λ (n : ℕ). get_or z n 0) (omega arith)

          cut : (z : List ℕ) → Words z → Words (take 1 (drop i z))
          cut z wf k = go (dec_lt k 1)
            where
              go : Dec (k < 1) → get_or (take 1 (drop i z)) k 0 < 2 ^ word_bits
              go (yes q) = rw (get_or-take 1 (drop i z) k 0 q, get_or-drop i z k 0) (wf (i + k))
              go (no q) = rw (get_or-eq_default (take 1 (drop i z)) 0 {n = k} (rw length-take (omega (arith, q)))) (omega arith)

          size : length (take 1 (drop i ws')) ≡ length (take 1 (drop i ws₀))
          size =
              length-take 1 (drop i ws')
              ∙ ap (min 1) (length-drop i ws' ∙ ap (λ (n : ℕ). n - i) all.as_long ∙ sym (length-drop i ws₀))
              ∙ sym (length-take 1 (drop i ws₀))

          bit-same : (k : ℕ) → k < word_bits * length (take 1 (drop i ws')) → has (take 1 (drop i ws')) k ≡ has (take 1 (drop i ws₀)) k
          bit-same k q =
              let lk : k < word_bits * 1 = omega (arith, q, length-take 1 (drop i ws')) in
              run_has ws' i 1 k lk
              ∙ all.others (word_bits * i + k) (λ r p lr lp w. absurd (omega (arith, l, w, wide, mul-le-mul_right (word_count (point_count j)) lr, suc-mul r (word_count (point_count j)))))
              ∙ sym (run_has ws₀ i 1 k lk)

      told_last : Told e ws₀ ws' marks
      told_last = subst (λ (z : List ℕ). Told e ws₀ z marks) (sym same) so.told

      grown : {bytes : List ℕ} → Tells marks bytes 128 → (r : RegionName) → r < length j.outlives → get_or bytes r 0 ≡ bit (is_grown (graph_of j) (seed_table j (graph_of j)) (least_sets ends j) r)
      unfolding is_grown
      grown told r l = told.is r (omega (arith, lr, few-regions)) ∙ ap bit (same_bool (has marks r) (any beyond (below (graph_of j).points)) (λ z. some (is_true _ z)) (λ w. T_from_true _ (mark w)))
        where
          lr : r < j.regions
          lr = omega (arith, l, (accepted-job j x.accepted).declared-named)

          beyond : Point → Bool
          beyond p = holds (least_sets ends j) r p && not (holds (seed_table j (graph_of j)) r p)

          mark : T (any beyond (below (graph_of j).points)) → Marked marks r
          mark w =
              let (p, c, k) = any_found beyond (below (graph_of j).points) w in
              let held = and_left (holds (least_sets ends j) r p) (not (holds (seed_table j (graph_of j)) r p)) k in
              let lp = (held-inside (least_sets ends j) r p (sized-sets ends j) held).1 in
              ⊎_elim
              (λ q. absurd (T_not (holds (seed_table j (graph_of j)) r p) (and_right (holds (least_sets ends j) r p) (not (holds (seed_table j (graph_of j)) r p)) k) (T_from_true _ (sym (seed_has r p lr lp) ∙ sets-has e ws₀ r p q))))
              (λ q. q)
              (told_last.marked r p (has-sets e ws' r p lp (sets-has_table r p lr lp ∙ is_true _ held)))

          some : Marked marks r → T (any beyond (below (graph_of j).points))
          some z =
              let (p, lp, a, b) = told_last.earned r z in
              any_of beyond (below (graph_of j).points) p (contains-below (graph_of j).points p lp)
              (and_intro (holds (least_sets ends j) r p) (not (holds (seed_table j (graph_of j)) r p)) (T_from_true _ (sym (sets-has_table r p lr lp) ∙ b))
              (not_T (holds (seed_table j (graph_of j)) r p) (λ w. true≢false (sym (seed_has r p lr lp ∙ is_true _ w) ∙ a))))

      done : (bytes : List ℕ) → Tells marks bytes 128 → Solved ends j ws₀ ws' bytes
      done bytes told =
          record {
            as_long = all.as_long;
            fits = all.fits x.fits;
            says = record { room = omega (arith, all.as_long, rows, (sized-sets ends j).rows, subst (λ (n : ℕ). n * word_count (point_count j) ≤ length ws₀) (rows ∙ sym (sized-sets ends j).rows) x.seeds.room); bits = bits };
            tail = tail;
            grown = grown told;
          }

  -- The constraints of the list are the job's.
  pub record Kept (recent : List ℕ) : Type 0 where
    pub own : (j : Job) → Seeded g.graph.now g.shape ws₀ j → Own j recent

-- ---- The loop

module _ {g : Setup} {ws₀ : List ℕ} where
  pub kept-none : {recent : List ℕ} → count_in recent ≡ 0 → Kept g ws₀ recent
  kept-none {recent} e = record { own = λ j x c m. absurd (no_member (subst (λ (cs : List Outlives). Member c cs) (ap (first_in recent) e ∙ first-none recent) m)) }

  pub kept_more : {recent recent' : List ℕ} → Kept g ws₀ recent → OwnKept g recent recent' → Kept g ws₀ recent'
  kept_more k y =
      record { own = λ j x. y.kept j (record { layout = x.layout; accepted = x.accepted; reached = x.reached; points = x.code }) (k.own j x) }

  pub going_start : {left : ℕ} → left ≡ 131073 → GoingOn g ws₀ ws₀ all_regions no_marks left
  going_start e = rw e record { going = λ j x ch. start g ws₀ j x ch }

  pub going_more : {recent ws last marks ws' grew marks' : List ℕ} {left next : ℕ} → next ≡ left - 1 → GoingOn g ws₀ ws last marks left → Kept g ws₀ recent
      → RoundRuns g last recent ws ws' grew → any_marked grew 128 ≡ true → Marks marks grew marks' → GoingOn g ws₀ ws' grew marks' next
  going_more e so k y m both = rw e record { going = λ j x ch. more g ws₀ j x ch (so.going j x ch) (k.own j x) y m both }

  pub going_done : {recent ws last marks ws' grew : List ℕ} {left : ℕ} → GoingOn g ws₀ ws last marks left → Kept g ws₀ recent
      → RoundRuns g last recent ws ws' grew → any_marked grew 128 ≡ false
      → (j : Job) → Seeded g.graph.now g.shape ws₀ j → Linked g → (bytes : List ℕ) → Tells marks bytes 128 → Solved (rule_of g.rule) j ws₀ ws' bytes
  going_done so k y m j x ch = done g ws₀ j x ch (so.going j x ch) (k.own j x) y m
