-- The rows that were filled are the definition's seeds. Assumes nothing.
use mathlib.Core.Path.{◌≡◌, refl, sym, ap, ap₂, subst, ◌∙◌}
use mathlib.Core.Logic.{inl, inr}
use mathlib.Core.Bool.{Bool, true, false, ◌&&◌, ◌||◌, cond, or-false, and_comm}
use mathlib.Core.List.{List}
use Prim.Native.Nat.{ℕ, zero, suc, ◌+◌, ◌-◌, ◌*◌, ◌≤◌, ◌<◌}
use native.Mathlib.Nat.{suc-mul, mul-le-mul_right}
use native.Mathlib.Omega.{arith}
use native.Mathlib.Decide.{ℕ_discrete, dec_lt}
use lib.ListN.{length, get_or}
use lib.Dec.{T, ltb, leb}
use borrow.Author.Tests.{lt-ltb, le-ltb, le-leb, lt-leb}
use Rattle.nll_spec.specs.Lists.{any, contains, below}
use Rattle.nll_spec.specs.Fixpoint.{holds}
use Rattle.nll_spec.specs.Syntax.{Job}
use Rattle.nll_spec.specs.Types.{variable_type, regions_of}
use Rattle.nll_spec.specs.Decode.{point_count}
use Rattle.nll_spec.specs.WellFormed.{named}
use Rattle.nll_spec.specs.Graph.{graph_of, is_walked}
use Rattle.nll_spec.specs.Liveness.{uses, drops, live_table}
use Rattle.nll_spec.specs.Regions.{drop_regions, outlives_table, has_live, seed_table}
use Rattle.nll_spec.specs.Output.{word_bits, word_count}
use Rattle.nll_spec.proofs.Tests.{or_left, or_right, or_cases, is_false, any_of, any_found, contains-below, below-contains}
use Rattle.nll_spec.proofs.Lookup.{holds-tabulate}
use Rattle.nll_spec.proofs.Least.{same_bool, sized-tabulate}
use Rattle.nll_spec.proofs.GraphLaws.{code-count, walked-is-code}
use Rattle.nll_spec.proofs.SeedLaws.{seed_points}
use Rattle.record.specs.Layout.{Holds}
use Rattle.record.specs.declared.Record.{Record}
use Rattle.bit_set.specs.Bits.{has, cleared}
use Rattle.bit_set.proofs.SetLaws.{length-cleared, has-cleared, cleared_outside}
use Rattle.graph.specs.Search.{WalkedIn}
use Rattle.seeds.specs.Closure.{Ends}
use Rattle.liveness.specs.Rows.{LiveRows}
use Rattle.seeds.specs.Seeded.{Room, Adds, live_in, any_to, end_seed, declared_seed, Seeded}
use Rattle.seeds.proofs.ClosureLaws.{declared-named}
use Rattle.seeds.proofs.RowLaws.{and_no, adds_then, room-kept}

-- ---- Some number below n

any_to_lem : (f : ℕ → Bool) (n v : ℕ) → v < n → T (f v) → T (any_to f n)
any_to_lem f zero v h t = absurd (omega arith)
any_to_lem f (suc n) v h t = go (ℕ_discrete v n) (λ l. any_to_lem f n v l t)
  where
    go : Dec (v ≡ n) → (v < n → T (any_to f n)) → T (any_to f (suc n))
    go (yes e) r = or_right (any_to f n) (f n) (subst (λ (z : ℕ). T (f z)) e t)
    go (no e) r = or_left (any_to f n) (f n) (r (omega (arith, e)))

to_any : (f : ℕ → Bool) (n : ℕ) → T (any_to f n) → T (any f (below n))
to_any f n t = let w = found n t in any_of f (below n) w.0 (contains-below n w.0 w.1) w.2
  where
    found : (m : ℕ) → T (any_to f m) → (v : ℕ) × (v < m) × T (f v)
    found zero x = absurd x
    found (suc m) x = elim (or_cases (any_to f m) (f m) x) [ inl q ↦ (let w = found m q in (w.0, omega arith, w.2)) | inr q ↦ (m, omega arith, q) ]

any-is : (f : ℕ → Bool) (n : ℕ) → any_to f n ≡ any f (below n)
any-is f n = same_bool (any_to f n) (any f (below n)) (to_any f n) (λ t. let w = any_found f (below n) t in any_to_lem f n w.0 (below-contains n w.0 w.1) w.2)

any_same : (f g : ℕ → Bool) (n : ℕ) → ((v : ℕ) → v < n → f v ≡ g v) → any_to f n ≡ any_to g n
any_same f g zero h = refl
any_same f g (suc n) h = ap₂ (λ (a b : Bool). a || b) (any_same f g n (λ v l. h v (omega arith))) (h n (omega arith))

any_none : (n : ℕ) → any_to (λ v. false) n ≡ false
any_none zero = refl
any_none (suc n) = rw (any_none n)

any-under : (b : Bool) (f : ℕ → Bool) (n : ℕ) → any_to (λ v. b && f v) n ≡ (b && any f (below n))
any-under true f n = any-is f n
any-under false f n = any_none n

-- ---- One point

swap : (b x y u v : Bool) → (x && (b && u) || y && (b && v)) ≡ (b && (u && x || v && y))
swap true x y u v = ap₂ (λ (p q : Bool). p || q) (and_comm x u) (and_comm y v)
swap false x y u v = ap₂ (λ (p q : Bool). p || q) (and_no x) (and_no y)

module _ (j : Job) (w : ℕ) (walked used dropped ends : List ℕ) where
  abbrev code : ℕ
  code = (graph_of j).code

  abbrev points : ℕ
  points = (graph_of j).points

  -- what the two steps put in
  abbrev put : ℕ → ℕ → Bool
  put r p = ltb r (length j.outlives) && declared_seed code (length j.outlives) walked ends r p || any_to (live_in j w used dropped r p) (length j.variables)

  module _ (is_w : WalkedIn j walked) (live : LiveRows j w used dropped) (narrow : w ≤ 32)
      (is_e : (r e : ℕ) → r < length j.outlives → e < length j.outlives → has ends (word_bits * r + e) ≡ holds (outlives_table j) r e)
      (all : points ≡ code + length j.outlives) where
    -- a declared region gets nothing from variables
    declared_live : (r p : ℕ) → r < length j.outlives → any_to (live_in j w used dropped r p) (length j.variables) ≡ false
    declared_live r p h = any_same (live_in j w used dropped r p) (λ v. false) (length j.variables) (λ v l. rw (lt-leb (length j.outlives) r h)) ∙ any_none (length j.variables)

    -- any other region gets what the definition gives
    other_live : (r p : ℕ) → length j.outlives ≤ r → p < word_bits * w
        → any_to (live_in j w used dropped r p) (length j.variables)
        ≡ (is_walked (graph_of j) p && any (λ v. has_live j (live_table uses j (graph_of j)) (live_table drops j (graph_of j)) r p v) (below (length j.variables)))
    other_live r p h hp =
        any_same (live_in j w used dropped r p) (λ v. is_walked (graph_of j) p && has_live j (live_table uses j (graph_of j)) (live_table drops j (graph_of j)) r p v) (length j.variables)
        (λ v l.
        rw (le-leb (length j.outlives) r h, live.used v p l hp, live.dropped v p l hp)
        (swap (is_walked (graph_of j) p) (contains (regions_of (variable_type j v)) r) (contains (drop_regions (variable_type j v) j.structs) r)
        (holds (live_table uses j (graph_of j)) v p) (holds (live_table drops j (graph_of j)) v p)))
        ∙ any-under (is_walked (graph_of j) p) (λ v. has_live j (live_table uses j (graph_of j)) (live_table drops j (graph_of j)) r p v) (length j.variables)

    -- a declared region gets its ends
    end_is : (r p : ℕ) → r < length j.outlives → p < points → end_seed code (length j.outlives) ends r p ≡ (leb code p && holds (outlives_table j) r (p - code))
    end_is r p hr hp = go (dec_lt p code)
      where
        go : Dec (p < code) → end_seed code (length j.outlives) ends r p ≡ (leb code p && holds (outlives_table j) r (p - code))
        go (yes l) = rw (lt-leb code p l)
        go (no l) =
            let k : p - code < length j.outlives = omega (arith, all) in
            rw (le-leb code p (omega arith), lt-ltb (p - code) (length j.outlives) k) (is_e r (p - code) hr k)

    unwalked : (p : ℕ) → code ≤ p → is_walked (graph_of j) p ≡ false
    unwalked p h = is_false (is_walked (graph_of j) p) (λ t. let l = walked-is-code j p t in omega arith)

    -- past the points there is nothing
    past : (r p : ℕ) → points ≤ p → p < word_bits * w → put r p ≡ false
    past r p h hp = go (dec_lt r (length j.outlives))
      where
        none : is_walked (graph_of j) p ≡ false
        none = unwalked p (omega (arith, all))

        declared : r < length j.outlives → declared_seed code (length j.outlives) walked ends r p ≡ false
        declared l = rw (is_w p (omega arith), none, le-leb code p (omega (arith, all)), le-ltb (p - code) (length j.outlives) (omega (arith, all)))

        go : Dec (r < length j.outlives) → put r p ≡ false
        go (yes l) = rw (declared_live r p l, lt-ltb r (length j.outlives) l, declared l)
        go (no l) = rw (le-ltb r (length j.outlives) (omega arith), other_live r p (omega arith) hp, none)

    put_seed : (r p : ℕ) → r < j.regions → p < points → p < word_bits * w → put r p ≡ holds (seed_table j (graph_of j)) r p
    unfolding seed_table
    put_seed r p hr hp hk = go (dec_lt r (length j.outlives)) ∙ sym (holds-tabulate j.regions points (λ r p. seed r p) r p hr hp)
      where
        seed : ℕ → ℕ → Bool
        seed r p =
            cond (ltb r (length j.outlives))
            (is_walked (graph_of j) p || leb code p && holds (outlives_table j) r (p - code))
            (is_walked (graph_of j) p && any (λ v. has_live j (live_table uses j (graph_of j)) (live_table drops j (graph_of j)) r p v) (below (length j.variables)))

        go : Dec (r < length j.outlives) → put r p ≡ seed r p
        go (yes l) = rw (declared_live r p l, lt-ltb r (length j.outlives) l, is_w p (omega arith), end_is r p l hp) (or-false (is_walked (graph_of j) p || leb code p && holds (outlives_table j) r (p - code)))
        go (no l) = rw (le-ltb r (length j.outlives) (omega arith), other_live r p (omega arith) hk)

    is_seed : (r p : ℕ) → r < j.regions → p < word_bits * w → put r p ≡ holds (seed_table j (graph_of j)) r p
    is_seed r p hr hp = go (dec_lt p points)
      where
        go : Dec (p < points) → put r p ≡ holds (seed_table j (graph_of j)) r p
        go (yes l) = put_seed r p hr l hp
        go (no l) = past r p (omega arith) hp ∙ sym (is_false (holds (seed_table j (graph_of j)) r p) (λ t. let k = seed_points j r p t in omega arith))

length-seeds : (j : Job) → length (seed_table j (graph_of j)) ≡ j.regions
unfolding seed_table
length-seeds j = (sized-tabulate j.regions (graph_of j).points _).rows

-- ---- All rows

points-are : (j : Job) → (graph_of j).points ≡ (graph_of j).code + length j.outlives
unfolding graph_of point_count
points-are j = ap (λ (n : ℕ). n + length j.outlives) (sym (code-count j))

points-count : (j : Job) → point_count j ≡ (graph_of j).points
unfolding graph_of
points-count j = refl

pub width_small : (j : Job) (w : ℕ) → point_count j ≤ 1024 → w ≡ word_count (point_count j) → w ≤ 32
width_small j w h e = omega arith

module _ (input : Record) {j : Job} (l : Holds input j) where
  code_is : input.head.code ≡ (graph_of j).code
  code_is = l.code ∙ sym (code-count j)

  room-is : (w : ℕ) (ws : List ℕ) → T (named j) → point_count j ≤ 1024 → w ≡ word_count (point_count j) → j.regions * w ≤ length ws → Room input.head w ws
  room-is w ws a m e k =
      let d = declared-named j a in
      let c = l.declared_count in
      let r = l.regions in
      let p = points-are j in
      let q = points-count j in
      let i = code_is in
      record { declared = omega arith; width = width_small j w m e; words = rw r k; ends = omega arith }

module _ {input : Record} (walked used dropped ends ws first second after : List ℕ) (w n : ℕ) where
  pub seeded : n ≡ input.head.regions → first ≡ cleared ws 0 (n * w) → Ends input ends
      → (Room input.head w first → Adds w input.head.regions (λ r p. ltb r input.head.declared && declared_seed input.head.code input.head.declared walked ends r p) first second)
      → ((j : Job) → Holds input j → 64 * w ≤ length used → 64 * w ≤ length dropped → Room input.head w second → Adds w input.head.regions (λ r p. any_to (live_in j w used dropped r p) input.head.variables) second after)
      → (j : Job) → Holds input j → T (named j) → point_count j ≤ 1024 → WalkedIn j walked
      → 64 * w ≤ length used → 64 * w ≤ length dropped → LiveRows j w used dropped → w ≡ word_count (point_count j) → j.regions * w ≤ length ws → Seeded j w ws after
  seeded en ef ee fd fl j l a m is_w hu hd live ew k =
      let size : length first ≡ length ws = ap length ef ∙ length-cleared ws 0 (n * w) in
      let room : Room input.head w ws = room-is input l w ws a m ew k in
      let r₁ : Room input.head w first = room-kept size room in
      let one = fd r₁ in
      let two = fl j l hu hd (room-kept one.size r₁) in
      let both = adds_then one two in
      record {
        size = both.size ∙ size;
        others = λ i hi. both.others i (rw l.regions hi) ∙ ap (λ (u : List ℕ). get_or u i 0) ef ∙ cleared_outside ws 0 (n * w) i (inr (outer i hi));
        says = record {
          room = rw length-seeds (let q = both.size ∙ size in omega (arith, k));
          bits = λ r p hr hp.
              let lr : r < j.regions = rw length-seeds at hr in
              both.bits r p (rw l.regions lr) hp
              ∙ ap₂ (λ (x y : Bool). x || y) (empty r p lr hp) (putting r p)
              ∙ is_seed j w walked used dropped ends is_w live room.width (ee.bits j l a) (points-are j) r p lr hp;
        };
      }
    where
      eq : n ≡ j.regions
      eq = en ∙ l.regions

      outer : (i : ℕ) → j.regions * w ≤ i → 0 + n * w ≤ i
      outer i hi = rw eq (omega arith)

      empty : (r p : ℕ) → r < j.regions → p < word_bits * w → has first (word_bits * (r * w) + p) ≡ false
      empty r p hr hp =
          ap (λ (u : List ℕ). has u (word_bits * (r * w) + p)) ef
          ∙ ap (has (cleared ws 0 (n * w))) (let q : word_bits * (r * w) + p ≡ word_bits * 0 + (word_bits * (r * w) + p) = omega arith in q)
          ∙ has-cleared ws 0 (n * w) (rw eq (omega (arith, k))) (word_bits * (r * w) + p) (rw eq (omega (arith, hp, mul-le-mul_right w hr, suc-mul r w)))

      putting : (r p : ℕ) → (ltb r input.head.declared && declared_seed input.head.code input.head.declared walked ends r p || any_to (live_in j w used dropped r p) input.head.variables) ≡ put j w walked used dropped ends r p
      putting r p =
          ap₂ (λ (x y : Bool). x || y)
          (ap₂ (λ (d c : ℕ). ltb r d && declared_seed c d walked ends r p) (sym l.declared_count) (code_is input l))
          (ap (any_to (live_in j w used dropped r p)) (sym l.variable_count))
