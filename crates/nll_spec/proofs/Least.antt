-- `least` of a rule is closed under the rule, and nothing is in it that the rule does not bring: `least-closed` and `least_ind`.
-- Assumes nothing.
use mathlib.Core.Path.{◌≡◌, refl, sym, ◌∙◌, subst, subst₂, ap}
use mathlib.Core.Logic.{◌⊎◌, inl, inr}
use mathlib.Core.Bool.{Bool, true, false, cond}
use mathlib.Core.List.{List, [], ◌∷◌, map}
use Prim.Native.Nat.{ℕ, zero, suc, ◌+◌, ◌*◌, ◌<◌, ◌≤◌}
use native.Mathlib.Nat.{not-suc-le-zero, suc-mul, le_refl}
use native.Mathlib.Omega.{arith}
use native.Mathlib.Decide.{ℕ_discrete, dec_lt}
use lib.ListN.{length, get_or, set, replicate, length-set, length-map, length-replicate, get_or-replicate, get_or-eq_default}
use lib.Seq.{ext_get_or, get_or-set_same, get_or-set_other, set_out}
use lib.Dec.{T, eqb, eqb→eq}
use Rattle.nll_spec.specs.Lists.{contains, below}
use Rattle.nll_spec.specs.Fixpoint.{Table, holds, mark, tabulate, same_row, same_table, Rule, Monotone, sweep_row, sweep, sweeps, least}
use Rattle.nll_spec.proofs.Tests.{and_intro, and_left, and_right, or_cases, is_true, any-there, contains-here, length-count_from}
use Rattle.nll_spec.proofs.Lookup.{get_or-map-below}

-- ---- What a set bit is

-- the table has n rows of m columns
pub record Sized (n m : ℕ) (t : Table) : Type 0 where
  pub rows : length t ≡ n
  pub columns : (r : ℕ) → r < n → length (get_or t r []) ≡ m

-- after `mark` the bit is set, and every other bit is as it was
pub holds-mark-same : {n m : ℕ} (t : Table) (r c : ℕ) → Sized n m t → r < n → c < m → T (holds (mark t r c) r c)
holds-mark-same t r c s hr hc =
    subst (λ (row : List Bool). T (get_or row c false)) (sym (get_or-set_same t r (set (get_or t r []) c true) [] (rw s.rows hr)))
    (subst T (sym (get_or-set_same (get_or t r []) c true false (rw (s.columns r hr) hc))) tt)

holds-mark_other_row : (t : Table) (r c r' c' : ℕ) → (r' ≡ r → ⊥) → holds (mark t r c) r' c' ≡ holds t r' c'
holds-mark_other_row t r c r' c' h = ap (λ (row : List Bool). get_or row c' false) (get_or-set_other t r r' (set (get_or t r []) c true) [] h)

holds-mark_other_column : (t : Table) (r c c' : ℕ) → (c' ≡ c → ⊥) → holds (mark t r c) r c' ≡ holds t r c'
holds-mark_other_column t r c c' h = go (dec_lt r (length t))
  where
    go : Dec (r < length t) → holds (mark t r c) r c' ≡ holds t r c'
    go (yes l) = ap (λ (row : List Bool). get_or row c' false) (get_or-set_same t r (set (get_or t r []) c true) [] l) ∙ get_or-set_other (get_or t r []) c c' true false h
    go (no l) = ap (λ (u : Table). holds u r c') (set_out t r (set (get_or t r []) c true) (omega arith))

pub holds-mark-cases : (t : Table) (r c r' c' : ℕ) → T (holds (mark t r c) r' c') → ((r' ≡ r) × (c' ≡ c)) ⊎ T (holds t r' c')
holds-mark-cases t r c r' c' h = go (ℕ_discrete r' r) (ℕ_discrete c' c)
  where
    go : Dec (r' ≡ r) → Dec (c' ≡ c) → ((r' ≡ r) × (c' ≡ c)) ⊎ T (holds t r' c')
    go (yes e) (yes f) = inl (e, f)
    go (yes e) (no f) = inr (subst (λ (k : ℕ). T (holds t k c')) (sym e) (subst T (holds-mark_other_column t r c c' f) (subst (λ (k : ℕ). T (holds (mark t r c) k c')) e h)))
    go (no e) d = inr (subst T (holds-mark_other_row t r c r' c' e) h)

pub sized-mark : {n m : ℕ} (t : Table) (r c : ℕ) → Sized n m t → Sized n m (mark t r c)
sized-mark {n} {m} t r c s =
    record {
      rows = length-set t r (set (get_or t r []) c true) ∙ s.rows;
      columns = λ k hk. go k hk (ℕ_discrete k r);
    }
  where
    go : (k : ℕ) → k < n → Dec (k ≡ r) → length (get_or (mark t r c) k []) ≡ m
    go k hk (yes e) =
        ap (λ (i : ℕ). length (get_or (mark t r c) i [])) e
        ∙ ap (λ (row : List Bool). length row) (get_or-set_same t r (set (get_or t r []) c true) [] (omega (arith, s.rows)))
        ∙ length-set (get_or t r []) c true ∙ s.columns r (omega arith)
    go k hk (no e) = ap (λ (row : List Bool). length row) (get_or-set_other t r k (set (get_or t r []) c true) [] e) ∙ s.columns k hk

-- what is held is inside
pub held-inside : {n m : ℕ} (t : Table) (r c : ℕ) → Sized n m t → T (holds t r c) → (r < n) × (c < m)
held-inside {n} {m} t r c s h = row (dec_lt r n)
  where
    column : r < n → Dec (c < m) → (r < n) × (c < m)
    column l (yes k) = (l, k)
    column l (no k) = absurd (subst T (get_or-eq_default (get_or t r []) false (omega (arith, s.columns r l))) h)

    row : Dec (r < n) → (r < n) × (c < m)
    row (yes l) = column l (dec_lt c m)
    row (no l) = absurd (subst (λ (x : List Bool). T (get_or x c false)) (get_or-eq_default t [] (omega (arith, s.rows))) h)

pub sized-tabulate : (rows columns : ℕ) (f : ℕ → ℕ → Bool) → Sized rows columns (tabulate rows columns f)
sized-tabulate rows columns f =
    record {
      rows = length-map (below rows) row ∙ length-count_from 0 rows;
      columns = λ r h. ap (λ (x : List Bool). length x) (get_or-map-below row [] rows r h) ∙ length-map (below columns) (λ (c : ℕ). f r c) ∙ length-count_from 0 columns;
    }
  where
    row : ℕ → List Bool
    row r = map (λ (c : ℕ). f r c) (below columns)

pub same_bool : (a b : Bool) → (T a → T b) → (T b → T a) → a ≡ b
same_bool true true f g = refl
same_bool true false f g = absurd (f tt)
same_bool false true f g = absurd (g tt)
same_bool false false f g = refl

-- tables of one size are equal if they hold the same
pub table_ext : {n m : ℕ} (t u : Table) → Sized n m t → Sized n m u → ((r c : ℕ) → holds t r c ≡ holds u r c) → t ≡ u
table_ext {n} {m} t u s w same =
    ext_get_or [] t u (s.rows ∙ sym w.rows) λ r h.
    let hr : r < n = omega (arith, s.rows) in
    ext_get_or false (get_or t r []) (get_or u r []) (s.columns r hr ∙ sym (w.columns r hr)) (λ c k. same r c)

-- ---- Counting the bits

count : List Bool → ℕ
count [] = 0
count (true ∷ bs) = suc (count bs)
count (false ∷ bs) = count bs

counts : Table → ℕ
counts [] = 0
counts (row ∷ t) = count row + counts t

count_le : (bs : List Bool) → count bs ≤ length bs
unfolding count
count_le [] = omega arith
count_le (true ∷ bs) = omega (arith, count_le bs)
count_le (false ∷ bs) = omega (arith, count_le bs)

counts_le : (n m : ℕ) (t : Table) → Sized n m t → counts t ≤ n * m
unfolding counts
counts_le zero m [] s = omega arith
counts_le zero m (row ∷ t) s = omega (arith, s.rows)
counts_le (suc n) m [] s = omega (arith, s.rows)
counts_le (suc n) m (row ∷ t) s =
    let here : length row ≡ m = s.columns 0 (omega arith) in
    let rest : counts t ≤ n * m = counts_le n m t (record { rows = omega (arith, s.rows); columns = λ r h. s.columns (suc r) (omega arith) }) in
    omega (arith, here, rest, count_le row, suc-mul n m)

-- Setting a bit leaves a row as it is, or counts one more.
count_set : (bs : List Bool) (c : ℕ) → (set bs c true ≡ bs) ⊎ (count bs < count (set bs c true))
unfolding count
count_set [] c = inl refl
count_set (true ∷ bs) zero = inl refl
count_set (false ∷ bs) zero = inr (omega arith)
count_set (true ∷ bs) (suc c) =
    let go : (set bs c true ≡ bs) ⊎ (count bs < count (set bs c true)) → (true ∷ set bs c true ≡ true ∷ bs) ⊎ (suc (count bs) < suc (count (set bs c true)))
    = λ d. elim d [ inl e ↦ inl (ap (λ (l : List Bool). true ∷ l) e) | inr h ↦ inr (omega arith) ] in
    go (count_set bs c)
count_set (false ∷ bs) (suc c) =
    let go : (set bs c true ≡ bs) ⊎ (count bs < count (set bs c true)) → (false ∷ set bs c true ≡ false ∷ bs) ⊎ (count bs < count (set bs c true))
    = λ d. elim d [ inl e ↦ inl (ap (λ (l : List Bool). false ∷ l) e) | inr h ↦ inr h ] in
    go (count_set bs c)

-- u is t, or has more bits
Grew : Table → Table → Type 0
Grew t u = (u ≡ t) ⊎ (counts t < counts u)

grew-mark : (t : Table) (r c : ℕ) → Grew t (mark t r c)
unfolding Grew counts
grew-mark [] r c = inl refl
grew-mark (row ∷ t) zero c =
    let go : (set row c true ≡ row) ⊎ (count row < count (set row c true)) → (set row c true ∷ t ≡ row ∷ t) ⊎ (count row + counts t < count (set row c true) + counts t)
    = λ d. elim d [ inl e ↦ inl (ap (λ (x : List Bool). x ∷ t) e) | inr h ↦ inr (omega arith) ] in
    go (count_set row c)
grew-mark (row ∷ t) (suc r) c =
    let go : (mark t r c ≡ t) ⊎ (counts t < counts (mark t r c)) → (row ∷ mark t r c ≡ row ∷ t) ⊎ (count row + counts t < count row + counts (mark t r c))
    = λ d. elim d [ inl e ↦ inl (ap (λ (x : Table). row ∷ x) e) | inr h ↦ inr (omega arith) ] in
    go (grew-mark t r c)

grew_refl : (t : Table) → Grew t t
unfolding Grew
grew_refl t = inl refl

grew_trans : (t u v : Table) → Grew t u → Grew u v → Grew t v
unfolding Grew
grew_trans t u v (inl e) (inl f) = inl (f ∙ e)
grew_trans t u v (inl e) (inr h) = inr (subst (λ (x : Table). counts x < counts v) e h)
grew_trans t u v (inr h) (inl f) = inr (subst (λ (x : Table). counts t < counts x) (sym f) h)
grew_trans t u v (inr h) (inr k) = inr (omega arith)

-- What comes back to t has not left it.
grew_back : (t u v : Table) → Grew t u → Grew u v → v ≡ t → u ≡ t
unfolding Grew
grew_back t u v (inl e) d back = e
grew_back t u v (inr h) (inl f) back = sym f ∙ back
grew_back t u v (inr h) (inr k) back = absurd (omega (arith, ap counts back))

-- ---- One bit, one row, all rows

module _ (f : Rule) where
  -- what one step of a sweep does
  stepped : Table → ℕ → ℕ → Table
  stepped t r c = cond (f t r c) (mark t r c) t

  grew-step : (t : Table) (r c : ℕ) → Grew t (stepped t r c)
  unfolding stepped
  grew-step t r c = go (f t r c)
    where
      go : (b : Bool) → Grew t (cond b (mark t r c) t)
      go true = grew-mark t r c
      go false = grew_refl t

  grew-sweep_row : (r : ℕ) (cs : List ℕ) (t : Table) → Grew t (sweep_row f r cs t)
  unfolding stepped
  grew-sweep_row r [] t = grew_refl t
  grew-sweep_row r (c ∷ cs) t = grew_trans t (stepped t r c) (sweep_row f r cs (stepped t r c)) (grew-step t r c) (grew-sweep_row r cs (stepped t r c))

  grew-sweep : (n : ℕ) (cs : List ℕ) (t : Table) → Grew t (sweep f n cs t)
  grew-sweep zero cs t = grew_refl t
  grew-sweep (suc n) cs t = grew_trans t (sweep f n cs t) (sweep_row f n cs (sweep f n cs t)) (grew-sweep n cs t) (grew-sweep_row n cs (sweep f n cs t))

  module _ {n m : ℕ} where
    sized-step : (t : Table) (r c : ℕ) → Sized n m t → Sized n m (stepped t r c)
    unfolding stepped
    sized-step t r c s = go (f t r c)
      where
        go : (b : Bool) → Sized n m (cond b (mark t r c) t)
        go true = sized-mark t r c s
        go false = s

    sized-sweep_row : (r : ℕ) (cs : List ℕ) (t : Table) → Sized n m t → Sized n m (sweep_row f r cs t)
    unfolding stepped
    sized-sweep_row r [] t s = s
    sized-sweep_row r (c ∷ cs) t s = sized-sweep_row r cs (stepped t r c) (sized-step t r c s)

    sized-sweep : (k : ℕ) (cs : List ℕ) (t : Table) → Sized n m t → Sized n m (sweep f k cs t)
    sized-sweep zero cs t s = s
    sized-sweep (suc k) cs t s = sized-sweep_row k cs (sweep f k cs t) (sized-sweep k cs t s)

    -- ---- A sweep that changes nothing finds nothing to add

    closed-step : (t : Table) (r c : ℕ) → Sized n m t → r < n → c < m → stepped t r c ≡ t → T (f t r c) → T (holds t r c)
    unfolding stepped
    closed-step t r c s hr hc e h =
        subst (λ (u : Table). T (holds u r c)) (ap (λ (b : Bool). cond b (mark t r c) t) (sym (is_true (f t r c) h)) ∙ e) (holds-mark-same t r c s hr hc)

    closed-row : (r : ℕ) (cs : List ℕ) (t : Table) → Sized n m t → r < n → sweep_row f r cs t ≡ t
        → (c : ℕ) → T (contains cs c) → c < m → T (f t r c) → T (holds t r c)
    unfolding stepped
    closed-row r (d ∷ cs) t s hr e c hin hc h =
        let still : stepped t r d ≡ t = grew_back t (stepped t r d) (sweep_row f r cs (stepped t r d)) (grew-step t r d) (grew-sweep_row r cs (stepped t r d)) e in
        let rest : sweep_row f r cs t ≡ t = subst (λ (u : Table). sweep_row f r cs u ≡ t) still e in
        let go : T (eqb c d) ⊎ T (contains cs c) → T (holds t r c)
        = λ w. elim w [
          | inl q ↦ subst (λ (k : ℕ). T (holds t r k)) (sym (eqb→eq c d q))
              (closed-step t r d s hr (subst (λ (k : ℕ). k < m) (eqb→eq c d q) hc) still (subst (λ (k : ℕ). T (f t r k)) (eqb→eq c d q) h))
          | inr q ↦ closed-row r cs t s hr rest c q hc h
        ] in
        go (or_cases (eqb c d) (contains cs c) hin)
    closed-row r [] t s hr e c hin hc h = elim hin [ ]

    closed-sweep : (k : ℕ) (cs : List ℕ) (t : Table) → Sized n m t → k ≤ n → sweep f k cs t ≡ t
        → (r c : ℕ) → r < k → T (contains cs c) → c < m → T (f t r c) → T (holds t r c)
    closed-sweep zero cs t s hk e r c hr hin hc h = absurd (not-suc-le-zero hr)
    closed-sweep (suc k) cs t s hk e r c hr hin hc h =
        let still : sweep f k cs t ≡ t = grew_back t (sweep f k cs t) (sweep_row f k cs (sweep f k cs t)) (grew-sweep k cs t) (grew-sweep_row k cs (sweep f k cs t)) e in
        let last : sweep_row f k cs t ≡ t = subst (λ (u : Table). sweep_row f k cs u ≡ t) still e in
        let go : Dec (r ≡ k) → T (holds t r c)
        = λ d. elim d [
          | yes q ↦ subst (λ (i : ℕ). T (holds t i c)) (sym q) (closed-row k cs t s hk last c hin hc (subst (λ (i : ℕ). T (f t i c)) q h))
          | no q ↦ closed-sweep k cs t s (omega arith) still r c (omega arith) hin hc h
        ] in
        go (ℕ_discrete r k)

-- ---- The sweeps stop

same_row→eq : (xs ys : List Bool) → T (same_row xs ys) → xs ≡ ys
same_row→eq [] [] h = refl
same_row→eq (true ∷ xs) (true ∷ ys) h = ap (λ (l : List Bool). true ∷ l) (same_row→eq xs ys h)
same_row→eq (false ∷ xs) (false ∷ ys) h = ap (λ (l : List Bool). false ∷ l) (same_row→eq xs ys h)
same_row→eq [] (_ ∷ ys) h = elim h [ ]
same_row→eq (false ∷ xs) [] h = elim h [ ]
same_row→eq (false ∷ xs) (true ∷ ys) h = elim h [ ]
same_row→eq (true ∷ xs) [] h = elim h [ ]
same_row→eq (true ∷ xs) (false ∷ ys) h = elim h [ ]

same_table→eq : (t u : Table) → T (same_table t u) → t ≡ u
same_table→eq [] [] h = refl
same_table→eq (x ∷ xs) (y ∷ ys) h =
    ap (λ (r : List Bool). r ∷ xs) (same_row→eq x y (and_left (same_row x y) (same_table xs ys) h))
    ∙ ap (λ (l : Table). y ∷ l) (same_table→eq xs ys (and_right (same_row x y) (same_table xs ys) h))
same_table→eq [] (y ∷ ys) h = elim h [ ]
same_table→eq (x ∷ xs) [] h = elim h [ ]

same_row_refl : (xs : List Bool) → T (same_row xs xs)
same_row_refl [] = tt
same_row_refl (true ∷ xs) = same_row_refl xs
same_row_refl (false ∷ xs) = same_row_refl xs

same_table_refl : (t : Table) → T (same_table t t)
same_table_refl [] = tt
same_table_refl (x ∷ xs) = and_intro (same_row x x) (same_table xs xs) (same_row_refl x) (same_table_refl xs)

module _ (f : Rule) (n : ℕ) (cs : List ℕ) where
  -- With as many sweeps left as there are bits to set, the last one changes nothing.
  sweeps-still : (k : ℕ) (t : Table) → Sized n (length cs) t → n * length cs ≤ counts t + k → sweep f n cs (sweeps k f n cs t) ≡ sweeps k f n cs t
  unfolding Grew
  sweeps-still zero t s h = go (grew-sweep f n cs t)
    where
      go : Grew t (sweep f n cs t) → sweep f n cs t ≡ t
      go (inl e) = e
      go (inr l) = absurd (omega (arith, counts_le n (length cs) (sweep f n cs t) (sized-sweep f n cs t s)))
  sweeps-still (suc k) t s h = go (λ bits. sweeps-still k (sweep f n cs t) (sized-sweep f n cs t s) bits) (grew-sweep f n cs t) (same_table t (sweep f n cs t)) refl
    where
      u : Table
      u = sweep f n cs t

      after : Bool → Table
      after b = elim b [ true ↦ t | false ↦ sweeps k f n cs u ]

      go : (n * length cs ≤ counts u + k → sweep f n cs (sweeps k f n cs u) ≡ sweeps k f n cs u) → Grew t u
          → (b : Bool) → same_table t u ≡ b → sweep f n cs (after b) ≡ after b
      go again d true e = sym (same_table→eq t u (subst T (sym e) tt))
      go again (inl q) false e = absurd (subst T e (subst (λ (v : Table). T (same_table t v)) (sym q) (same_table_refl t)))
      go again (inr l) false e = again (omega arith)

  sized-sweeps : (k : ℕ) (t : Table) → Sized n (length cs) t → Sized n (length cs) (sweeps k f n cs t)
  sized-sweeps zero t s = s
  sized-sweeps (suc k) t s = go (λ (q : Unit {0}). sized-sweeps k (sweep f n cs t) (sized-sweep f n cs t s)) (same_table t (sweep f n cs t))
    where
      go : (Unit {0} → Sized n (length cs) (sweeps k f n cs (sweep f n cs t))) → (b : Bool) → Sized n (length cs) (elim b [ true ↦ t | false ↦ sweeps k f n cs (sweep f n cs t) ])
      go again true = s
      go again false = again tt

  sized-start : Sized n (length cs) (replicate n (replicate (length cs) false))
  sized-start =
      record {
        rows = length-replicate n (replicate (length cs) false);
        columns = λ r h. ap (λ (row : List Bool). length row) (get_or-replicate n r (replicate (length cs) false) [] h) ∙ length-replicate (length cs) false;
      }

  pub sized-least : Sized n (length cs) (least n cs f)
  unfolding least
  sized-least = sized-sweeps (n * length cs) (replicate n (replicate (length cs) false)) sized-start

  -- What the rule gives is there.
  pub least-closed : (r c : ℕ) → r < n → T (contains cs c) → c < length cs → T (f (least n cs f) r c) → T (holds (least n cs f) r c)
  unfolding least
  least-closed =
      closed-sweep f n cs (least n cs f) sized-least (le_refl n)
      (sweeps-still (n * length cs) (replicate n (replicate (length cs) false)) sized-start (omega arith))

-- ---- Induction

-- all that the table holds is in P
abbrev pub Inside : Table → (ℕ → ℕ → Type 0) → Type 0
Inside t P = (r c : ℕ) → T (holds t r c) → P r c

module _ (f : Rule) (P : ℕ → ℕ → Type 0) (n : ℕ) (all : List ℕ) (keeps : (t : Table) → Inside t P → (r c : ℕ) → r < n → T (contains all c) → T (f t r c) → P r c) where
  inside-step : (t : Table) (r c : ℕ) → r < n → T (contains all c) → Inside t P → Inside (stepped f t r c) P
  unfolding stepped
  inside-step t r c hr hc h = go (f t r c) refl
    where
      go : (b : Bool) → f t r c ≡ b → Inside (cond b (mark t r c) t) P
      go false e = h
      go true e = λ r' c' w. new r' c' (holds-mark-cases t r c r' c' w)
        where
          new : (r' c' : ℕ) → ((r' ≡ r) × (c' ≡ c)) ⊎ T (holds t r' c') → P r' c'
          new r' c' (inl q) = subst₂ P (sym q.0) (sym q.1) (keeps t h r c hr hc (subst T (sym e) tt))
          new r' c' (inr q) = h r' c' q

  inside-sweep_row : (r : ℕ) (cs : List ℕ) (t : Table) → r < n → ((c : ℕ) → T (contains cs c) → T (contains all c)) → Inside t P → Inside (sweep_row f r cs t) P
  unfolding stepped
  inside-sweep_row r [] t hr sub h = h
  inside-sweep_row r (c ∷ cs) t hr sub h =
      inside-sweep_row r cs (stepped f t r c) hr (λ d w. sub d (any-there (eqb d) c cs w)) (inside-step t r c hr (sub c (contains-here c cs)) h)

  inside-sweep : (k : ℕ) (t : Table) → k ≤ n → Inside t P → Inside (sweep f k all t) P
  inside-sweep zero t hk h = h
  inside-sweep (suc k) t hk h = inside-sweep_row k all (sweep f k all t) hk (λ c w. w) (inside-sweep k t (omega arith) h)

  inside-sweeps : (k : ℕ) (t : Table) → Inside t P → Inside (sweeps k f n all t) P
  inside-sweeps zero t h = h
  inside-sweeps (suc k) t h = go (λ (q : Unit {0}). inside-sweeps k (sweep f n all t) (inside-sweep n t (le_refl n) h)) (same_table t (sweep f n all t))
    where
      go : (Unit {0} → Inside (sweeps k f n all (sweep f n all t)) P) → (b : Bool) → Inside (elim b [ true ↦ t | false ↦ sweeps k f n all (sweep f n all t) ]) P
      go again true = h
      go again false = again tt

  nothing : (m r c : ℕ) → T (holds (replicate n (replicate m false)) r c) → ⊥
  nothing m r c h = row (dec_lt r n)
    where
      column : Dec (c < m) → T (get_or (replicate m false) c false) → ⊥
      column (yes l) w = subst T (get_or-replicate m c false false l) w
      column (no l) w = subst T (get_or-eq_default (replicate m false) false (rw length-replicate (omega arith))) w

      row : Dec (r < n) → ⊥
      row (yes l) = column (dec_lt c m) (subst (λ (x : List Bool). T (get_or x c false)) (get_or-replicate n r (replicate m false) [] l) h)
      row (no l) = subst (λ (x : List Bool). T (get_or x c false)) (get_or-eq_default (replicate n (replicate m false)) [] (rw length-replicate (omega arith))) h

  -- Nothing is there that the rule does not bring: a property that the rule keeps holds of all of it.
  pub least_ind : Inside (least n all f) P
  unfolding least
  least_ind = inside-sweeps (n * length all) (replicate n (replicate (length all) false)) (λ r c h. absurd (nothing (length all) r c h))

-- ---- For a rule that more in the table only makes give more, `least` is the least table closed under it.

module _ (f : Rule) (mono : Monotone f) (n : ℕ) (cs : List ℕ) where
  pub least-least : (u : Table) → ((r c : ℕ) → r < n → T (contains cs c) → T (f u r c) → T (holds u r c))
      → (r c : ℕ) → T (holds (least n cs f) r c) → T (holds u r c)
  least-least u closed = least_ind f (λ r c. T (holds u r c)) n cs (λ t inside r c hr hc h. closed r c hr hc (mono t u inside r c h))

  -- what the rule gives within it is in it: the step of a search that keeps within
  pub least-has : (t : Table) → Inside t (λ r c. T (holds (least n cs f) r c)) → (r c : ℕ) → r < n → T (contains cs c) → c < length cs → T (f t r c) → T (holds (least n cs f) r c)
  least-has t inside r c hr hc hl h = least-closed f n cs r c hr hc hl (mono t (least n cs f) inside r c h)

  -- a table of its size that keeps within and to which the rule adds nothing is it
  pub least_unique : (u : Table) → Sized n (length cs) u → ((r c : ℕ) → r < n → T (contains cs c) → T (f u r c) → T (holds u r c))
      → Inside u (λ r c. T (holds (least n cs f) r c)) → u ≡ least n cs f
  least_unique u s closed inside =
      table_ext u (least n cs f) s (sized-least f n cs) (λ r c. same_bool (holds u r c) (holds (least n cs f) r c) (inside r c) (least-least u closed r c))
