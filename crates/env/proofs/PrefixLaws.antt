-- Prefixes: by the steps alone, and by the kinds of the types that the steps leave. Assumes nothing.
use mathlib.Core.Path.{◌≡◌, refl, sym, ap, ◌∙◌}
use mathlib.Core.Bool.{Bool, true, false, ◌&&◌, not, cond, and-true, and-false, and_assoc}
use mathlib.Core.List.{List, [], ◌∷◌, ◌++◌}
use Prim.Native.Nat.{ℕ, zero, suc, ◌+◌, ◌≤◌, ◌<◌}
use native.Mathlib.Omega.{arith}
use native.Mathlib.Numerals.{add-one}
use native.Mathlib.Decide.{dec_lt}
use lib.Seq.{drop-nil, take-suc, drop-append-le, length-take-le}
use Rattle.repr.specs.Reading.{path_of}
use Rattle.repr.specs.declared.Path as repr
use Rattle.std.specs.Prelude.{nat_eq}
use Rattle.std.specs.List.{starts_with}
use lib.Dec.{eqb, leb}
use lib.ListN.{length, get_or, take, drop, length-take, drop_of_length-le}
use borrow.Author.Tests.{eqb-true, eq-eqb, ne_eqb, le-leb, lt-leb}
use Rattle.nll_spec.specs.Lists.{every}
use Rattle.nll_spec.specs.Syntax.{Mut, Shared, Ty, UnitTy, RefTy, StructTy, BoundTy, StructDecl, Path, Job}
use Rattle.nll_spec.specs.Types.{is_ref, is_shared, step, type_after, variable_type, never_stops, begins, prefix_by, is_prefix, is_supporting, is_frozen}
use Rattle.env.specs.Prefixes.{starts, kind_code, Leaves, not_shared, not_ref, Least, later_of, ShortestIn, ShortestOf}
use Rattle.env.specs.declared.Shortest.{Shortest}

-- ---- By the steps alone

module _ (ss : List StructDecl) (stop : Ty → Bool) (never : (t : Ty) → stop t ≡ false) where
  never_starts : (t : Ty) (gs : List ℕ) → never_stops ss stop t gs ≡ true
  unfolding never_stops
  never_starts t [] = refl
  never_starts t (g ∷ gs) = rw (never t) (never_starts (step ss t g) gs)

  begins-starts : (t : Ty) (fs gs : List ℕ) → begins ss stop t fs gs ≡ starts fs gs
  unfolding begins
  begins-starts t [] gs = never_starts t gs
  begins-starts t (f ∷ fs) [] = refl
  begins-starts t (f ∷ fs) (g ∷ gs) = ap (λ (b : Bool). eqb f g && b) (begins-starts (step ss t f) fs gs)

pub prefix_starts : (j : Job) (q p : Path) → is_prefix j q p ≡ eqb q.base p.base && starts q.steps p.steps
unfolding is_prefix
prefix_starts j q p = ap (λ (b : Bool). eqb q.base p.base && b) (begins-starts j.structs _ (λ t. refl) (variable_type j q.base) q.steps p.steps)

-- ---- By the kinds

-- the kinds of the types that the steps from t leave
record Along (ss : List StructDecl) (t : Ty) (steps kinds : List ℕ) : Type 0 where
  pub room : length steps ≤ length kinds
  pub kind : (i : ℕ) → i < length steps → get_or kinds i 0 ≡ kind_code (type_after ss t (take i steps))

along-rest : {ss : List StructDecl} {t : Ty} {f : ℕ} {fs : List ℕ} {k : ℕ} {ks : List ℕ} → Along ss t (f ∷ fs) (k ∷ ks) → Along ss (step ss t f) fs ks
unfolding type_after
along-rest a = record { room = let h = a.room in omega arith; kind = λ i h. a.kind (suc i) (omega arith) }

along-first : {ss : List StructDecl} {t : Ty} {f : ℕ} {fs : List ℕ} {k : ℕ} {ks : List ℕ} → Along ss t (f ∷ fs) (k ∷ ks) → k ≡ kind_code t
unfolding type_after
along-first a = a.kind 0 (omega arith)

module _ (ss : List StructDecl) (stop : Ty → Bool) (test : ℕ → Bool) (same : (t : Ty) → not (stop t) ≡ test (kind_code t)) where
  never_kinds : (t : Ty) (gs ks : List ℕ) → Along ss t gs ks → never_stops ss stop t gs ≡ every test (take (length gs) ks)
  unfolding never_stops
  never_kinds t [] ks a = refl
  never_kinds t (g ∷ gs) [] a = absurd (let h = a.room in omega arith)
  never_kinds t (g ∷ gs) (k ∷ ks) a = rw (same t, ← along-first a, never_kinds (step ss t g) gs ks (along-rest a))

  begins-kinds : (t : Ty) (fs gs ks : List ℕ) → Along ss t gs ks → begins ss stop t fs gs ≡ starts fs gs && every test (drop (length fs) (take (length gs) ks))
  unfolding begins
  begins-kinds t [] gs ks a = never_kinds t gs ks a
  begins-kinds t (f ∷ fs) [] ks a = refl
  begins-kinds t (f ∷ fs) (g ∷ gs) [] a = absurd (let h = a.room in omega arith)
  begins-kinds t (f ∷ fs) (g ∷ gs) (k ∷ ks) a = go (eqb f g) refl (λ e. begins-kinds (step ss t f) fs gs ks (rw e at (along-rest a)))
    where
      go : (b : Bool) → eqb f g ≡ b → (g ≡ f → begins ss stop (step ss t f) fs gs ≡ starts fs gs && every test (drop (length fs) (take (length gs) ks))) → (eqb f g && begins ss stop (step ss t f) fs gs) ≡ (eqb f g && starts fs gs) && every test (drop (length fs) (take (length gs) ks))
      go true e r = rw e (r (sym (eqb-true f g e)))
      go false e r = rw e

-- as the test of slices has it
pub starts-with : (fs gs : List ℕ) → starts_with nat_eq gs fs ≡ starts fs gs
starts-with [] gs = refl
starts-with (f ∷ fs) [] = refl
starts-with (f ∷ fs) (g ∷ gs) = ap (λ (b : Bool). eqb f g && b) (starts-with fs gs)

module _ (s : List ℕ) (q p : repr.Path) (j : Job) where
  pub prefix_other : (q.base.0 ≡ p.base.0 → ⊥) → false ≡ is_prefix j (path_of s q) (path_of s p)
  prefix_other h = sym (prefix_starts j (path_of s q) (path_of s p) ∙ rw (ne_eqb q.base.0 p.base.0 h))

  pub prefix_of : {r : Bool} → q.base.0 ≡ p.base.0 → r ≡ starts (take q.steps (drop q.from.at s)) (take p.steps (drop p.from.at s)) → r ≡ is_prefix j (path_of s q) (path_of s p)
  prefix_of h e = e ∙ sym (prefix_starts j (path_of s q) (path_of s p) ∙ rw (eq-eqb q.base.0 p.base.0 h))

-- ---- The shortest prefixes, by the kinds

every-last : (test : ℕ → Bool) (xs : List ℕ) (k : ℕ) → every test (xs ++ (k ∷ [])) ≡ every test xs && test k
every-last test [] k = and-true (test k)
every-last test (x ∷ xs) k = ap (λ (b : Bool). test x && b) (every-last test xs k) ∙ sym (and_assoc (test x) (every test xs) (test k))

module _ {test : ℕ → Bool} {kinds : List ℕ} {i a : ℕ} (g : Least test kinds i a) (h : i < length kinds) where
  -- past the steps there is nothing to test
  past : (n m : ℕ) → n ≤ m → every test (drop m (take n kinds)) ≡ true
  past n m l = let e : length (take n kinds) ≤ m = simp length-take (omega arith) in rw (drop_of_length-le (take n kinds) e)

  within : (m : ℕ) → m ≤ i → every test (drop m (take (i + 1) kinds)) ≡ leb a m && test (get_or kinds i 0)
  within m l =
      let e : m ≤ length (take i kinds) = simp length-take (omega arith) in
      rw (add-one, take-suc kinds i 0 h, drop-append-le m (take i kinds) (get_or kinds i 0 ∷ []) e, every-last test (drop m (take i kinds)) (get_or kinds i 0), ← g.says m)

  least_keep : test (get_or kinds i 0) ≡ true → Least test kinds (i + 1) a
  least_keep t = record { says = λ m. go m (dec_lt i m) }
    where
      go : (m : ℕ) → Dec (i < m) → leb a m ≡ every test (drop m (take (i + 1) kinds))
      go m (yes l) = g.says m ∙ past i m (omega arith) ∙ sym (past (i + 1) m (omega arith))
      go m (no l) = sym (within m (omega arith) ∙ rw (t, and-true (leb a m)))

  least-set : test (get_or kinds i 0) ≡ false → Least test kinds (i + 1) (i + 1)
  least-set t = record { says = λ m. go m (dec_lt i m) }
    where
      go : (m : ℕ) → Dec (i < m) → leb (i + 1) m ≡ every test (drop m (take (i + 1) kinds))
      go m (yes l) = le-leb (i + 1) m (omega arith) ∙ sym (past (i + 1) m (omega arith))
      go m (no l) = lt-leb (i + 1) m (omega arith) ∙ sym (within m (omega arith) ∙ rw (t, and-false (leb a m)))

  least_more : (b : Bool) → test (get_or kinds i 0) ≡ b → Least test kinds (i + 1) (cond b a (i + 1))
  least_more true t = least_keep t
  least_more false t = least-set t

pub shortest-none : (kinds : List ℕ) → ShortestIn kinds 0 (record { supporting = 0; frozen = 0 })
shortest-none kinds = record { supporting = record { says = none not_shared }; frozen = record { says = none not_ref } }
  where
    none : (test : ℕ → Bool) (m : ℕ) → leb 0 m ≡ every test (drop m [])
    none test m = le-leb 0 m (omega arith) ∙ sym (ap (every test) (drop-nil m))

pub shortest-more : {kinds : List ℕ} {i k : ℕ} {r x : Shortest} → ShortestIn kinds i r → i < length kinds → k ≡ get_or kinds i 0 → x ≡ later_of r k (i + 1) → ShortestIn kinds (i + 1) x
shortest-more {kinds} {i} {k = k} {r = r} g h e f = rw f (record { supporting = least_more g.supporting h (not_shared k) (ap not_shared (sym e)); frozen = least_more g.frozen h (not_ref k) (ap not_ref (sym e)) })

-- ---- The shortest prefixes of a path

shared_kind : (t : Ty) → not (is_shared t) ≡ not_shared (kind_code t)
shared_kind UnitTy = refl
shared_kind (RefTy Mut r t) = refl
shared_kind (RefTy Shared r t) = refl
shared_kind (StructTy s given) = refl
shared_kind (BoundTy b) = refl

pub ref_kind : (t : Ty) → not (is_ref t) ≡ not_ref (kind_code t)
ref_kind UnitTy = refl
ref_kind (RefTy Mut r t) = refl
ref_kind (RefTy Shared r t) = refl
ref_kind (StructTy s given) = refl
ref_kind (BoundTy b) = refl

module _ (j : Job) (p : Path) {kinds names : List ℕ} (l : Leaves j.structs (variable_type j p.base) p.steps kinds names) (size : length kinds ≡ 8) (few : length p.steps ≤ 8) where
  along : Along j.structs (variable_type j p.base) p.steps kinds
  along = record { room = omega arith; kind = λ i h. l.kind i h (omega arith) }

  by_least : (stop : Ty → Bool) (test : ℕ → Bool) → ((t : Ty) → not (stop t) ≡ test (kind_code t)) → {a : ℕ} → Least test kinds (length p.steps) a → (q : Path) → prefix_by stop j q p ≡ is_prefix j q p && leb a (length q.steps)
  by_least stop test same {a} g q = go (eqb q.base p.base) refl
    where
      go : (b : Bool) → eqb q.base p.base ≡ b → prefix_by stop j q p ≡ is_prefix j q p && leb a (length q.steps)
      go true e =
          let i : q.base ≡ p.base = eqb-true q.base p.base e in
          rw (prefix_starts j q p, e, g.says (length q.steps), i) (begins-kinds j.structs stop test same (variable_type j p.base) q.steps p.steps kinds along)
      go false e = rw (prefix_starts j q p, e)

  pub shortest-of : {r : Shortest} → ShortestIn kinds (length p.steps) r → ShortestOf j p r
  unfolding is_supporting is_frozen
  shortest-of g = record { supporting = by_least is_shared not_shared shared_kind g.supporting; frozen = by_least is_ref not_ref ref_kind g.frozen }

-- ---- The prefix of the first steps

begins-take : (ss : List StructDecl) (stop : Ty → Bool) (t : Ty) (m : ℕ) (gs : List ℕ) → begins ss stop t (take m gs) gs ≡ never_stops ss stop (type_after ss t (take m gs)) (drop m gs)
unfolding begins type_after
begins-take ss stop t zero gs = refl
begins-take ss stop t (suc m) [] = refl
begins-take ss stop t (suc m) (g ∷ gs) = rw (eq-eqb g g refl) (begins-take ss stop (step ss t g) m gs)

starts-take : (m : ℕ) (gs : List ℕ) → starts (take m gs) gs ≡ true
starts-take zero gs = refl
starts-take (suc m) [] = refl
starts-take (suc m) (g ∷ gs) = rw (eq-eqb g g refl) (starts-take m gs)

supporting-begins : (j : Job) (p q : Path) → q.base ≡ p.base → {qs : List ℕ} → q.steps ≡ qs → begins j.structs is_shared (variable_type j p.base) qs p.steps ≡ is_supporting j q p
unfolding is_supporting
supporting-begins j p q b e = sym (rw (eq-eqb q.base p.base b, b, e))

-- none of the steps after the first i + 1 leaves a Shared Ref
pub later_never_stops : (j : Job) (p : Path) {r : Shortest} → ShortestOf j p r → (i : ℕ) → i < length p.steps → never_stops j.structs is_shared (type_after j.structs (variable_type j p.base) (take (i + 1) p.steps)) (drop (i + 1) p.steps) ≡ leb r.supporting (i + 1)
later_never_stops j p {r} g i h = go (record { base = p.base; steps = take (i + 1) p.steps }) refl refl
  where
    go : (q : Path) → q.base ≡ p.base → q.steps ≡ take (i + 1) p.steps → never_stops j.structs is_shared (type_after j.structs (variable_type j p.base) (take (i + 1) p.steps)) (drop (i + 1) p.steps) ≡ leb r.supporting (i + 1)
    go q b e =
        let l : length q.steps ≡ i + 1 = ap length e ∙ length-take-le (i + 1) p.steps (omega arith) in
        let k : is_prefix j q p ≡ true = prefix_starts j q p ∙ rw (eq-eqb q.base p.base b, e, starts-take (i + 1) p.steps) in
        sym (begins-take j.structs is_shared (variable_type j p.base) (i + 1) p.steps) ∙ supporting-begins j p q b e ∙ g.supporting q ∙ rw (k, l)
