-- The whole record. Assumes nothing.
use mathlib.Core.Path.{◌≡◌, refl, sym, ap, subst, ◌∙◌}
use mathlib.Core.Bool.{Bool, true, false, cond, ◌&&◌, and-eq-true_iff}
use mathlib.Core.List.{List, [], ◌∷◌}
use Prim.Native.Nat.{ℕ, ◌+◌, ◌-◌, ◌*◌, ◌≤◌, ◌<◌}
use native.Mathlib.Omega.{arith}
use native.Mathlib.Decide.{dec_lt}
use lib.ListN.{length, get_or, drop, drop_of_length-le}
use lib.Seq.{drop-cons}
use lib.Dec.{leb, eqb}
use borrow.Author.Tests.{lt-ltb, le-ltb, le-leb, lt-leb, eq-eqb, ne_eqb, leb-true}
use Rattle.nll_spec.specs.Decode.{Reading, refused, read, Reader, done, refuse, ◌>>=◌, byte, count, items, counted, struct_decl, type, block}
use Rattle.nll_spec.specs.Decode.{borrow_count, point_count, job, whole, decode_body, max_structs, max_regions, max_declared, max_variables, max_blocks}
use Rattle.nll_spec.specs.Decode.{max_outlived, max_points, max_loans, max_length}
use Rattle.nll_spec.specs.Decode as decode
use Rattle.repr.specs.Reading.{rest}
use Rattle.repr.specs.declared.Cursor.{Cursor}
use Rattle.repr.proofs.ReadLaws.{step, stop, clash}
use Rattle.repr.proofs.ItemLaws.{items-length}
use Rattle.record.specs.Rows.{Row}
use Rattle.record.specs.Blocks.{Blocks, BlocksResult}
use Rattle.record.specs.Layout.{DecodedSays, InRange, counts_says, CountsSay, parts_of, head_of, Parts, PartsSay}
use Rattle.record.specs.Layout.{verdict_of}
use Rattle.record.specs.declared.Counts.{Counts}
use Rattle.repr.specs.declared.refusal.Refusal.{Refusal}
use Rattle.repr.specs.Refusals.{number_of}
use Rattle.repr.specs.declared.refusal.Refusal.TheVariants.{Size}
use Rattle.record.specs.declared.Code.{Code}
use Rattle.record.specs.declared.Head.{Head}
use Rattle.record.specs.declared.Offsets.{Offsets}
use Rattle.std.specs.Prelude.{Result, Ok, Err}

-- ---- Counts

-- a count that was read is in its range
pub count_most : (low high : ℕ) {n : ℕ} (bs : List ℕ) {over : List ℕ} → count low high bs ≡ read n over → n ≤ high
unfolding count done refuse
count_most low high {n} bs {over} e = go (byte bs) refl
  where
    test : (m : ℕ) (r : List ℕ) (b : Bool) → leb low m && leb m high ≡ b → cond b (done m) (refuse 4) r ≡ read n over → n ≤ high
    test m r true i j = let z : n ≡ m = cc in let l = leb-true m high ((and-eq-true_iff (leb low m) (leb m high)).0 i).1 in omega arith
    test m r false i j = absurd (clash j)

    go : (x : Reading ℕ) → byte bs ≡ x → n ≤ high
    go (refused k) i = absurd (clash (sym (stop _ _ _ i) ∙ e))
    go (read m r) i = test m r (leb low m && leb m high) refl (sym (step _ _ _ i) ∙ e)

-- ---- The rows

module _ {n : Counts} {s : List ℕ} {c₁ c₂ c₃ c₄ : ℕ} {a₁ a₂ a₃ : List ℕ} (t : Offsets) (fit : InRange n) (short : length s ≤ 65535) (structs : Row struct_decl s c₁ c₂ n.structs a₁) (k₁ : t.structs ≡ a₁) (outlives : Row (counted max_outlived byte) s c₂ c₃ n.declared a₂) (k₂ : t.outlives ≡ a₂) (variables : Row type s c₃ c₄ n.variables a₃) (k₃ : t.variables ≡ a₃) where
  ended_parts : {c₅ : Cursor} {points loans : ℕ} → Blocks s c₄ c₅.at n.blocks points loans t → Parts n s c₁ c₅.at points loans t
  unfolding parts_of done borrow_count
  ended_parts b = record {
    job = record { structs = structs.found; regions = n.regions; outlives = outlives.found; variables = variables.found; start = 0; blocks = b.found };
    reads = step _ _ _ structs.reads ∙ step _ _ _ outlives.reads ∙ step _ _ _ variables.reads ∙ step _ _ _ b.reads;
    lends = b.lends;
    most = b.most;
    counts = b.counts;
    declared = items-length _ _ _ outlives.reads;
    layout = λ few. record {
      structs = rw k₁ structs.stands;
      outlives = rw k₂ outlives.stands;
      variables = rw k₃ variables.stands;
      blocks = b.placed;
      regions = refl;
      code = b.counts;
      struct_count = items-length _ _ _ structs.reads;
      declared_count = items-length _ _ _ outlives.reads;
      variable_count = items-length _ _ _ variables.reads;
      block_count = items-length _ _ _ b.reads;
      struct_limit = fit.structs;
      region_limit = fit.regions;
      declared_limit = fit.declared;
      variable_limit = fit.variables;
      block_limit = fit.blocks;
      few = omega (arith, b.counts);
      short = short;
      start = refl;
    };
  }

  pub parts_end : (c : Cursor) → c.at ≡ c₄ → (r : Result Code Refusal) → BlocksResult s c n.blocks t r → PartsSay n s c₁ t r
  unfolding parts_of
  parts_end c e (Ok r) b = record { result = ended_parts (subst (λ (x : ℕ). Blocks s x r.next.at n.blocks r.points r.loans t) e b) }
  parts_end c e (Err k) b = record { result = step _ _ _ structs.reads ∙ step _ _ _ outlives.reads ∙ step _ _ _ variables.reads ∙ stop _ _ _ (subst (λ (x : ℕ). items n.blocks block (drop x s) ≡ refused (number_of k)) e b) }

-- ---- What follows the length

module _ {s : List ℕ} {t : Offsets} where
  -- what is known of a reading is known of the job
  pub says_as : {d e : decode.Decoded} {r q : Result Head Refusal} → d ≡ e → r ≡ q → DecodedSays e s t q → DecodedSays d s t r
  says_as {d} {e} {r} {q} i j h = subst (λ (x : decode.Decoded). DecodedSays x s t r) (sym i) (subst (λ (x : Result Head Refusal). DecodedSays e s t x) (sym j) h)

counted-job : (bs : List ℕ) → job bs ≡ ◌>>=◌ (count 0 max_structs) (λ structs. ◌>>=◌ (count 0 max_regions) (λ regions. ◌>>=◌ (count 0 max_declared) (λ declared. ◌>>=◌ (count 0 max_variables) (λ v. ◌>>=◌ (count 1 max_blocks) (λ b. parts_of structs regions declared v b))))) bs
unfolding job parts_of
counted-job bs = refl

pub job-counts : {s : List ℕ} {r x : Result (Counts × Cursor) Refusal} → CountsSay s 3 r → r ≡ x → job (drop 3 s) ≡ counts_says parts_of s x
job-counts {s} {r} {x} h e = counted-job (drop 3 s) ∙ sym (h.same parts_of) ∙ ap (counts_says parts_of s) e

-- a refusal of the job is one of the record
pub job-refused : {s : List ℕ} {t : Offsets} (bs : List ℕ) {k : Refusal} → job bs ≡ refused (number_of k) → DecodedSays (whole (job bs)) s t (Err k)
unfolding whole
job-refused bs e = record { says = ap whole e }

module _ {n : Counts} {s : List ℕ} {from : ℕ} {t : Offsets} (next : Cursor) {points loans : ℕ} (p : Parts n s from next.at points loans t) where
  points-are : point_count p.job ≡ points + n.declared
  unfolding point_count
  points-are = omega (arith, p.counts, p.declared)

  accepted : (b : Bool) → leb (points + n.declared) max_points && leb loans max_loans ≡ b → DecodedSays (cond (leb (point_count p.job) max_points && leb (borrow_count p.job) max_loans) (decode.decoded p.job) (decode.rejected 5)) s t (cond b (Ok (head_of n points)) (Err Size))
  accepted true e =
      let tests = (and-eq-true_iff (leb (points + n.declared) max_points) (leb loans max_loans)).0 e in
      let few = leb-true (points + n.declared) max_points tests.0 in
      let lent = leb-true loans max_loans tests.1 in
      record { says = record { job = p.job; is = rw (points-are, ← p.lends, e); points = omega (arith, points-are); loans = omega (arith, p.lends); layout = p.layout (omega arith) } }
  accepted false e = record { says = rw (points-are, ← p.lends, e) }

  pub whole_says : (bs : List ℕ) {r : Result Head Refusal} → job bs ≡ parts_of n.structs n.regions n.declared n.variables n.blocks (drop from s) → r ≡ verdict_of n (length s) next points loans → DecodedSays (whole (job bs)) s t r
  unfolding whole
  whole_says bs {r} e v = says_as (ap whole (e ∙ p.reads)) v (go (dec_lt next.at (length s)))
    where
      go : Dec (next.at < length s) → DecodedSays (whole (read p.job (drop next.at s))) s t (verdict_of n (length s) next points loans)
      go (yes h) = rw (drop-cons s next.at 0 h, lt-ltb next.at (length s) h) (record { says = refl })
      go (no h) = let l : length s ≤ next.at = omega arith in rw (drop_of_length-le s l, le-ltb next.at (length s) l) (accepted (leb (points + n.declared) max_points && leb loans max_loans) refl)

-- ---- The record's first bytes

module _ (s : List ℕ) where
  pub version_missing : length s < 1 → decode.decode s ≡ decode.rejected 1
  unfolding decode.decode
  version_missing h = go s h
    where
      go : (s : List ℕ) → length s < 1 → decode.decode s ≡ decode.rejected 1
      go [] h = refl
      go (v ∷ rest) h = absurd (omega arith)

  pub version_other : 1 ≤ length s → (get_or s 0 0 ≡ 1 → ⊥) → decode.decode s ≡ decode.rejected 1
  unfolding decode.decode
  version_other h = go s h
    where
      go : (s : List ℕ) → 1 ≤ length s → (get_or s 0 0 ≡ 1 → ⊥) → decode.decode s ≡ decode.rejected 1
      go [] h z = absurd (omega arith)
      go (v ∷ rest) h z = rw (ne_eqb v 1 z)

  pub length-missing : 1 ≤ length s → get_or s 0 0 ≡ 1 → length s < 3 → decode.decode s ≡ decode.rejected 2
  unfolding decode.decode decode_body
  length-missing = go s
    where
      go : (s : List ℕ) → 1 ≤ length s → get_or s 0 0 ≡ 1 → length s < 3 → decode.decode s ≡ decode.rejected 2
      go [] h z l = absurd (omega arith)
      go (v ∷ []) h z l = rw (eq-eqb v 1 z)
      go (v ∷ high ∷ []) h z l = rw (eq-eqb v 1 z)
      go (v ∷ high ∷ low ∷ rest) h z l = absurd (omega arith)

  -- what follows, by the tests of its length
  body : (s : List ℕ) → get_or s 0 0 ≡ 1 → 3 ≤ length s → decode.decode s ≡ cond (leb (get_or s 1 0 * 256 + get_or s 2 0) max_length && eqb (get_or s 1 0 * 256 + get_or s 2 0) (length s - 3)) (whole (job (drop 3 s))) (decode.rejected 2)
  unfolding decode.decode decode_body
  body [] z l = absurd (omega arith)
  body (v ∷ []) z l = absurd (omega arith)
  body (v ∷ high ∷ []) z l = absurd (omega arith)
  body (v ∷ high ∷ low ∷ rest) z l = let e : length (v ∷ high ∷ low ∷ rest) - 3 ≡ length rest = omega arith in rw (eq-eqb v 1 z, e)

  module _ (z : get_or s 0 0 ≡ 1) (l : 3 ≤ length s) {high low : ℕ} (i : high ≡ get_or s 1 0) (j : low ≡ get_or s 2 0) where
    by_length : decode.decode s ≡ cond (leb (high * 256 + low) max_length && eqb (high * 256 + low) (length s - 3)) (whole (job (drop 3 s))) (decode.rejected 2)
    by_length = rw (i, j) (body s z l)

    pub length_over : 16384 < high * 256 + low → decode.decode s ≡ decode.rejected 2
    length_over h = by_length ∙ rw (lt-leb (high * 256 + low) 16384 h)

    module _ (h : high * 256 + low ≤ 16384) where
      pub length_other : (high * 256 + low ≡ length s - 3 → ⊥) → decode.decode s ≡ decode.rejected 2
      length_other k = by_length ∙ rw (le-leb (high * 256 + low) 16384 h, ne_eqb (high * 256 + low) (length s - 3) k)

      pub length_right : high * 256 + low ≡ length s - 3 → decode.decode s ≡ whole (job (drop 3 s))
      length_right k = by_length ∙ rw (le-leb (high * 256 + low) 16384 h, eq-eqb (high * 256 + low) (length s - 3) k)
