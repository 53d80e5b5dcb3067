-- The steps through the listing of an answer, and chunks of them.
-- Assumes nothing.
use mathlib.Core.Path.{◌≡◌, refl, sym, ◌∙◌, ap, ap₂}
use mathlib.Core.Bool.{Bool, true, false, cond}
use mathlib.Core.List.{List, [], ◌∷◌, ◌++◌, append_assoc}
use Prim.Native.Nat.{ℕ, suc, ◌+◌, ◌-◌, ◌*◌, ◌<◌, ◌≤◌}
use native.Mathlib.Omega.{arith}
use native.Mathlib.Numerals.{add-one}
use lib.ListN.{length, get_or}
use lib.Dec.{eqb}
use borrow.Author.Tests.{eq-eqb, ne_eqb}
use Rattle.nll_spec.specs.Lists.{gather, count_from}
use Rattle.nll_spec.specs.Syntax.{Job}
use Rattle.nll_spec.specs.Decode as decode
use Rattle.nll_spec.specs.Output.{verdict_bytes}
use Rattle.nll_spec.specs.Listing.{ascii, spaced, line}
use Rattle.record.specs.Layout.{DecodedSays, Verdict}
use Rattle.record.specs.declared.Head.{Head}
use Rattle.record.specs.declared.Offsets.{Offsets}
use Rattle.repr.specs.declared.refusal.Refusal.{Refusal}
use Rattle.std.specs.Prelude.{Result, Ok, Option, Some, None}
use Rattle.buffer.specs.Appending.{Appends}
use Rattle.buffer.proofs.AppendLaws.{appends_none}
use Rattle.listing.specs.Places.{Counted, in_set, point_text, access_text, grown_text, text_from, region_text, grown_from, access_from, region_from, rest_of, left, left_after, Follows, Steps}
use Rattle.listing.specs.declared.Counts.{Counts}
use Rattle.listing.specs.declared.places.Answer.{Answer}
use Rattle.listing.specs.declared.Place.{Place}
use Rattle.listing.specs.declared.Place.TheVariants.{Points, Region, Within, Access, Grown}
use Rattle.listing.proofs.WriteLaws.{join, spaced-room, pair_room, line-room, line-room_three}

-- ---- The text of numbers, one by one

module _ (f : ℕ → List ℕ) (i n : ℕ) where
  text-end : n ≤ i → text_from f i n ≡ []
  unfolding text_from
  text-end h = let e : n - i ≡ 0 = omega arith in ap (λ (k : ℕ). gather f (count_from i k)) e

  text-more : i < n → text_from f i n ≡ f i ++ text_from f (i + 1) n
  unfolding text_from
  text-more h =
      let e : n - i ≡ suc (n - (i + 1)) = omega arith in
      ap (λ (k : ℕ). gather f (count_from i k)) e ∙ ap (λ (k : ℕ). f i ++ gather f (count_from k (n - (i + 1)))) (sym (add-one i))

  -- the first text, and then the others and what follows them
  text_then : (text tail : List ℕ) → i < n → f i ≡ text → text_from f i n ++ tail ≡ text ++ (text_from f (i + 1) n ++ tail)
  text_then text tail h e = ap (λ (l : List ℕ). l ++ tail) (text-more h ∙ ap (λ (l : List ℕ). l ++ text_from f (i + 1) n) e) ∙ append_assoc text (text_from f (i + 1) n) tail

  text-over : (tail : List ℕ) → n ≤ i → text_from f i n ++ tail ≡ tail
  text-over tail h = ap (λ (l : List ℕ). l ++ tail) (text-end h)

-- ---- A step that puts nothing, and one that puts a text

module _ {a : Answer} {from : Place} {next : Option Place} where
  quiet : {t : List ℕ} → rest_of a (Some from) ≡ rest_of a next → left_after a.counts next ≤ left a.counts from - 1 → Steps a from t next t
  quiet {t} e l = record { bytes = []; puts = appends_none t; short = omega arith; goes = e; less = l }

  loud : {bytes : List ℕ} {old new : List ℕ} → Appends bytes old new → length bytes ≤ 32 → rest_of a (Some from) ≡ bytes ++ rest_of a next → left_after a.counts next ≤ left a.counts from - 1
      → Steps a from old next new
  loud {bytes} p s e l = record { bytes = bytes; puts = p; short = s; goes = e; less = l }

-- ---- The steps at each place

module _ (a : Answer) where
  pub at_points : a.counts.points ≤ 65535 → {old new : List ℕ} → Appends (line "points" (a.counts.points ∷ [])) old new → Steps a Points old (Some (Region 0)) new
  unfolding ascii
  at_points h p = loud p (omega (arith, line-room "points" a.counts.points h)) refl (omega arith)

  pub region_over : (r : ℕ) → a.counts.regions ≤ r → {t : List ℕ} → Steps a (Region r) t (Some (Access 0)) t
  unfolding region_from
  region_over r h = quiet (text-over (region_text a.words.now a.counts.points) r a.counts.regions (access_from a.counts a.words.now a.bytes.now 0) h) (omega arith)

  pub region_line : (r : ℕ) → r < a.counts.regions → a.counts.points ≤ 65535 → r ≤ 255 → {old new : List ℕ} → Appends (ascii "region" ++ spaced r) old new → Steps a (Region r) old (Some (Within r 0)) new
  unfolding region_from region_text ascii
  region_line r h k l p =
      loud p (omega (arith, pair_room (ascii "region") r (omega arith)))
      (text_then (region_text a.words.now a.counts.points) r a.counts.regions (region_text a.words.now a.counts.points r) (access_from a.counts a.words.now a.bytes.now 0) h refl
      ∙ join (ascii "region" ++ spaced r) (text_from (point_text a.words.now a.counts.points r) 0 a.counts.points) (10 ∷ []) (region_from a.counts a.words.now a.bytes.now (r + 1)))
      (omega arith)

  module _ (r p : ℕ) where
    pub within_over : a.counts.points ≤ p → {next : Place} {old new : List ℕ} → Appends (10 ∷ []) old new → Follows a.counts r next → Steps a (Within r p) old (Some next) new
    within_over h q f =
        loud q (omega arith)
        (text-over (point_text a.words.now a.counts.points r) p a.counts.points (10 ∷ region_from a.counts a.words.now a.bytes.now (r + 1)) h ∙ ap (λ (l : List ℕ). 10 ∷ l) (sym (f.goes a.words.now a.bytes.now)))
        (omega (arith, f.less))

    module _ (h : p < a.counts.points) {x : Bool} (e : x ≡ in_set a.words.now a.counts.points r p) where
      pub within_in : x ≡ true → p ≤ 65535 → {old new : List ℕ} → Appends (spaced p) old new → Steps a (Within r p) old (Some (Within r (p + 1))) new
      unfolding point_text
      within_in t k q =
          loud q (omega (arith, spaced-room p k))
          (text_then (point_text a.words.now a.counts.points r) p a.counts.points (spaced p) (10 ∷ region_from a.counts a.words.now a.bytes.now (r + 1)) h (ap (λ (b : Bool). cond b (spaced p) []) (sym e ∙ t)))
          (omega arith)

      pub within_out : x ≡ false → {t : List ℕ} → Steps a (Within r p) t (Some (Within r (p + 1))) t
      unfolding point_text
      within_out t =
          quiet (text_then (point_text a.words.now a.counts.points r) p a.counts.points [] (10 ∷ region_from a.counts a.words.now a.bytes.now (r + 1)) h (ap (λ (b : Bool). cond b (spaced p) []) (sym e ∙ t)))
          (omega arith)

  module _ (p : ℕ) where
    pub access_over : a.counts.points ≤ p → {t : List ℕ} → Steps a (Access p) t (Some (Grown 0)) t
    unfolding access_from
    access_over h = quiet (text-over (access_text a.bytes.now) p a.counts.points (grown_from a.counts a.words.now a.bytes.now 0) h) (omega arith)

    module _ (h : p < a.counts.points) {kind : ℕ} (ek : kind ≡ get_or a.bytes.now (2 * p) 0) where
      pub access_none : kind ≡ 0 → {t : List ℕ} → Steps a (Access p) t (Some (Access (p + 1))) t
      unfolding access_from access_text
      access_none z =
          quiet (text_then (access_text a.bytes.now) p a.counts.points [] (grown_from a.counts a.words.now a.bytes.now 0) h (ap (λ (x : ℕ). cond (eqb x 0) [] (line_of x)) (sym ek) ∙ rw (eq-eqb kind 0 z)))
          (omega arith)
        where
          line_of : ℕ → List ℕ
          line_of x = line "access" (p ∷ x ∷ get_or a.bytes.now (verdict_bytes * p + 1) 0 ∷ [])

      pub access_fault : (kind ≡ 0 → ⊥) → p ≤ 65535 → kind ≤ 255 → {operand : ℕ} → operand ≡ get_or a.bytes.now (2 * p + 1) 0 → operand ≤ 255 → {old new : List ℕ}
          → Appends (line "access" (p ∷ kind ∷ operand ∷ [])) old new → Steps a (Access p) old (Some (Access (p + 1))) new
      unfolding access_from access_text ascii
      access_fault nz k l {operand} eo m q =
          loud q (omega (arith, line-room_three "access" p kind operand k (omega arith) (omega arith)))
          (text_then (access_text a.bytes.now) p a.counts.points (line "access" (p ∷ kind ∷ operand ∷ [])) (grown_from a.counts a.words.now a.bytes.now 0) h
          (ap₂ (λ (x y : ℕ). cond (eqb x 0) [] (line "access" (p ∷ x ∷ y ∷ []))) (sym ek) (sym eo) ∙ rw (ne_eqb kind 0 nz)))
          (omega arith)

  module _ (r : ℕ) where
    pub grown_over : a.counts.declared ≤ r → {t : List ℕ} → Steps a (Grown r) t None t
    unfolding grown_from
    grown_over h = quiet (text-end (grown_text a.bytes.now a.counts.points) r a.counts.declared h) (omega arith)

    module _ (h : r < a.counts.declared) {byte : ℕ} (eb : byte ≡ get_or a.bytes.now (2 * a.counts.points + r) 0) where
      grown_is : {b : Bool} → eqb byte 0 ≡ b → grown_from a.counts a.words.now a.bytes.now r ≡ cond b [] (line "grown" (r ∷ [])) ++ grown_from a.counts a.words.now a.bytes.now (r + 1)
      unfolding grown_from grown_text
      grown_is e =
          text-more (grown_text a.bytes.now a.counts.points) r a.counts.declared h
          ∙ ap (λ (b : Bool). cond b [] (line "grown" (r ∷ [])) ++ text_from (grown_text a.bytes.now a.counts.points) (r + 1) a.counts.declared) (ap (λ (x : ℕ). eqb x 0) (sym eb) ∙ e)

      pub grown_none : byte ≡ 0 → {t : List ℕ} → Steps a (Grown r) t (Some (Grown (r + 1))) t
      grown_none z = quiet (grown_is (eq-eqb byte 0 z)) (omega arith)

      pub grown_line : (byte ≡ 0 → ⊥) → r ≤ 255 → {old new : List ℕ} → Appends (line "grown" (r ∷ [])) old new → Steps a (Grown r) old (Some (Grown (r + 1))) new
      unfolding ascii
      grown_line nz l q = loud q (omega (arith, line-room "grown" r (omega arith))) (grown_is (ne_eqb byte 0 nz)) (omega arith)

-- a step at the place that was found
pub steps_as : {a : Answer} {from found : Place} {next : Option Place} {old new : List ℕ} → from ≡ found → Steps a found old next new → Steps a from old next new
steps_as e s = rw e s

-- ---- After a region's line

pub follows_over : (n : Counts) (r : ℕ) → n.regions ≤ r → Follows n r (Access 0)
unfolding region_from
follows_over n r h = record { goes = λ ws bs. sym (text-over (region_text ws n.points) (r + 1) n.regions (access_from n ws bs 0) (omega arith)); less = omega arith }

-- ---- A chunk

-- So many steps from `from` on made the text, and came to `place`.
pub record Filling (a : Answer) (from place : Place) (steps : ℕ) (text : List ℕ) : Type 0 where
  pub short : length text ≤ 32 * steps
  pub goes : rest_of a (Some from) ≡ text ++ rest_of a (Some place)
  pub less : left a.counts place ≤ left a.counts from - steps

-- ---- The counts of a record's job

module _ {s : List ℕ} {t : Offsets} {r : Result Head Refusal} (d : DecodedSays (decode.decode s) s t r) where
  pub count_job : {h : Head} {x : ℕ} → r ≡ Ok h → x ≡ h.declared → (j : Job) → decode.decode s ≡ decode.decoded j
      → Counted j (record { points = h.code + x; regions = h.regions; declared = h.declared })
  unfolding decode.point_count
  count_job {h} {x} e ex j q = go (rw e at d.says)
    where
      go : Verdict (decode.decode s) s t (Ok h) → Counted j (record { points = h.code + x; regions = h.regions; declared = h.declared })
      go a =
          let same : a.job ≡ j = cc a.is in
          let points : h.code + x ≡ decode.point_count a.job = ap₂ (λ (y z : ℕ). y + z) a.layout.code (ex ∙ sym a.layout.declared_count) in
          rw (sym same)
          (record {
            points = points;
            regions = a.layout.regions;
            declared = sym a.layout.declared_count;
            point_limit = omega (arith, a.points);
            region_limit = a.layout.region_limit;
            declared_limit = a.layout.declared_limit;
          })
