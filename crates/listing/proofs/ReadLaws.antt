-- Hexadecimal in pieces: a digit, a byte of the text more, the end of the text, and the record that is cut where the kept bytes end.
-- Assumes nothing.
use mathlib.Core.Path.{◌≡◌, refl, sym, ◌∙◌, ap}
use mathlib.Core.Bool.{Bool, true, false, ◌&&◌, and-false, cond}
use mathlib.Core.List.{List, [], ◌∷◌, ◌++◌, append_assoc, append-nil}
use mathlib.Core.Logic.{◌⊎◌, inl, inr}
use mathlib.Core.Option.{Option, none, some}
use Prim.Native.Nat.{ℕ, ◌+◌, ◌-◌, ◌*◌, ◌<◌, ◌≤◌}
use native.Mathlib.Omega.{arith}
use native.Mathlib.Decide.{dec_lt}
use lib.ListN.{length, take, length-append}
use lib.Seq.{take_all, take-append-le, length-take-le}
use lib.Dec.{ltb, leb, eqb}
use borrow.Author.Tests.{lt-ltb, le-ltb, le-leb, lt-leb, ne_eqb}
use Rattle.nll_spec.specs.Decode.{Decoded, rejected, decoded, decode_body, decode}
use Rattle.nll_spec.specs.Output.{judge_job, judge}
use Rattle.nll_spec.specs.Listing.{is_skipped, between, digit, bytes_from, hex_bytes}
use Rattle.listing.specs.Reading.{room, hex_record, after, bytes_after, Reads, Kept}
use Rattle.listing.specs.declared.reader.Hex.{Hex}
use Rattle.listing.specs.declared.reader.Digits.{Digits}
use Rattle.listing.specs.declared.reader.Digits.TheVariants.{Paired, Half, Other}

-- ---- A digit

inside : (low high c : ℕ) → low ≤ c → c ≤ high → between low high c ≡ true
inside low high c h k = rw (le-leb low c h, le-leb c high k)

under : (low high c : ℕ) → c < low → between low high c ≡ false
under low high c h = rw (lt-leb low c h)

over : (low high c : ℕ) → high < c → between low high c ≡ false
over low high c h = rw (lt-leb c high h) (and-false (leb low c))

outside : (low high c : ℕ) → (low ≤ c → high < c) → between low high c ≡ false
outside low high c h = go (dec_lt c low)
  where
    go : Dec (c < low) → between low high c ≡ false
    go (yes l) = under low high c l
    go (no l) = over low high c (h (omega (arith, l)))

-- the digit, by the three tests
unfoldable chosen : Bool → Bool → Bool → ℕ → Option ℕ
chosen decimal upper lower c = elim decimal [
  | true ↦ some (c - 0x30)
  | false ↦ elim upper [ true ↦ some (c - 0x37) | false ↦ elim lower [ true ↦ some (c - 0x57) | false ↦ none ] ]
]

module _ (c : ℕ) where
  digit_by : {decimal upper lower : Bool} → between 0x30 0x39 c ≡ decimal → between 0x41 0x46 c ≡ upper → between 0x61 0x66 c ≡ lower → digit c ≡ chosen decimal upper lower c
  unfolding digit chosen
  digit_by p q r = rw (sym p, sym q, sym r)

  pub digit_decimal : 48 ≤ c → c ≤ 57 → some (c - 48) ≡ digit c
  unfolding chosen
  digit_decimal h k = sym (digit_by (inside 0x30 0x39 c h k) refl refl)

  pub digit_upper : 65 ≤ c → c ≤ 70 → some (c - 65 + 10) ≡ digit c
  unfolding chosen
  digit_upper h k =
      let e : c - 65 + 10 ≡ c - 55 = omega arith in
      ap some e ∙ sym (digit_by (over 0x30 0x39 c (omega arith)) (inside 0x41 0x46 c h k) refl)

  pub digit_lower : 97 ≤ c → c ≤ 102 → some (c - 97 + 10) ≡ digit c
  unfolding chosen
  digit_lower h k =
      let e : c - 97 + 10 ≡ c - 87 = omega arith in
      ap some e ∙ sym (digit_by (over 0x30 0x39 c (omega arith)) (over 0x41 0x46 c (omega arith)) (inside 0x61 0x66 c h k))

  pub digit_none : (48 ≤ c → 57 < c) → (65 ≤ c → 70 < c) → (97 ≤ c → 102 < c) → none ≡ digit c
  unfolding chosen
  digit_none p q r = sym (digit_by (outside 0x30 0x39 c p) (outside 0x41 0x46 c q) (outside 0x61 0x66 c r))

-- ---- A byte of the text more

-- what a byte gives, by whether it is skipped and by its digit
unfoldable byte_from : Bool → Option ℕ → Option ℕ → List ℕ → Option (List ℕ)
byte_from skipped low high cs = elim skipped [
  | true ↦ bytes_from high cs
  | false ↦ elim low [
    | none ↦ none
    | some d ↦ elim high [ none ↦ bytes_from (some d) cs | some h ↦ elim (bytes_from none cs) [ none ↦ none | some bs ↦ some ((h * 16 + d) ∷ bs) ] ]
  ]
]

module _ (c : ℕ) (cs : List ℕ) where
  from_by : {skipped : Bool} {low : Option ℕ} (high : Option ℕ) → is_skipped c ≡ skipped → digit c ≡ low → bytes_from high (c ∷ cs) ≡ byte_from skipped low high cs
  unfolding bytes_from byte_from
  from_by high p q = rw (sym p, sym q)

  from_skip : (high : Option ℕ) → is_skipped c ≡ true → bytes_from high (c ∷ cs) ≡ bytes_from high cs
  unfolding byte_from
  from_skip high e = from_by high e refl

  from_other : (high : Option ℕ) → is_skipped c ≡ false → digit c ≡ none → bytes_from high (c ∷ cs) ≡ none
  unfolding byte_from
  from_other high e n = from_by high e n

  from_first : (d : ℕ) → is_skipped c ≡ false → digit c ≡ some d → bytes_from none (c ∷ cs) ≡ bytes_from (some d) cs
  unfolding byte_from
  from_first d e v = from_by none e v

  from_second : (h d : ℕ) → is_skipped c ≡ false → digit c ≡ some d → bytes_from (some h) (c ∷ cs) ≡ after ((h * 16 + d) ∷ []) (bytes_from none cs)
  unfolding byte_from
  from_second h d e v = from_by (some h) e v ∙ go (bytes_from none cs)
    where
      go : (o : Option (List ℕ)) → elim o as (λ x. Option (List ℕ)) [ none ↦ none | some bs ↦ some ((h * 16 + d) ∷ bs) ] ≡ after ((h * 16 + d) ∷ []) o
      go none = refl
      go (some bs) = refl

after-after : (xs bs : List ℕ) (o : Option (List ℕ)) → after xs (after bs o) ≡ after (xs ++ bs) o
after-after xs bs none = refl
after-after xs bs (some cs) = ap some (sym (append_assoc xs bs cs))

-- one byte more is kept, or there was no room for it
module _ (bytes kept : List ℕ) (byte : ℕ) (same : kept ≡ take room bytes) where
  kept_more : cond (ltb (length kept) room) (kept ++ (byte ∷ [])) kept ≡ take room (bytes ++ (byte ∷ []))
  kept_more = go (dec_lt (length bytes) room)
    where
      go : Dec (length bytes < room) → cond (ltb (length kept) room) (kept ++ (byte ∷ [])) kept ≡ take room (bytes ++ (byte ∷ []))
      go (yes l) =
          let all : kept ≡ bytes = same ∙ take_all room bytes (omega (arith, l)) in
          rw
          (lt-ltb (length kept) room (omega (arith, l, ap length all)))
          (ap (λ (x : List ℕ). x ++ (byte ∷ [])) all ∙ sym (take_all room (bytes ++ (byte ∷ [])) (omega (arith, l, length-append bytes (byte ∷ [])))))
      go (no no_room) =
          let long : length (take room bytes) ≡ room = length-take-le room bytes (omega (arith, no_room)) in
          rw (le-ltb (length kept) room (omega (arith, ap length same, long))) (same ∙ sym (take-append-le room bytes (byte ∷ []) (omega (arith, no_room))))

module _ {text : List ℕ} {h : Hex} (m : Reads text h) (c : ℕ) where
  -- the meaning of the text with c, by what c's place gives
  onward : (rest : List ℕ) {o : Option (List ℕ)} → bytes_after h.digits m.bytes (c ∷ rest) ≡ o → bytes_from none ((text ++ (c ∷ [])) ++ rest) ≡ o
  onward rest e = ap (bytes_from none) (append_assoc text (c ∷ []) rest) ∙ m.means (c ∷ rest) ∙ e

  pub read_skip : is_skipped c ≡ true → Reads (text ++ (c ∷ [])) h
  read_skip e = record { bytes = m.bytes; means = λ rest. onward rest (skip h.digits rest); same = m.same }
    where
      skip : (d : Digits) (rest : List ℕ) → bytes_after d m.bytes (c ∷ rest) ≡ bytes_after d m.bytes rest
      skip Paired rest = ap (after m.bytes) (from_skip c rest none e)
      skip (Half d) rest = ap (after m.bytes) (from_skip c rest (some d) e)
      skip Other rest = refl

  -- only the digits change
  module _ {h' : Hex} (kept : h'.kept ≡ h.kept) where
    changed : ((rest : List ℕ) → bytes_after h.digits m.bytes (c ∷ rest) ≡ bytes_after h'.digits m.bytes rest) → Reads (text ++ (c ∷ [])) h'
    changed e = record { bytes = m.bytes; means = λ rest. onward rest (e rest); same = kept ∙ m.same }

    pub read_more : h.digits ≡ Other → h'.digits ≡ Other → Reads (text ++ (c ∷ [])) h'
    read_more e e' = changed (λ rest. rw (e, e') refl)

    pub read_other : is_skipped c ≡ false → none ≡ digit c → h'.digits ≡ Other → Reads (text ++ (c ∷ [])) h'
    read_other e v e' = changed (λ rest. rw e' (stop h.digits rest))
      where
        stop : (d : Digits) (rest : List ℕ) → bytes_after d m.bytes (c ∷ rest) ≡ none
        stop Paired rest = ap (after m.bytes) (from_other c rest none e (sym v))
        stop (Half d) rest = ap (after m.bytes) (from_other c rest (some d) e (sym v))
        stop Other rest = refl

    pub read_first : is_skipped c ≡ false → {d : ℕ} → some d ≡ digit c → h.digits ≡ Paired → h'.digits ≡ Half d → Reads (text ++ (c ∷ [])) h'
    read_first e {d} v p p' = changed (λ rest. rw (p, p') (ap (after m.bytes) (from_first c rest d e (sym v))))

  pub read_second : is_skipped c ≡ false → {d low : ℕ} → some low ≡ digit c → h.digits ≡ Half d → {h' k : Hex} → Kept (d * 16 + low) h k
      → h'.digits ≡ Paired → h'.kept ≡ k.kept → Reads (text ++ (c ∷ [])) h'
  read_second e {d} {low} v p {h'} {k} w p' kept =
      record {
        bytes = m.bytes ++ ((d * 16 + low) ∷ []);
        means = λ rest. onward rest (rw (p, p') (ap (after m.bytes) (from_second c rest d low e (sym v)) ∙ after-after m.bytes ((d * 16 + low) ∷ []) (bytes_from none rest)));
        same = kept ∙ w.same ∙ kept_more m.bytes h.kept (d * 16 + low) m.same;
      }

-- ---- The end

-- the record of a text, by the bytes of its digits
unfoldable or_empty : Option (List ℕ) → List ℕ
or_empty o = elim o [ none ↦ [] | some bs ↦ bs ]

module _ {text : List ℕ} {h : Hex} (m : Reads text h) where
  record_by : (d : Digits) → h.digits ≡ d → take room (or_empty (bytes_after d m.bytes [])) ≡ hex_record text
  unfolding hex_bytes or_empty
  record_by d e =
      let all : bytes_from none text ≡ bytes_after d m.bytes [] = ap (bytes_from none) (sym (append-nil text)) ∙ m.means [] ∙ ap (λ (x : Digits). bytes_after x m.bytes []) e in
      ap (λ (o : Option (List ℕ)). take room (or_empty o)) (sym all)

  pub end_whole : h.digits ≡ Paired → h.kept ≡ hex_record text
  unfolding bytes_from or_empty
  end_whole e = m.same ∙ ap (take room) (sym (append-nil m.bytes)) ∙ record_by Paired e

  pub end_none : ((d : ℕ) × (h.digits ≡ Half d)) ⊎ (h.digits ≡ Other) → [] ≡ hex_record text
  unfolding bytes_from or_empty
  end_none (inl (d, e)) = record_by (Half d) e
  end_none (inr e) = record_by Other e

-- ---- A record that is cut is refused as the whole of it is

long : (n size : ℕ) → 16384 < size → (leb n 16384 && eqb n size) ≡ false
long n size h = go (dec_lt 16384 n)
  where
    go : Dec (16384 < n) → (leb n 16384 && eqb n size) ≡ false
    go (yes l) = rw (lt-leb n 16384 l)
    go (no l) = rw (ne_eqb n size (λ e. omega (arith, l, e))) (and-false (leb n 16384))

body_long : (high low : ℕ) (rest : List ℕ) → 16384 < length rest → decode_body (high ∷ low ∷ rest) ≡ rejected 2
unfolding decode_body
body_long high low rest h = rw (long (high * 256 + low) (length rest) h)

decode_long : (bs : List ℕ) → room < length bs → decode (take room bs) ≡ decode bs
unfolding decode
decode_long [] h = absurd (omega arith)
decode_long (v ∷ []) h = absurd (omega arith)
decode_long (v ∷ high ∷ []) h = absurd (omega arith)
decode_long (v ∷ high ∷ low ∷ rest) h =
    let cut : length (take 16385 rest) ≡ 16385 = length-take-le 16385 rest (omega arith) in
    ap (λ (d : Decoded). cond (eqb v 1) d (rejected 1)) (body_long high low (take 16385 rest) (omega arith) ∙ sym (body_long high low rest (omega arith)))

judged : (xs ys : List ℕ) → decode xs ≡ decode ys → judge xs ≡ judge ys
unfolding judge
judged xs ys e = ap (λ (d : Decoded). elim d as (λ x. Decoded) [ rejected n ↦ rejected n | decoded j ↦ judge_job j ]) e

-- What is judged of the kept bytes is judged of the record.
pub judge-kept : (bs : List ℕ) → judge (take room bs) ≡ judge bs
judge-kept bs = go (dec_lt room (length bs))
  where
    go : Dec (room < length bs) → judge (take room bs) ≡ judge bs
    go (yes l) = judged (take room bs) bs (decode_long bs l)
    go (no l) = ap judge (take_all room bs (omega (arith, l)))
