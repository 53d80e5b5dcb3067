-- What is listed of a record: its refusal, or the lines of its answer. Buffers of 4,096 words and 2,064 bytes have room for every answer.
-- Assumes nothing.
use mathlib.Core.Path.{◌≡◌, refl, sym, ◌∙◌}
use mathlib.Core.List.{List, [], ◌∷◌}
use Prim.Native.Nat.{ℕ, zero, suc, ◌*◌, ◌≤◌}
use native.Mathlib.Nat.{mul-le-mul}
use native.Mathlib.Omega.{arith}
use lib.ListN.{length}
use Rattle.nll_spec.specs.Syntax.{Job}
use Rattle.nll_spec.specs.Decode.{Decoded, rejected, decoded, decode, point_count}
use Rattle.nll_spec.specs.WellFormed.{refusal}
use Rattle.nll_spec.specs.Regions.{every_end}
use Rattle.nll_spec.specs.Output.{Outcome, answer, word_count, words_needed, bytes_needed, judge_job, judge, analyse}
use Rattle.nll_spec.specs.Meaning.{Room}
use Rattle.nll_spec.specs.Listing.{line, hex_bytes, answer_lines, listing}
use Rattle.nll_spec.proofs.OutputLaws.{Leaves, rejecting, overfull, accepting, analyse-leaves}
use Rattle.listing.specs.Reading.{hex_record}
use Rattle.listing.specs.Places.{Counted, rest}
use Rattle.listing.specs.declared.Counts.{Counts}
use Rattle.listing.specs.declared.Place.TheVariants.{Points}
use Rattle.listing.proofs.ReadLaws.{judge-kept}
use Rattle.listing.proofs.AnswerLaws.{whole-listing}

-- the listing, by what is judged
unfoldable listing_of : Decoded → List ℕ
listing_of d = elim d [ rejected n ↦ line "refused" (n ∷ []) | decoded j ↦ answer_lines j (answer every_end j) ]

-- a text is listed as the kept bytes of its record are judged
listing_by : (text input : List ℕ) {d : Decoded} → hex_record text ≡ input → judge input ≡ d → listing text ≡ listing_of d
unfolding listing listing_of
listing_by text input e q = rw (sym q, sym e, judge-kept (hex_bytes text))

-- a job that is let pass was read
judged-job : (input : List ℕ) (j : Job) → judge input ≡ decoded j → decode input ≡ decoded j
unfolding judge judge_job
judged-job input j = go (decode input)
  where
    by : (i : Job) (n : ℕ) → elim n as (λ x. Decoded) [ zero ↦ decoded i | suc m ↦ rejected (suc m) ] ≡ decoded j → decoded i ≡ decoded j
    by i zero e = e
    by i (suc m) e = absurd (let z : ◌≡◌ {A = ℕ} 0 1 = cc in omega arith)

    go : (d : Decoded) → elim d as (λ x. Decoded) [ rejected n ↦ rejected n | decoded i ↦ judge_job i ] ≡ decoded j → d ≡ decoded j
    go (rejected n) e = absurd (let z : ◌≡◌ {A = ℕ} 0 1 = cc in omega arith)
    go (decoded i) e = by i (refusal i) e

-- there is room for every job
roomy : (j : Job) (n : Counts) (ws bs : List ℕ) → Counted j n → length ws ≡ 4096 → length bs ≡ 2064 → Room j ws bs
unfolding words_needed bytes_needed
roomy j n ws bs c w b =
    let few : j.regions ≤ 128 = omega (arith, c.regions, c.region_limit) in
    let each : word_count (point_count j) ≤ 32 = omega (arith, c.points, c.point_limit) in
    let words : j.regions * word_count (point_count j) ≤ 128 * 32 = mul-le-mul few each in
    (omega arith, omega (arith, c.points, c.point_limit, c.declared, c.declared_limit))

module _ (text input ws bs : List ℕ) (n : Counts) (kept : hex_record text ≡ input) (counted : (j : Job) → decode input ≡ decoded j → Counted j n)
    (w : length ws ≡ 4096) (b : length bs ≡ 2064) where
  abbrev outcome : Outcome
  outcome = analyse every_end input ws bs

  -- A refusal is one line.
  pub lists_refusal : (outcome.number ≡ 0 → ⊥) → listing text ≡ line "refused" (outcome.number ∷ [])
  unfolding listing_of
  lists_refusal = go outcome (analyse-leaves every_end input ws bs)
    where
      go : (o : Outcome) → Leaves every_end input ws bs o → (o.number ≡ 0 → ⊥) → listing text ≡ line "refused" (o.number ∷ [])
      go o (rejecting k q l h) z = listing_by text input kept q
      go o (overfull j q no_room) z = absurd (no_room (roomy j n ws bs (counted j (judged-job input j q)) w b))
      go o (accepting j q e r fits) z = absurd (z refl)

  -- An accepted job's answer is listed from the first place on.
  pub lists_answer : outcome.number ≡ 0 → listing text ≡ rest n outcome.words outcome.bytes Points
  unfolding listing_of
  lists_answer = go outcome (analyse-leaves every_end input ws bs)
    where
      go : (o : Outcome) → Leaves every_end input ws bs o → o.number ≡ 0 → listing text ≡ rest n o.words o.bytes Points
      go o (rejecting k q l h) z = absurd (omega arith)
      go o (overfull j q no_room) z = absurd (omega arith)
      go o (accepting j q e r fits) z = listing_by text input kept q ∙ sym (whole-listing every_end j ws bs n (counted j e))
