-- The text that is read in pieces, the listing that is printed in chunks, and the beginning of the listing.
-- Assumes nothing.
use mathlib.Core.Path.{◌≡◌, refl, sym, ◌∙◌, ap, ap₂}
use mathlib.Core.List.{List, [], ◌∷◌, ◌++◌, append_assoc, append-nil}
use Prim.Native.Nat.{ℕ}
use native.Mathlib.Omega.{arith}
use lib.ListN.{length}
use Rattle.nll_spec.specs.Syntax.{Job}
use Rattle.nll_spec.specs.Decode.{decoded, decode}
use Rattle.nll_spec.specs.Listing.{ascii, line}
use Rattle.repr.specs.Refusals.{number_of}
use Rattle.repr.specs.declared.refusal.Refusal.{Refusal}
use Rattle.repr.specs.declared.refusal.Refusal.TheVariants as refusals
use Rattle.nll.specs.Analysis.{AnalyseSays}
use Rattle.listing.specs.Reading.{Feeds}
use Rattle.listing.specs.Places.{Counted, rest, rest_of, Fills}
use Rattle.std.specs.Prelude.{Option, Some, None}
use Rattle.listing.specs.declared.reader.Hex.{Hex}
use Rattle.listing.specs.declared.Counts.{Counts}
use Rattle.listing.specs.declared.places.Answer.{Answer}
use Rattle.listing.specs.declared.Place.{Place}
use Rattle.listing.specs.declared.Place.TheVariants.{Points}
use Rattle.listing.proofs.WriteLaws.{line-room}
use Rattle.listing.proofs.ListingLaws.{lists_refusal, lists_answer}
use Rattle.nll_list.specs.Text.{IsRead, Begins}

-- ---- The text

pub read_more : {h h' : Hex} (piece : List ℕ) → IsRead h → Feeds piece h h' → IsRead h'
read_more piece m f = record { text = m.text ++ piece; reads = f m.text m.reads }

-- ---- The chunks

-- What was printed so far, and then all from `next` on, is all from `from` on after the first text.
pub record Printing (a : Answer) (first : List ℕ) (from next : Option Place) : Type 0 where
  pub printed : List ℕ
  pub goes : first ++ rest_of a from ≡ printed ++ rest_of a next

pub printing_none : (a : Answer) (first : List ℕ) (from : Option Place) → Printing a first from from
printing_none a first from = record { printed = first; goes = refl }

pub printing_more : {a : Answer} {first : List ℕ} {from next : Option Place} {place : Place} {new : List ℕ} → Printing a first from (Some place) → Fills a place next new → Printing a first from next
printing_more {a} {next = next} {new = new} p f =
    record {
      printed = p.printed ++ new;
      goes = p.goes ∙ ap (λ (l : List ℕ). p.printed ++ l) f.goes ∙ sym (append_assoc p.printed new (rest_of a next));
    }

-- ---- The beginning

-- no refusal has number 0
not_zero : (k : Refusal) → number_of k ≡ 0 → ⊥
not_zero refusals.Version z = omega arith
not_zero refusals.Length z = omega arith
not_zero refusals.Form z = omega arith
not_zero refusals.Range z = omega arith
not_zero refusals.Size z = omega arith
not_zero refusals.Name z = omega arith
not_zero refusals.Arguments z = omega arith
not_zero refusals.Path z = omega arith
not_zero refusals.Shape z = omega arith
not_zero refusals.Room z = omega arith

module _ (input ws bs : List ℕ) (n : Counts) (counted : (j : Job) → decode input ≡ decoded j → Counted j n) (w : length ws ≡ 4096) (b : length bs ≡ 2064)
    {number : ℕ} {ws' bs' : List ℕ} (s : AnalyseSays input ws bs number ws' bs') where
  pub begins_answer : {t : List ℕ} → number ≡ 0 → t ≡ [] → Begins input (record { text = t; counts = n; next = Some Points }) ws' bs'
  begins_answer {t} e z =
      record {
        within = omega (arith, ap length z);
        goes = λ text kept.
            lists_answer text input ws bs n kept counted w b (sym s.number ∙ e)
            ∙ ap₂ (λ (x y : List ℕ). rest n x y Points) (sym s.words) (sym s.bytes)
            ∙ ap (λ (l : List ℕ). l ++ rest n ws' bs' Points) (sym z);
      }

  pub begins_refusal : (k : Refusal) {m : ℕ} {t : List ℕ} → number ≡ number_of k → m ≡ number_of k → t ≡ line "refused" (m ∷ []) → Begins input (record { text = t; counts = n; next = None }) ws' bs'
  unfolding ascii
  begins_refusal k {m} {t} e f p =
      record {
        within = omega (arith, ap length p, line-room "refused" m (omega (arith, e, f, s.refuses.one_of_ten)));
        goes = λ text kept.
            lists_refusal text input ws bs n kept counted w b (λ z. not_zero k (sym e ∙ s.number ∙ z))
            ∙ ap (λ (x : ℕ). line "refused" (x ∷ [])) (sym s.number ∙ e ∙ sym f)
            ∙ sym (append-nil t ∙ p);
      }
