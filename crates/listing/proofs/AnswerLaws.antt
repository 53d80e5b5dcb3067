-- The listing from its first place on is the definition's, where the words and bytes are those that the analysis leaves.
-- Assumes nothing.
use mathlib.Core.Path.{◌≡◌, refl, sym, ◌∙◌, ap, ap₂}
use mathlib.Core.Bool.{Bool, true, false, cond, not}
use mathlib.Core.List.{List, [], ◌∷◌, ◌++◌, append_assoc}
use Prim.Native.Nat.{ℕ, zero, suc, ◌+◌, ◌*◌, ◌<◌, ◌≤◌}
use native.Mathlib.Nat.{sub-zero}
use native.Mathlib.Omega.{arith}
use native.Mathlib.Numerals.{add-one}
use lib.ListN.{length, get_or}
use lib.Dec.{eqb}
use Rattle.nll_spec.specs.Lists.{select, gather, count_from, below}
use Rattle.nll_spec.specs.Fixpoint.{holds}
use Rattle.nll_spec.specs.Syntax.{Job}
use Rattle.nll_spec.specs.Decode.{point_count}
use Rattle.nll_spec.specs.Graph.{graph_of}
use Rattle.nll_spec.specs.Regions.{EndRule, seed_table, is_grown}
use Rattle.nll_spec.specs.Loans.{loans_of}
use Rattle.nll_spec.specs.Access.{Verdict, no_fault, verdict_at}
use Rattle.nll_spec.specs.Output.{answer, bit, words_of, verdict_bytes, bytes_of, overwrite}
use Rattle.nll_spec.specs.Meaning.{verdict_in}
use Rattle.nll_spec.specs.Listing.{spaced, line, ascii, verdict_of, answer_lines}
use Rattle.nll_spec.proofs.Lookup.{get_or-map-below}
use Rattle.nll_spec.proofs.Names.{sets_of, scope_of}
use Rattle.nll_spec.proofs.OutputLaws.{points-of, bit_written, verdict_written, grown_written}
use Rattle.listing.specs.Places.{Counted, in_set, point_text, access_text, grown_text, text_from, region_text, grown_from, access_from, region_from, rest}
use Rattle.listing.specs.declared.Counts.{Counts}
use Rattle.listing.specs.declared.Place.TheVariants.{Points}
use Rattle.listing.proofs.WriteLaws.{join}

-- ---- Texts that are the same number by number

gather-same : (f g : ℕ → List ℕ) (i k : ℕ) → ((p : ℕ) → i ≤ p → p < i + k → f p ≡ g p) → gather f (count_from i k) ≡ gather g (count_from i k)
gather-same f g i zero e = refl
gather-same f g i (suc k) e = ap₂ (λ (x y : List ℕ). x ++ y) (e i (omega arith) (omega arith)) (gather-same f g (suc i) k (λ p h l. e p (omega arith) (omega arith)))

gather-select : (f : ℕ → List ℕ) (t : ℕ → Bool) (xs : List ℕ) → gather f (select t xs) ≡ gather (λ x. cond (t x) (f x) []) xs
gather-select f t [] = refl
gather-select f t (x ∷ xs) = go (t x) ∙ ap (λ (l : List ℕ). cond (t x) (f x) [] ++ l) (gather-select f t xs)
  where
    go : (b : Bool) → gather f (cond b (x ∷ select t xs) (select t xs)) ≡ cond b (f x) [] ++ gather f (select t xs)
    go true = refl
    go false = refl

-- from 0 on
text_same : (f g : ℕ → List ℕ) (n : ℕ) → ((p : ℕ) → p < n → f p ≡ g p) → text_from f 0 n ≡ gather g (below n)
unfolding text_from
text_same f g n e = ap (λ (k : ℕ). gather f (count_from 0 k)) (sub-zero n) ∙ gather-same f g 0 n (λ p h l. e p (omega arith))

-- of the numbers that pass a test
text-select : (f g : ℕ → List ℕ) (t : ℕ → Bool) (n : ℕ) → ((p : ℕ) → p < n → f p ≡ cond (t p) (g p) []) → text_from f 0 n ≡ gather g (select t (below n))
text-select f g t n e = text_same f (λ p. cond (t p) (g p) []) n e ∙ sym (gather-select g t (below n))

is-bit : (b : Bool) → eqb (bit b) 1 ≡ b
is-bit true = refl
is-bit false = refl

-- ---- The lines

module _ (ends : EndRule) (j : Job) (ws bs : List ℕ) where
  abbrev words : List ℕ
  words = overwrite (words_of (answer ends j)) ws

  abbrev bytes : List ℕ
  bytes = overwrite (bytes_of (answer ends j)) bs

  in_sets : (r p : ℕ) → r < j.regions → p < point_count j → in_set words (point_count j) r p ≡ holds (sets_of ends j) r p
  in_sets r p h l = ap (λ (x : ℕ). eqb x 1) (bit_written ends j ws r p h (omega arith)) ∙ is-bit (holds (sets_of ends j) r p)

  region-is : (r : ℕ) → r < j.regions → region_text words (point_count j) r ≡ line "region" (r ∷ select (holds (sets_of ends j) r) (below (point_count j)))
  unfolding region_text line point_text
  region-is r h =
      ap (λ (l : List ℕ). ascii "region" ++ spaced r ++ l ++ (10 ∷ []))
      (text-select (point_text words (point_count j) r) spaced (holds (sets_of ends j) r) (point_count j) (λ p l. ap (λ (b : Bool). cond b (spaced p) []) (in_sets r p h l)))
      ∙ ap (λ (l : List ℕ). l ++ (10 ∷ [])) (append_assoc (ascii "region") (spaced r) _)

  verdict_is : (p : ℕ) → p < point_count j → verdict_in bytes p ≡ verdict_of (answer ends j) p
  unfolding answer
  verdict_is p h =
      verdict_written ends j bs p h
      ∙ sym (get_or-map-below (verdict_at j (graph_of j) (scope_of ends j) (loans_of (graph_of j))) no_fault (graph_of j).points p (omega (arith, points-of j)))

  access_is : (p : ℕ) (v : Verdict) → verdict_in bytes p ≡ v → access_text bytes p ≡ cond (not (eqb v.kind 0)) (line "access" (p ∷ v.kind ∷ v.operand ∷ [])) []
  unfolding access_text
  access_is p v is =
      ap₂ (λ (x y : ℕ). cond (eqb x 0) [] (line "access" (p ∷ x ∷ y ∷ []))) (ap (λ (v : Verdict). v.kind) is)
      (ap (λ (k : ℕ). get_or bytes k 0) (add-one (verdict_bytes * p)) ∙ ap (λ (v : Verdict). v.operand) is)
      ∙ turn (eqb v.kind 0) (line "access" (p ∷ v.kind ∷ v.operand ∷ []))
    where
      turn : (b : Bool) (x : List ℕ) → cond b [] x ≡ cond (not b) x []
      turn true x = refl
      turn false x = refl

  grown-is : (r : ℕ) → r < length j.outlives → grown_text bytes (point_count j) r ≡ cond (get_or (answer ends j).grown r false) (line "grown" (r ∷ [])) []
  unfolding grown_text answer
  grown-is r h =
      ap (λ (x : ℕ). cond (eqb x 0) [] (line "grown" (r ∷ []))) (grown_written ends j bs r h)
      ∙ turn (is_grown (graph_of j) (seed_table j (graph_of j)) (sets_of ends j) r) (line "grown" (r ∷ []))
      ∙ ap (λ (b : Bool). cond b (line "grown" (r ∷ [])) []) (sym (get_or-map-below (is_grown (graph_of j) (seed_table j (graph_of j)) (sets_of ends j)) false (length j.outlives) r h))
    where
      turn : (b : Bool) (x : List ℕ) → cond (eqb (bit b) 0) [] x ≡ cond b x []
      turn true x = refl
      turn false x = refl

  -- all lines, by the three counts
  unfoldable listed : ℕ → ℕ → ℕ → List ℕ
  listed points regions declared =
      line "points" (points ∷ [])
      ++ (text_from (region_text words points) 0 regions ++ (text_from (access_text bytes) 0 points ++ text_from (grown_text bytes points) 0 declared))

  abbrev regions_lines : List ℕ
  regions_lines = gather (λ r. line "region" (r ∷ select (holds (sets_of ends j) r) (below (point_count j)))) (below j.regions)

  abbrev access_lines : List ℕ
  access_lines =
      gather (λ p. line "access" (p ∷ (verdict_of (answer ends j) p).kind ∷ (verdict_of (answer ends j) p).operand ∷ []))
      (select (λ p. not (eqb (verdict_of (answer ends j) p).kind 0)) (below (point_count j)))

  abbrev grown_lines : List ℕ
  grown_lines = gather (λ r. line "grown" (r ∷ [])) (select (λ r. get_or (answer ends j).grown r false) (below (length j.outlives)))

  all_listed : listed (point_count j) j.regions (length j.outlives) ≡ answer_lines j (answer ends j)
  unfolding listed answer_lines answer graph_of
  all_listed =
      let regions : text_from (region_text words (point_count j)) 0 j.regions ≡ regions_lines =
      text_same (region_text words (point_count j)) (λ r. line "region" (r ∷ select (holds (sets_of ends j) r) (below (point_count j)))) j.regions region-is
      in
      let accesses : text_from (access_text bytes) 0 (point_count j) ≡ access_lines =
      text-select (access_text bytes) (λ p. line "access" (p ∷ (verdict_of (answer ends j) p).kind ∷ (verdict_of (answer ends j) p).operand ∷ []))
      (λ p. not (eqb (verdict_of (answer ends j) p).kind 0)) (point_count j) (λ p h. access_is p (verdict_of (answer ends j) p) (verdict_is p h))
      in
      let grown : text_from (grown_text bytes (point_count j)) 0 (length j.outlives) ≡ grown_lines =
      text-select (grown_text bytes (point_count j)) (λ r. line "grown" (r ∷ [])) (λ r. get_or (answer ends j).grown r false) (length j.outlives) grown-is
      in
      ap (λ (l : List ℕ). line "points" (point_count j ∷ []) ++ l) (ap₂ (λ (x y : List ℕ). x ++ y) regions (ap₂ (λ (x y : List ℕ). x ++ y) accesses grown))
      ∙ sym (join (line "points" (point_count j ∷ [])) regions_lines access_lines grown_lines)

  -- The listing from its first place on is the answer's.
  pub whole-listing : (n : Counts) → Counted j n → rest n words bytes Points ≡ answer_lines j (answer ends j)
  unfolding region_from access_from grown_from listed
  whole-listing n c = ap₂ (λ (x y : ℕ). listed x y n.declared) c.points c.regions ∙ ap (listed (point_count j) j.regions) c.declared ∙ all_listed
