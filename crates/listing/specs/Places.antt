-- The listing of an answer from each of its places on, by the words and bytes that the analysis wrote.
use Rattle.std.specs.Prelude.{◌≡◌, Bool, cond, List, [], ◌∷◌, ◌++◌, ℕ, ◌+◌, ◌-◌, ◌*◌, ◌≤◌, length, get_or, eqb, Option, Some, None}
use Rattle.nll_spec.specs.Lists.{gather, count_from}
use Rattle.nll_spec.specs.Syntax.{Job}
use Rattle.nll_spec.specs.Decode.{max_regions, max_declared, max_points, point_count}
use Rattle.nll_spec.specs.Output.{word_bits, word_count, verdict_bytes}
use Rattle.nll_spec.specs.Listing.{ascii, spaced, line}
use Rattle.bit_set.specs.Bits.{has}
use Rattle.buffer.specs.Appending.{Appends}
use Rattle.listing.specs.declared.Counts.{Counts}
use Rattle.listing.specs.declared.places.Answer.{Answer}
use Rattle.listing.specs.declared.Place.{Place}
use Rattle.listing.specs.declared.Place.TheVariants.{Points, Region, Within, Access, Grown}

-- The counts are those of the job, within the limits of a record.
pub record Counted (j : Job) (n : Counts) : Type 0 where
  pub points : n.points ≡ point_count j
  pub regions : n.regions ≡ j.regions
  pub declared : n.declared ≡ length j.outlives
  pub point_limit : n.points ≤ max_points
  pub region_limit : n.regions ≤ max_regions
  pub declared_limit : n.declared ≤ max_declared

-- ---- The lines

-- point p is in region r's set, in the words of so many points
abbrev pub in_set : List ℕ → ℕ → ℕ → ℕ → Bool
in_set ws points r p = has ws (word_bits * (r * word_count points) + p)

-- what region r's line has of point p
unfoldable pub point_text : List ℕ → ℕ → ℕ → ℕ → List ℕ
point_text ws points r p = cond (in_set ws points r p) (spaced p) []

-- the line of a point, if it has a fault, by its two bytes
unfoldable pub access_text : List ℕ → ℕ → List ℕ
access_text bs p =
    let kind = get_or bs (verdict_bytes * p) 0 in
    cond (eqb kind 0) [] (line "access" (p ∷ kind ∷ get_or bs (verdict_bytes * p + 1) 0 ∷ []))

-- the line of a declared region, if its byte says that it is grown
unfoldable pub grown_text : List ℕ → ℕ → ℕ → List ℕ
grown_text bs points r = cond (eqb (get_or bs (verdict_bytes * points + r) 0) 0) [] (line "grown" (r ∷ []))

-- the texts of the numbers from i on and below n
unfoldable pub text_from : (ℕ → List ℕ) → ℕ → ℕ → List ℕ
text_from f i n = gather f (count_from i (n - i))

-- region r's line
unfoldable pub region_text : List ℕ → ℕ → ℕ → List ℕ
region_text ws points r = ascii "region" ++ spaced r ++ text_from (point_text ws points r) 0 points ++ (0x0A ∷ [])

-- ---- The listing from a place on

module _ (n : Counts) (ws bs : List ℕ) where
  unfoldable pub grown_from : ℕ → List ℕ
  grown_from r = text_from (grown_text bs n.points) r n.declared

  unfoldable pub access_from : ℕ → List ℕ
  access_from p = text_from (access_text bs) p n.points ++ grown_from 0

  unfoldable pub region_from : ℕ → List ℕ
  region_from r = text_from (region_text ws n.points) r n.regions ++ access_from 0

  abbrev pub rest : Place → List ℕ
  rest Points = line "points" (n.points ∷ []) ++ region_from 0
  rest (Region r) = region_from r
  rest (Within r p) = text_from (point_text ws n.points r) p n.points ++ (0x0A ∷ region_from (r + 1))
  rest (Access p) = access_from p
  rest (Grown r) = grown_from r

  -- from the place that follows, if any
  abbrev pub rest_after : Option Place → List ℕ
  rest_after (Some place) = rest place
  rest_after None = []

-- a bound on the steps that are left
abbrev pub left : Counts → Place → ℕ
left n Points = n.regions * 70000 + n.points + n.declared + 4
left n (Region r) = (n.regions - r) * 70000 + n.points + n.declared + 3
left n (Within r p) = (n.regions - (r + 1)) * 70000 + (n.points - p) + n.points + n.declared + 4
left n (Access p) = (n.points - p) + n.declared + 2
left n (Grown r) = (n.declared - r) + 1

abbrev pub left_after : Counts → Option Place → ℕ
left_after n (Some place) = left n place
left_after n None = 0

-- The place follows region r's line.
pub record Follows (n : Counts) (r : ℕ) (place : Place) : Type 0 where
  pub goes : (ws bs : List ℕ) → rest n ws bs place ≡ region_from n ws bs (r + 1)
  pub less : left n place ≤ (n.regions - (r + 1)) * 70000 + n.points + n.declared + 3

-- all of an answer's listing from a place on, if any
abbrev pub rest_of : Answer → Option Place → List ℕ
rest_of a next = rest_after a.counts a.words.now a.bytes.now next

-- A step: a few bytes are put, which come first at the place, and the place that follows is nearer to the end.
pub record Steps (a : Answer) (from : Place) (old : List ℕ) (next : Option Place) (new : List ℕ) : Type 0 where
  pub bytes : List ℕ
  pub puts : Appends bytes old new
  pub short : length bytes ≤ 32
  pub goes : rest_of a (Some from) ≡ bytes ++ rest_of a next
  pub less : left_after a.counts next ≤ left a.counts from - 1

-- A chunk: the text comes first at the place, and then all from the place that follows, which is nearer to the end.
pub record Fills (a : Answer) (from : Place) (next : Option Place) (text : List ℕ) : Type 0 where
  pub goes : rest_of a (Some from) ≡ text ++ rest_of a next
  pub less : left_after a.counts next ≤ left a.counts from - 1
