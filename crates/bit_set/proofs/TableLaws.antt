-- Words that say a table, for any number of words a row: they are those that `nll_spec` writes for it, and what is done to a run is done to a row.
-- Assumes nothing.
use mathlib.Core.Path.{◌≡◌, sym, ap, ap₂, ◌∙◌}
use mathlib.Core.Logic.{◌⊎◌, inl, inr, ⊎_elim}
use mathlib.Core.Bool.{Bool, true, false, ◌&&◌, ◌||◌, or-true}
use mathlib.Core.List.{List, [], ◌∷◌, ◌++◌}
use Prim.Native.Nat.{ℕ, suc, ◌+◌, ◌*◌, ◌/◌, ◌%◌, ◌^◌, ◌≤◌, ◌<◌, suc-le-suc}
use native.Mathlib.Nat.{suc-mul, zero-mul, mul-le-mul_right}
use native.Mathlib.Omega.{arith}
use native.Mathlib.Decide.{ℕ_discrete, dec_lt}
use lib.ListN.{length, get_or, set, take, drop, length-set, length-take, length-drop, length-append, take-append-drop, get_or-eq_default}
use lib.Seq.{get_or-set_same, get_or-set_other, get_or-take, get_or-drop, take-add, length-take-le}
use lib.Dec.{eqb, leb}
use borrow.Author.Tests.{le-leb, lt-ltb}
use Rattle.nll_spec.specs.Lists.{gather}
use Rattle.nll_spec.specs.Fixpoint.{Table, holds, mark}
use Rattle.nll_spec.specs.Meaning.{sets_in}
use Rattle.nll_spec.specs.Output.{word_bits, word_count, row_words, Answer, words_of, overwrite}
use Rattle.nll_spec.proofs.WordLaws.{row-bit, words-fit, length-words, length-rows}
use Rattle.bit_set.specs.Bits.{has, with_bit, without_bit, fits, read_first, joined, joined_within, cleared}
use Rattle.bit_set.specs.Rows.{Says}
use Rattle.bit_set.proofs.BitLaws.{digit, place, Words, words_ext, has_with, has_with_other, has_without, has_without_other, length_with, length_without}
use Rattle.bit_set.proofs.SetLaws.{has-joined, has-joined_other, has_within, has-within_other, length-within, length-joined, has-cleared, has-cleared_other, length-cleared}
use Rattle.bit_set.proofs.RowLaws.{bit_is, has_words, run_has}

-- the words that are written for a table say it, whatever follows
pub table_says : (w : ℕ) (t : Table) (rest : List ℕ) → Says w t (gather (row_words w) t ++ rest)
table_says w t rest =
    record {
      room = omega (arith, length-append (gather (row_words w) t) rest, length-rows w t);
      bits = λ r p h l. ap (λ (b : ℕ). eqb b 1) (row-bit w t rest r p h l) ∙ bit_is (holds t r p);
    }

take-fits : (n : ℕ) (ws : List ℕ) → Words ws → Words (take n ws)
take-fits n ws wf k = go (dec_lt k n)
  where
    go : Dec (k < n) → get_or (take n ws) k 0 < 2 ^ word_bits
    go (yes l) = rw (get_or-take n ws k 0 l) (wf k)
    go (no m) = rw (get_or-eq_default (take n ws) 0 {n = k} (omega (arith, m, length-take n ws))) (omega arith)

drop-fits : (n : ℕ) (ws : List ℕ) → Words ws → Words (drop n ws)
drop-fits n ws wf k = rw (get_or-drop n ws k 0) (wf (n + k))

row_words-fit : (n : ℕ) (bs : List Bool) → Words (row_words n bs)
row_words-fit n bs k = go (dec_lt k n)
  where
    go : Dec (k < n) → get_or (row_words n bs) k 0 < 2 ^ word_bits
    go (yes l) = words-fit n bs k l
    go (no m) = rw (get_or-eq_default (row_words n bs) 0 {n = k} (omega (arith, m, length-words n bs))) (omega arith)

has-drop : (k : ℕ) (ws : List ℕ) (j : ℕ) → has (drop k ws) j ≡ has ws (word_bits * k + j)
has-drop k ws j = ap (λ (w : ℕ). eqb (digit w (j % word_bits)) 1) (get_or-drop k ws (j / word_bits) 0) ∙ sym (ap (λ (b : ℕ). eqb b 1) (place ws k j))

-- words that say a table are those that are written for it
pub says-words : (w : ℕ) (t : Table) (ws : List ℕ) → Words ws → Says w t ws → take (length t * w) ws ≡ gather (row_words w) t
says-words w [] ws wf a = rw zero-mul
says-words w (row ∷ t) ws wf a =
    ap (λ (k : ℕ). take k ws) more ∙ take-add w (length t * w) ws
    ∙ ap₂ (λ (x y : List ℕ). x ++ y) first (says-words w t (drop w ws) (drop-fits w ws wf) rest)
  where
    more : suc (length t) * w ≡ w + length t * w
    more = rw suc-mul (omega arith)

    room : w + length t * w ≤ length ws
    room = omega (arith, a.room, more)

    size : length (take w ws) ≡ w
    size = length-take-le w ws (omega (arith, room))

    first : take w ws ≡ row_words w row
    first =
        words_ext (take w ws) (row_words w row) (take-fits w ws wf) (row_words-fit w row) (size ∙ sym (length-words w row)) λ j h.
        let hj : j < word_bits * w = omega (arith, size) in
        let z : word_bits * (0 * w) + j ≡ word_bits * 0 + j = rw zero-mul in
        run_has ws 0 w j hj ∙ ap (has ws) (sym z) ∙ a.bits 0 j (omega arith) hj ∙ sym (has_words w row j hj)

    rest : Says w t (drop w ws)
    rest =
        record {
          room = rw length-drop (omega (arith, room));
          bits = λ r p h l. has-drop w ws (word_bits * (r * w) + p) ∙ ap (has ws) (omega (arith, suc-mul r w)) ∙ a.bits (suc r) p (suc-le-suc h) l;
        }

-- so a buffer that says it is the buffer overwritten by them
pub says-overwrite : (w : ℕ) (t : Table) (ws : List ℕ) → Words ws → Says w t ws → ws ≡ overwrite (gather (row_words w) t) ws
says-overwrite w t ws wf a =
    sym (take-append-drop (length t * w) ws) ∙ ap₂ (λ (x : List ℕ) (k : ℕ). x ++ drop k ws) (says-words w t ws wf a) (sym (length-rows w t))

-- ---- The answer

-- a buffer that an answer's words are written to says the answer's sets
pub answer-says : (a : Answer) (ws : List ℕ) → Says (word_count a.points) a.sets (overwrite (words_of a) ws)
unfolding words_of
answer-says a ws = table_says (word_count a.points) a.sets _

-- and a buffer that says them is one that they are written to
pub says-answer : (a : Answer) (ws : List ℕ) → Words ws → Says (word_count a.points) a.sets ws → ws ≡ overwrite (words_of a) ws
unfolding words_of
says-answer a ws wf s = says-overwrite (word_count a.points) a.sets ws wf s

-- a region's set, as `Meaning` reads it off the words
pub sets-has : (n : ℕ) (ws : List ℕ) (r p : ℕ) → p < n → sets_in n ws r p ≡ has ws (word_bits * (r * word_count n) + p)
sets-has n ws r p h = ap (λ (b : Bool). b && has ws (word_bits * (r * word_count n) + p)) (lt-ltb p n h)

-- ---- What is done to a run, done to a row

-- a number of another row lies outside row r's words
pub outside : (w r k p : ℕ) → (k ≡ r → ⊥) → p < word_bits * w → (word_bits * (k * w) + p < word_bits * (r * w)) ⊎ (word_bits * (r * w + w) ≤ word_bits * (k * w) + p)
outside w r k p ne h = go (dec_lt k r)
  where
    go : Dec (k < r) → (word_bits * (k * w) + p < word_bits * (r * w)) ⊎ (word_bits * (r * w + w) ≤ word_bits * (k * w) + p)
    go (yes l) = inl (omega (arith, mul-le-mul_right w l, suc-mul k w))
    go (no m) = let l : suc r ≤ k = omega (arith, m, ne) in inr (omega (arith, mul-le-mul_right w l, suc-mul r w))

-- row r's words are there
pub inside : (w : ℕ) (t : Table) (ws : List ℕ) (r : ℕ) → Says w t ws → r < length t → r * w + w ≤ length ws
inside w t ws r a h = omega (arith, a.room, mul-le-mul_right w h, suc-mul r w)

-- of two rows, each is read first
pub rows-first : (w r q : ℕ) → read_first (r * w) (q * w) w ≡ true
rows-first w r q = go (dec_lt q r)
  where
    go : Dec (q < r) → read_first (r * w) (q * w) w ≡ true
    go (yes l) = ap (λ (b : Bool). leb (r * w) (q * w) || b) (le-leb (q * w + w) (r * w) (omega (arith, mul-le-mul_right w l, suc-mul q w))) ∙ or-true (leb (r * w) (q * w))
    go (no m) = let l : r ≤ q = omega (arith, m) in ap (λ (b : Bool). b || fits (r * w) (q * w) w) (le-leb (r * w) (q * w) (mul-le-mul_right w l))

-- a table u that differs from t in row r alone
pub record Differs (t u : Table) (r : ℕ) : Type 0 where
  pub size : length u ≡ length t
  pub others : (k p : ℕ) → (k ≡ r → ⊥) → holds u k p ≡ holds t k p

module _ (w : ℕ) (t u : Table) (ws : List ℕ) (r : ℕ) (a : Says w t ws) (h : r < length t) (d : Differs t u r) where
  -- words that differ in row r's alone, where they say u's row
  says_row : (vs : List ℕ) → length vs ≡ length ws → ((j : ℕ) → (j < word_bits * (r * w)) ⊎ (word_bits * (r * w + w) ≤ j) → has vs j ≡ has ws j)
      → ((p : ℕ) → p < word_bits * w → has vs (word_bits * (r * w) + p) ≡ holds u r p) → Says w u vs
  says_row vs e same row = record { room = rw (d.size, e) a.room; bits = λ k p hk hp. go k p hk hp (ℕ_discrete k r) }
    where
      go : (k p : ℕ) → k < length u → p < word_bits * w → Dec (k ≡ r) → has vs (word_bits * (k * w) + p) ≡ holds u k p
      go k p hk hp (yes q) = rw q (row p hp)
      go k p hk hp (no q) = same (word_bits * (k * w) + p) (outside w r k p q hp) ∙ a.bits k p (omega (arith, d.size)) hp ∙ sym (d.others k p q)

  -- the union with row q
  pub says-within : (q : ℕ) → q < length t → ((p : ℕ) → p < word_bits * w → holds u r p ≡ (holds t r p || holds t q p)) → Says w u (joined_within ws (r * w) (q * w) w)
  says-within q hq row =
      says_row (joined_within ws (r * w) (q * w) w) (length-within ws (r * w) (q * w) w) (has-within_other ws (r * w) (q * w) w) λ p hp.
      has_within ws (r * w) (q * w) w (rows-first w r q) (inside w t ws r a h) (inside w t ws q a hq) p hp
      ∙ ap₂ (λ (x y : Bool). x || y) (a.bits r p h hp) (a.bits q p hq hp)
      ∙ sym (row p hp)

  -- the union with a run of another list
  pub says-joined : (fs : List ℕ) (s : ℕ) → s + w ≤ length fs → ((p : ℕ) → p < word_bits * w → holds u r p ≡ (holds t r p || has fs (word_bits * s + p))) → Says w u (joined ws (r * w) fs s w)
  says-joined fs s hs row =
      says_row (joined ws (r * w) fs s w) (length-joined ws (r * w) fs s w) (has-joined_other ws (r * w) fs s w) λ p hp.
      has-joined ws (r * w) fs s w (inside w t ws r a h) hs p hp ∙ ap (λ (x : Bool). x || has fs (word_bits * s + p)) (a.bits r p h hp) ∙ sym (row p hp)

  -- the empty row
  pub says-cleared : ((p : ℕ) → p < word_bits * w → holds u r p ≡ false) → Says w u (cleared ws (r * w) w)
  says-cleared row =
      says_row (cleared ws (r * w) w) (length-cleared ws (r * w) w) (has-cleared_other ws (r * w) w) λ p hp.
      has-cleared ws (r * w) w (inside w t ws r a h) p hp ∙ sym (row p hp)

  -- column c, put in or taken out
  module _ (c : ℕ) (hc : c < word_bits * w) (columns : (p : ℕ) → (p ≡ c → ⊥) → holds u r p ≡ holds t r p) where
    says_column : (vs : List ℕ) → length vs ≡ length ws → ((j : ℕ) → (j ≡ word_bits * (r * w) + c → ⊥) → has vs j ≡ has ws j) → has vs (word_bits * (r * w) + c) ≡ holds u r c → Says w u vs
    says_column vs e same at =
        says_row vs e (λ j o. same j (λ q. ⊎_elim (λ z. omega arith) (λ z. omega arith) o)) λ p hp. go p hp (ℕ_discrete p c)
      where
        go : (p : ℕ) → p < word_bits * w → Dec (p ≡ c) → has vs (word_bits * (r * w) + p) ≡ holds u r p
        go p hp (yes q) = rw q at
        go p hp (no q) = same (word_bits * (r * w) + p) (λ z. q (omega arith)) ∙ a.bits r p h hp ∙ sym (columns p q)

    pub says_with : holds u r c ≡ true → Says w u (with_bit ws (word_bits * (r * w) + c))
    says_with e =
        says_column (with_bit ws (word_bits * (r * w) + c)) (length_with ws (word_bits * (r * w) + c)) (has_with_other ws (word_bits * (r * w) + c))
        (has_with ws (word_bits * (r * w) + c) (omega (arith, inside w t ws r a h)) ∙ sym e)

    pub says_without : holds u r c ≡ false → Says w u (without_bit ws (word_bits * (r * w) + c))
    says_without e =
        says_column (without_bit ws (word_bits * (r * w) + c)) (length_without ws (word_bits * (r * w) + c)) (has_without_other ws (word_bits * (r * w) + c))
        (has_without ws (word_bits * (r * w) + c) ∙ sym e)

-- a marked table
pub says-mark : (w : ℕ) (t : Table) (ws : List ℕ) (r c : ℕ) → Says w t ws → r < length t → c < length (get_or t r []) → c < word_bits * w → Says w (mark t r c) (with_bit ws (word_bits * (r * w) + c))
says-mark w t ws r c a h hc hw =
    says_with w t (mark t r c) ws r a h
    (record { size = length-set t r (set row c true); others = λ k p ne. ap (λ (l : List Bool). get_or l p false) (get_or-set_other t r k (set row c true) [] ne) })
    c hw (λ p ne. ap (λ (l : List Bool). get_or l p false) here ∙ get_or-set_other row c p true false ne)
    (ap (λ (l : List Bool). get_or l c false) here ∙ get_or-set_same row c true false hc)
  where
    row : List Bool
    row = get_or t r []

    here : get_or (mark t r c) r [] ≡ set row c true
    here = get_or-set_same t r (set row c true) [] h
