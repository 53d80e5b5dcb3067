-- Sets as words, for any from_bits of words: the bit of a point is where document 01 puts it, and words and sets determine each other.
-- Assumes nothing.
use mathlib.Core.Path.{◌≡◌, refl, sym, ◌∙◌, ap}
use mathlib.Core.Bool.{Bool, true, false}
use mathlib.Core.List.{List, [], ◌∷◌, ◌++◌, map}
use Prim.Native.Nat.{ℕ, zero, suc, ◌+◌, ◌*◌, ◌/◌, ◌%◌, ◌^◌, ◌<◌, ◌≤◌, suc-le-suc}
use native.Mathlib.Nat.{not-suc-le-zero, le_of_suc-le-suc, pow-zero, pow-succ', div-div-eq-div-mul, div-one, zero-div, suc-mul, zero-mul, mul-le-mul_right}
use native.Mathlib.Omega.{arith}
use lib.ListN.{length, get_or, take, drop, length-append, length-drop, length-map, get_or-append}
use lib.Seq.{length-take-le, get_or-take, get_or-drop, get_or-append-add, drop-drop, ext_get_or}
use lib.Dec.{eqb}
use Rattle.nll_spec.specs.Lists.{gather, below}
use Rattle.nll_spec.specs.Output.{word_bits, bit, from_bits, row_words}
use Rattle.nll_spec.specs.Meaning.{bit_of}
use Rattle.nll_spec.proofs.Tests.{length-count_from}
use Rattle.nll_spec.proofs.Lookup.{get_or-map-below}

-- bit i of the from_bits with these bits
pub number_bit : (bs : List Bool) (i : ℕ) → from_bits bs / 2 ^ i % 2 ≡ bit (get_or bs i false)
unfolding from_bits
number_bit [] i = ap (λ (n : ℕ). n % 2) (zero-div (2 ^ i))
number_bit (b ∷ bs) zero = rw (pow-zero, div-one) (low b)
  where
    low : (b : Bool) → (bit b + 2 * from_bits bs) % 2 ≡ bit b
    low true = omega arith
    low false = omega arith
number_bit (b ∷ bs) (suc i) = ap (λ (n : ℕ). n % 2) shift ∙ number_bit bs i
  where
    half : (b : Bool) → (bit b + 2 * from_bits bs) / 2 ≡ from_bits bs
    half true = omega arith
    half false = omega arith

    shift : (bit b + 2 * from_bits bs) / 2 ^ suc i ≡ from_bits bs / 2 ^ i
    shift = rw pow-succ' (sym (div-div-eq-div-mul (bit b + 2 * from_bits bs) 2 (2 ^ i)) ∙ ap (λ (n : ℕ). n / 2 ^ i) (half b))

pub number_fits : (bs : List Bool) → from_bits bs < 2 ^ length bs
unfolding from_bits
number_fits [] = rw pow-zero (omega arith)
number_fits (b ∷ bs) = rw pow-succ' (go b (number_fits bs))
  where
    go : (b : Bool) → from_bits bs < 2 ^ length bs → bit b + 2 * from_bits bs < 2 * 2 ^ length bs
    go true h = omega arith
    go false h = omega arith

pub length-words : (n : ℕ) (bs : List Bool) → length (row_words n bs) ≡ n
unfolding row_words
length-words zero bs = refl
length-words (suc n) bs = ap suc (length-words n (drop 32 bs))

pub words-at : (n : ℕ) (bs : List Bool) (i : ℕ) → i < n → get_or (row_words n bs) i 0 ≡ from_bits (take 32 (drop (32 * i) bs))
unfolding row_words
words-at zero bs i h = absurd (not-suc-le-zero h)
words-at (suc n) bs zero h = refl
words-at (suc n) bs (suc i) h = words-at n (drop 32 bs) i (le_of_suc-le-suc h) ∙ ap (λ (l : List Bool). from_bits (take 32 l)) (drop-drop (32 * i) 32 bs ∙ ap (λ (k : ℕ). drop k bs) e)
  where
    e : 32 + 32 * i ≡ 32 * suc i
    e = omega arith

-- Point p is bit p mod 32 of word p / 32.
pub words-bit : (n : ℕ) (bs : List Bool) (p : ℕ) → p < 32 * n → get_or (row_words n bs) (p / 32) 0 / 2 ^ (p % 32) % 2 ≡ bit (get_or bs p false)
words-bit n bs p h =
    ap (λ (w : ℕ). w / 2 ^ (p % 32) % 2) (words-at n bs (p / 32) (omega arith))
    ∙ number_bit (take 32 (drop (32 * (p / 32)) bs)) (p % 32)
    ∙ ap bit (get_or-take 32 (drop (32 * (p / 32)) bs) (p % 32) false (omega arith) ∙ get_or-drop (32 * (p / 32)) bs (p % 32) false ∙ ap (λ (k : ℕ). get_or bs k false) e)
  where
    e : 32 * (p / 32) + p % 32 ≡ p
    e = omega arith

-- The words of row r start at word r × W.
pub row_words_lem : (w : ℕ) (rows : List (List Bool)) (r i : ℕ) → r < length rows → i < w → get_or (gather (row_words w) rows) (r * w + i) 0 ≡ get_or (row_words w (get_or rows r [])) i 0
row_words_lem w [] r i h l = absurd (not-suc-le-zero h)
row_words_lem w (row ∷ rows) zero i h l = ap (λ (k : ℕ). get_or (row_words w row ++ gather (row_words w) rows) k 0) e ∙ get_or-append (row_words w row) (gather (row_words w) rows) 0 i (rw length-words l)
  where
    e : 0 * w + i ≡ i
    e = rw zero-mul (omega arith)
row_words_lem w (row ∷ rows) (suc r) i h l =
    ap (λ (k : ℕ). get_or (row_words w row ++ gather (row_words w) rows) k 0) e ∙ get_or-append-add (row_words w row) (gather (row_words w) rows) (r * w + i) 0 ∙ row_words_lem w rows r i (le_of_suc-le-suc h) l
  where
    e : suc r * w + i ≡ length (row_words w row) + (r * w + i)
    e = rw (length-words, suc-mul) (omega arith)

-- W words for each row
pub length-rows : (w : ℕ) (rows : List (List Bool)) → length (gather (row_words w) rows) ≡ length rows * w
length-rows w [] = sym (zero-mul w)
length-rows w (row ∷ rows) = length-append (row_words w row) (gather (row_words w) rows) ∙ rw (length-words, suc-mul) (omega (arith, length-rows w rows))

-- Point p of row r is bit p of the words from word r × W on, whatever follows the rows.
pub row-bit : (w : ℕ) (rows : List (List Bool)) (rest : List ℕ) (r p : ℕ) → r < length rows → p < word_bits * w
    → bit_of (gather (row_words w) rows ++ rest) (word_bits * (r * w) + p) ≡ bit (get_or (get_or rows r []) p false)
row-bit w rows rest r p h l =
    ap (λ (i : ℕ). get_or (gather (row_words w) rows ++ rest) i 0 / 2 ^ ((word_bits * (r * w) + p) % word_bits) % 2) quotient
    ∙ ap (λ (i : ℕ). get_or (gather (row_words w) rows ++ rest) (r * w + p / word_bits) 0 / 2 ^ i % 2) remainder
    ∙ ap (λ (x : ℕ). x / 2 ^ (p % word_bits) % 2) (get_or-append (gather (row_words w) rows) rest 0 (r * w + p / word_bits) inside ∙ row_words_lem w rows r (p / word_bits) h (omega arith))
    ∙ words-bit w (get_or rows r []) p l
  where
    quotient : (word_bits * (r * w) + p) / word_bits ≡ r * w + p / word_bits
    quotient = omega arith

    remainder : (word_bits * (r * w) + p) % word_bits ≡ p % word_bits
    remainder = omega arith

    inside : r * w + p / word_bits < length (gather (row_words w) rows)
    inside = omega (arith, length-rows w rows, mul-le-mul_right w h, suc-mul r w)

-- ---- Words and sets determine each other

number-take-fits : (k : ℕ) (bs : List Bool) → from_bits (take k bs) < 2 ^ k
unfolding from_bits
number-take-fits zero bs = rw pow-zero (omega arith)
number-take-fits (suc k) [] = rw pow-succ' (omega (arith, number-take-fits k []))
number-take-fits (suc k) (true ∷ bs) = rw pow-succ' (omega (arith, number-take-fits k bs))
number-take-fits (suc k) (false ∷ bs) = rw pow-succ' (omega (arith, number-take-fits k bs))

-- Each word has as many bits as a word may.
pub words-fit : (n : ℕ) (bs : List Bool) (i : ℕ) → i < n → get_or (row_words n bs) i 0 < 2 ^ word_bits
words-fit n bs i h = rw (words-at n bs i h) (number-take-fits word_bits (drop (word_bits * i) bs))

bit-same : (a b : Bool) → bit a ≡ bit b → a ≡ b
bit-same true true e = refl
bit-same true false e = absurd (omega arith)
bit-same false true e = absurd (omega arith)
bit-same false false e = refl

-- Sets of as many points that have the same words are the same.
pub words_same : (n : ℕ) (xs ys : List Bool) → length xs ≡ length ys → length xs ≤ word_bits * n → row_words n xs ≡ row_words n ys → xs ≡ ys
words_same n xs ys same fits e =
    ext_get_or false xs ys same λ p h.
    bit-same (get_or xs p false) (get_or ys p false)
    (sym (words-bit n xs p (omega arith)) ∙ ap (λ (ws : List ℕ). bit_of ws p) e ∙ words-bit n ys p (omega arith))

bit-eqb : (m : ℕ) → m < 2 → bit (eqb m 1) ≡ m
bit-eqb zero h = refl
bit-eqb (suc zero) h = refl
bit-eqb (suc (suc m)) h = absurd (omega arith)

-- a from_bits is that with its bits, as many as it needs
pub number-of-bits : (bs : List Bool) (w : ℕ) → w < 2 ^ length bs → ((i : ℕ) → i < length bs → get_or bs i false ≡ eqb (w / 2 ^ i % 2) 1) → from_bits bs ≡ w
unfolding from_bits
number-of-bits [] w h same = omega (arith, pow-zero 2)
number-of-bits (b ∷ bs) w h same =
    let high : from_bits bs ≡ w / 2 = number-of-bits bs (w / 2) (omega (arith, fits)) (λ i l. same (suc i) (suc-le-suc l) ∙ ap (λ (x : ℕ). eqb (x % 2) 1) (shift i)) in
    omega (arith, low, high)
  where
    low : bit b ≡ w % 2
    low = ap bit (same 0 (omega arith)) ∙ rw (pow-zero, div-one) (bit-eqb (w % 2) (omega arith))

    fits : w < 2 * 2 ^ length bs
    fits = rw pow-succ' at h

    shift : (i : ℕ) → w / 2 ^ suc i ≡ w / 2 / 2 ^ i
    shift i = rw pow-succ' (sym (div-div-eq-div-mul w 2 (2 ^ i)))

-- the set that n words say
abbrev pub bits_of : ℕ → List ℕ → List Bool
bits_of n ws = map (λ i. eqb (bit_of ws i) 1) (below (word_bits * n))

-- Words are those of the set that they say.
pub words-of-bits : (n : ℕ) (ws : List ℕ) → length ws ≡ n → ((i : ℕ) → i < n → get_or ws i 0 < 2 ^ word_bits) → row_words n (bits_of n ws) ≡ ws
words-of-bits n ws e small =
    ext_get_or 0 (row_words n (bits_of n ws)) ws (length-words n (bits_of n ws) ∙ sym e) λ i h.
    let l : i < n = omega (arith, length-words n (bits_of n ws)) in
    words-at n (bits_of n ws) i l ∙ number-of-bits (word i) (get_or ws i 0) (rw (length_word i l) (small i l)) (λ q k. at i q l (omega (arith, length_word i l)))
  where
    word : ℕ → List Bool
    word i = take word_bits (drop (word_bits * i) (bits_of n ws))

    length_word : (i : ℕ) → i < n → length (word i) ≡ word_bits
    length_word i l = length-take-le word_bits (drop (word_bits * i) (bits_of n ws)) (rw (length-drop, length-map, length-count_from) (omega arith))

    at : (i q : ℕ) → i < n → q < word_bits → get_or (word i) q false ≡ eqb (get_or ws i 0 / 2 ^ q % 2) 1
    at i q l k =
        get_or-take word_bits (drop (word_bits * i) (bits_of n ws)) q false k ∙ get_or-drop (word_bits * i) (bits_of n ws) q false
        ∙ get_or-map-below (λ (p : ℕ). eqb (bit_of ws p) 1) false (word_bits * n) (word_bits * i + q) (omega arith)
        ∙ ap (λ (x : ℕ). eqb (get_or ws x 0 / 2 ^ ((word_bits * i + q) % word_bits) % 2) 1) (omega arith)
        ∙ ap (λ (x : ℕ). eqb (get_or ws i 0 / 2 ^ x % 2) 1) (omega arith)
