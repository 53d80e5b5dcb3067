-- Texts into a buffer, and the decimal digits of a number.
-- Assumes nothing.
use mathlib.Core.Path.{◌≡◌, sym, ◌∙◌, ap}
use mathlib.Core.Bool.{Bool, true, false}
use mathlib.Core.List.{List, [], ◌∷◌, ◌++◌, append_assoc, append-nil}
use Prim.Native.Nat.{ℕ, zero, suc, ◌+◌, ◌/◌, ◌%◌, ◌^◌, ◌<◌, ◌≤◌}
use Prim.Native.String.{String}
use native.Mathlib.Numerals.{add-one}
use native.Mathlib.Nat.{pow-succ'}
use native.Mathlib.Omega.{arith}
use native.Mathlib.Decide.{dec_lt}
use lib.ListN.{length, take, get_or, length-append}
use lib.Dec.{ltb}
use borrow.Author.Tests.{lt-ltb, le-ltb}
use Rattle.nll_spec.specs.Lists.{gather}
use Rattle.nll_spec.specs.Listing.{ascii, digits_of, spaced, line}
use Rattle.buffer.specs.Appending.{Appends}
use Rattle.buffer.proofs.AppendLaws.{appends_then}

-- ---- Texts one after the other

pub join : (u v w x : List ℕ) → ((u ++ v) ++ w) ++ x ≡ u ++ (v ++ (w ++ x))
join u v w x = append_assoc (u ++ v) w x ∙ append_assoc u v (w ++ x)

pub puts_as : {a b : List ℕ} {old new : List ℕ} → a ≡ b → Appends a old new → Appends b old new
puts_as e p = rw (sym e) p

-- ---- Decimal digits

-- the digits, by the test for the last of them
unfoldable digits_by : Bool → ℕ → ℕ → List ℕ
digits_by last most n = elim last [ true ↦ (0x30 + n) ∷ [] | false ↦ digits_of most (n / 10) ++ ((0x30 + n % 10) ∷ []) ]

digits_by_lem : (most n : ℕ) {last : Bool} → ltb n 10 ≡ last → digits_of (suc most) n ≡ digits_by last most n
unfolding digits_of digits_by
digits_by_lem most n e = rw (sym e)

digits_last : (most n : ℕ) → n < 10 → digits_of (suc most) n ≡ (48 + n) ∷ []
unfolding digits_by
digits_last most n h = digits_by_lem most n (lt-ltb n 10 h)

digits_more : (most n : ℕ) → 10 ≤ n → digits_of (suc most) n ≡ digits_of most (n / 10) ++ ((48 + n % 10) ∷ [])
unfolding digits_by
digits_more most n h = digits_by_lem most n (le-ltb n 10 h)

-- more room for digits changes nothing
digits_same : (f g n : ℕ) → n < f → n < g → digits_of f n ≡ digits_of g n
digits_same zero g n h k = absurd (omega arith)
digits_same (suc f) zero n h k = absurd (omega arith)
digits_same (suc f) (suc g) n h k = go (λ l. digits_same f g (n / 10) (omega arith) (omega arith)) (dec_lt n 10)
  where
    go : (10 ≤ n → digits_of f (n / 10) ≡ digits_of g (n / 10)) → Dec (n < 10) → digits_of (suc f) n ≡ digits_of (suc g) n
    go same (yes l) = digits_last f n l ∙ sym (digits_last g n l)
    go same (no l) =
        let m : 10 ≤ n = omega (arith, l) in
        digits_more f n m ∙ ap (λ (ds : List ℕ). ds ++ ((48 + n % 10) ∷ [])) (same m) ∙ sym (digits_more g n m)

pub decimal_last : (n : ℕ) → n < 10 → digits_of (suc n) n ≡ (48 + n) ∷ []
decimal_last n h = digits_last n n h

pub decimal_more : (n : ℕ) → 10 ≤ n → digits_of (suc n) n ≡ digits_of (suc (n / 10)) (n / 10) ++ ((48 + n % 10) ∷ [])
decimal_more n h = digits_more n n h ∙ ap (λ (ds : List ℕ). ds ++ ((48 + n % 10) ∷ [])) (digits_same n (suc (n / 10)) (n / 10) (omega arith) (omega arith))

pub decimal_longer : (n : ℕ) → 10 ≤ n → length (digits_of (suc n) n) ≡ length (digits_of (suc (n / 10)) (n / 10)) + 1
decimal_longer n h = ap length (decimal_more n h) ∙ length-append (digits_of (suc (n / 10)) (n / 10)) ((48 + n % 10) ∷ [])

-- a number below 10 to the k has at most k digits
decimal_short : (k n : ℕ) → n < 10 ^ suc k → length (digits_of (suc n) n) ≤ suc k
decimal_short zero n h = rw (decimal_last n (omega (arith, h))) (omega arith)
decimal_short (suc k) n h = go (λ m. decimal_short k (n / 10) (omega (arith, rw pow-succ' at h))) (dec_lt n 10)
  where
    go : (10 ≤ n → length (digits_of (suc (n / 10)) (n / 10)) ≤ suc k) → Dec (n < 10) → length (digits_of (suc n) n) ≤ suc (suc k)
    go short (yes l) = rw (decimal_last n l) (omega arith)
    go short (no l) = let m : 10 ≤ n = omega (arith, l) in omega (arith, decimal_longer n m, short m)

pub decimal_room : (n : ℕ) → n ≤ 65535 → length (digits_of (suc n) n) ≤ 5
decimal_room n h = decimal_short 4 n (omega arith)

pub number_last : (n : ℕ) → n < 10 → {d : ℕ} {old new : List ℕ} → d ≡ 48 + n % 10 → Appends (d ∷ []) old new → Appends (digits_of (suc n) n) old new
number_last n h e p = puts_as (ap (λ (x : ℕ). x ∷ []) (e ∙ omega arith) ∙ sym (decimal_last n h)) p

pub number_more : (n : ℕ) → 10 ≤ n → {d : ℕ} {old between new : List ℕ} → d ≡ 48 + n % 10 → Appends (digits_of (suc (n / 10)) (n / 10)) old between → Appends (d ∷ []) between new
    → Appends (digits_of (suc n) n) old new
number_more n h e p q = puts_as (ap (λ (x : ℕ). digits_of (suc (n / 10)) (n / 10) ++ (x ∷ [])) e ∙ sym (decimal_more n h)) (appends_then p q)

-- ---- Lines

pub spaced-room : (n : ℕ) → n ≤ 65535 → length (spaced n) ≤ 6
spaced-room n h = omega (arith, decimal_room n h)

pub pair_room : (word : List ℕ) (n : ℕ) → n ≤ 65535 → length (word ++ spaced n) ≤ length word + 6
pair_room word n h = omega (arith, length-append word (spaced n), spaced-room n h)

pub line_one : (word : String) (n : ℕ) → (ascii word ++ spaced n) ++ (10 ∷ []) ≡ line word (n ∷ [])
unfolding line
line_one word n = ap (λ (l : List ℕ). (ascii word ++ l) ++ (10 ∷ [])) (sym (append-nil (spaced n)))

pub line_three : (word : String) (a b d : ℕ) → (((ascii word ++ spaced a) ++ spaced b) ++ spaced d) ++ (10 ∷ []) ≡ line word (a ∷ b ∷ d ∷ [])
unfolding line
line_three word a b d =
    ap (λ (l : List ℕ). (((ascii word ++ spaced a) ++ spaced b) ++ l) ++ (10 ∷ [])) (sym (append-nil (spaced d)))
    ∙ ap (λ (l : List ℕ). l ++ (10 ∷ [])) (join (ascii word) (spaced a) (spaced b) (spaced d ++ []))

pub line-room : (word : String) (n : ℕ) → n ≤ 65535 → length (line word (n ∷ [])) ≤ length (ascii word) + 7
line-room word n h =
    omega (arith, ap length (line_one word n), length-append (ascii word ++ spaced n) (10 ∷ []), pair_room (ascii word) n h)

pub line-room_three : (word : String) (a b d : ℕ) → a ≤ 65535 → b ≤ 65535 → d ≤ 65535 → length (line word (a ∷ b ∷ d ∷ [])) ≤ length (ascii word) + 19
line-room_three word a b d h k l =
    omega (
      arith,
      ap length (line_three word a b d),
      length-append (((ascii word ++ spaced a) ++ spaced b) ++ spaced d) (10 ∷ []),
      pair_room ((ascii word ++ spaced a) ++ spaced b) d l,
      pair_room (ascii word ++ spaced a) b k,
      pair_room (ascii word) a h,
    )

-- so many numbers after a word
pub gather_turn : (word ns : List ℕ) (i : ℕ) {old between new : List ℕ} → i < length ns → Appends (word ++ gather spaced (take i ns)) old between
    → Appends (spaced (get_or ns i 0)) between new → Appends (word ++ gather spaced (take (i + 1) ns)) old new
gather_turn word ns i l p q =
    rw (add-one i) (puts_as (append_assoc word (gather spaced (take i ns)) (spaced (get_or ns i 0)) ∙ ap (λ (x : List ℕ). word ++ x) (more ns i l)) (appends_then p q))
  where
    more : (ns : List ℕ) (i : ℕ) → i < length ns → gather spaced (take i ns) ++ spaced (get_or ns i 0) ≡ gather spaced (take (suc i) ns)
    more [] i l = absurd (omega arith)
    more (n ∷ ns) zero l = sym (append-nil (spaced n))
    more (n ∷ ns) (suc i) l =
        append_assoc (spaced n) (gather spaced (take i ns)) (spaced (get_or ns i 0)) ∙ ap (λ (x : List ℕ). spaced n ++ x) (more ns i (omega arith))
