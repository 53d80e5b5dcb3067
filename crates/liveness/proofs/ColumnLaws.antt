-- From the points' sets to the variables' rows. Assumes nothing.
use mathlib.Core.Path.{◌≡◌, refl, sym, ap, ap₂, ◌∙◌}
use mathlib.Core.Bool.{Bool, true, false, ◌&&◌, ◌||◌, and-true, and-false, or-true, or-false}
use mathlib.Core.List.{List}
use Prim.Native.Nat.{ℕ, ◌+◌, ◌-◌, ◌*◌, ◌/◌, ◌%◌, ◌^◌, ◌≤◌, ◌<◌}
use native.Mathlib.Omega.{arith}
use native.Mathlib.Decide.{ℕ_discrete, dec_lt}
use native.Mathlib.Nat.{mul-le-mul_right, suc-mul}
use lib.ListN.{length, get_or}
use lib.Dec.{eqb, leb, ltb}
use borrow.Author.Tests.{eq-eqb, ne_eqb, lt-ltb, le-ltb, le-leb, lt-leb}
use Rattle.nll_spec.specs.Output.{word_bits}
use Rattle.bit_set.specs.Bits.{has, with_bit, cleared}
use Rattle.bit_set.proofs.BitLaws.{length_with, has_with, has_with_other}
use Rattle.bit_set.proofs.SetLaws.{has-cleared}
use Rattle.bit_slice.proofs.ShiftLaws.{shift_done}
use Rattle.flow.specs.Flows.{bit_at}
use Rattle.flow.proofs.RunningLaws.{has_word}
use Rattle.liveness.specs.Rows.{row_bit, in_set, in_word, Column, Columns}
use Rattle.liveness.proofs.HalfLaws.{or_spread}
use Rattle.liveness.proofs.FillLaws.{one_more}

-- ---- Places in rows

-- a row ends where the next one begins
row_room : (w v many : ℕ) → v < many → v * w + w ≤ many * w
row_room w v many l = omega (arith, mul-le-mul_right w l, suc-mul v w)

same_row_lem : (w v n p x : ℕ) → p < word_bits * w → x < word_bits * w → row_bit w v p ≡ row_bit w n x → v ≡ n
same_row_lem w v n p x l m e = go (dec_lt v n) (dec_lt n v)
  where
    go : Dec (v < n) → Dec (n < v) → v ≡ n
    go (yes a) d = absurd (omega (arith, e, l, m, row_room w v n a))
    go (no a) (yes d) = absurd (omega (arith, e, l, m, row_room w n v d))
    go (no a) (no d) = omega (arith, a, d)

same_point : (w v n p x : ℕ) → p < word_bits * w → x < word_bits * w → row_bit w v p ≡ row_bit w n x → p ≡ x
same_point w v n p x l m e = let k : v * w ≡ n * w = ap (λ (i : ℕ). i * w) (same_row_lem w v n p x l m e) in omega (arith, e, k)

-- ---- One point of one row

module _ (w n x : ℕ) (ws : List ℕ) (size : 64 * w ≤ length ws) (hn : n < 64) (hx : x < word_bits * w) where
  put-point : (v p : ℕ) → p < word_bits * w → has (with_bit ws (row_bit w n x)) (row_bit w v p) ≡ (has ws (row_bit w v p) || (eqb p x && eqb v n))
  put-point v p l = go (ℕ_discrete p x) (ℕ_discrete v n)
    where
      go : Dec (p ≡ x) → Dec (v ≡ n) → has (with_bit ws (row_bit w n x)) (row_bit w v p) ≡ (has ws (row_bit w v p) || (eqb p x && eqb v n))
      go (yes e) (yes k) =
          let z : row_bit w v p ≡ row_bit w n x = rw (e, k) in
          ap (has (with_bit ws (row_bit w n x))) z ∙ has_with ws (row_bit w n x) (omega (arith, row_room w n 64 hn))
          ∙ sym (ap₂ (λ (a b : Bool). has ws (row_bit w v p) || (a && b)) (eq-eqb p x e) (eq-eqb v n k) ∙ or-true (has ws (row_bit w v p)))
      go (yes e) (no k) =
          has_with_other ws (row_bit w n x) (row_bit w v p) (λ z. k (same_row_lem w v n p x l hx z))
          ∙ sym (ap₂ (λ (a b : Bool). has ws (row_bit w v p) || (a && b)) (eq-eqb p x e) (ne_eqb v n k) ∙ or-false (has ws (row_bit w v p)))
      go (no e) d =
          has_with_other ws (row_bit w n x) (row_bit w v p) (λ z. e (same_point w v n p x l hx z))
          ∙ sym (ap (λ (a : Bool). has ws (row_bit w v p) || (a && eqb v n)) (ne_eqb p x e) ∙ or-false (has ws (row_bit w v p)))

-- ---- The rows of one point

module _ (w : ℕ) (f : ℕ → Bool) (x : ℕ) (rows : List ℕ) where
  -- nothing is put where f gives no variable
  pub column_none : (n : ℕ) → ((v : ℕ) → v < n → f v ≡ false) → Column w n f x rows rows
  column_none n h =
      record {
        size = refl;
        bits = λ v p k. sym (ap (λ (c : Bool). has rows (row_bit w v p) || (eqb p x && c)) (none v (dec_lt v n)) ∙ ap (λ (c : Bool). has rows (row_bit w v p) || c) (and-false (eqb p x)) ∙ or-false (has rows (row_bit w v p)));
      }
    where
      none : (v : ℕ) → Dec (v < n) → (ltb v n && f v) ≡ false
      none v (yes l) = ap (λ (c : Bool). ltb v n && c) (h v l) ∙ and-false (ltb v n)
      none v (no l) = ap (λ (c : Bool). c && f v) (le-ltb v n (omega (arith, l)))

  module _ {n : ℕ} {ws : List ℕ} (g : Column w n f x rows ws) {r : Bool} (is : r ≡ f n) where
    -- what is said of the variables below n + 1
    more : (v p : ℕ) → p < word_bits * w → {d : Bool} → (eqb v n && f n) ≡ d
        → (has ws (row_bit w v p) || (eqb p x && d)) ≡ (has rows (row_bit w v p) || (eqb p x && (ltb v (n + 1) && f v)))
    more v p k {d} e =
        ap₂ (λ (a b : Bool). a || (eqb p x && b)) (g.bits v p k) (sym e) ∙ or_spread (has rows (row_bit w v p)) (eqb p x) (ltb v n && f v) (eqb v n && f n)
        ∙ ap (λ (c : Bool). has rows (row_bit w v p) || (eqb p x && c)) (one_more f v n)

    pub column_held : {u : List ℕ} → r ≡ true → 64 * w ≤ length rows → n < 64 → x < word_bits * w → u ≡ with_bit ws (word_bits * (n * w) + x) → Column w (n + 1) f x rows u
    column_held e hl hn hx q =
        record {
          size = ap length q ∙ length_with ws (row_bit w n x) ∙ g.size;
          bits = λ v p k. ap (λ (l : List ℕ). has l (row_bit w v p)) q ∙ put-point w n x ws (omega (arith, g.size)) hn hx v p k ∙ more v p k (ap (λ (c : Bool). eqb v n && c) (sym is ∙ e) ∙ and-true (eqb v n));
        }

    pub column_out : {u : List ℕ} → r ≡ false → u ≡ ws → Column w (n + 1) f x rows u
    column_out e q =
        record {
          size = ap length q ∙ g.size;
          bits = λ v p k.
              ap (λ (l : List ℕ). has l (row_bit w v p)) q ∙ sym (ap (λ (c : Bool). has ws (row_bit w v p) || c) (and-false (eqb p x)) ∙ or-false (has ws (row_bit w v p)))
              ∙ more v p k (ap (λ (c : Bool). eqb v n && c) (sym is ∙ e) ∙ and-false (eqb v n));
        }

  -- f gives no variable from n on
  pub column_rest : {n : ℕ} {u : List ℕ} (many : ℕ) → n ≤ many → ((v : ℕ) → n ≤ v → f v ≡ false) → Column w n f x rows u → Column w many f x rows u
  column_rest {n} many l h g = record { size = g.size; bits = λ v p k. g.bits v p k ∙ ap (λ (c : Bool). has rows (row_bit w v p) || (eqb p x && c)) (same v (dec_lt v n)) }
    where
      same : (v : ℕ) → Dec (v < n) → (ltb v n && f v) ≡ (ltb v many && f v)
      same v (yes m) = ap (λ (c : Bool). c && f v) (lt-ltb v n m ∙ sym (lt-ltb v many (omega (arith, m))))
      same v (no m) =
          let z : f v ≡ false = h v (omega (arith, m)) in
          ap (λ (c : Bool). ltb v n && c) z ∙ and-false (ltb v n) ∙ sym (ap (λ (c : Bool). ltb v many && c) z ∙ and-false (ltb v many))

-- ---- The bits of a word

pub before_word : (word first v : ℕ) → v < first → in_word word first v ≡ false
before_word word first v l = ap (λ (c : Bool). c && eqb (word / 2 ^ (v - first) % 2) 1) (lt-leb first v l)

pub from_word : (word first v : ℕ) {rest : ℕ} → first ≤ v → rest ≡ word / 2 ^ (v - first) → eqb (rest % 2) 1 ≡ in_word word first v
from_word word first v l e = ap (λ (y : ℕ). eqb (y % 2) 1) e ∙ sym (ap (λ (c : Bool). c && eqb (word / 2 ^ (v - first) % 2) 1) (le-leb first v l))

pub past_word : (word first : ℕ) {n rest : ℕ} → first ≤ n → rest ≡ word / 2 ^ (n - first) → rest ≡ 0 → (v : ℕ) → n ≤ v → in_word word first v ≡ false
past_word word first l e z v m = ap (λ (c : Bool). leb first v && c) (shift_done word first l e z v m) ∙ and-false (leb first v)

-- ---- The words of a half

module _ (sets : List ℕ) (x from : ℕ) (part : from % 32 ≡ 0) where
  word_bit : (k first v : ℕ) {word : ℕ} → word ≡ get_or sets (4 * x + from / 32 + k) 0 → first ≡ 32 * k → first ≤ v → v < first + 32 → in_word word first v ≡ in_set sets x from v
  word_bit k first v {word} e q l m =
      let z : word_bits * (4 * x + from / 32 + k) + (v - first) ≡ bit_at x (from + v) = omega (arith, part, q) in
      ap (λ (c : Bool). c && eqb (word / 2 ^ (v - first) % 2) 1) (le-leb first v l) ∙ ap (λ (y : ℕ). eqb (y / 2 ^ (v - first) % 2) 1) e
      ∙ sym (has_word sets (4 * x + from / 32 + k) (v - first) (omega arith)) ∙ ap (has sets) z

  module _ {low : ℕ} (e : low ≡ get_or sets (4 * x + from / 32) 0) where
    low_bit : (v : ℕ) → v < 32 → in_word low 0 v ≡ in_set sets x from v
    low_bit v l = let z : 4 * x + from / 32 + 0 ≡ 4 * x + from / 32 = omega arith in word_bit 0 0 v (e ∙ ap (λ (y : ℕ). get_or sets y 0) (sym z)) refl (omega arith) (omega arith)

    pub column_one : (w : ℕ) {rows u : List ℕ} {many : ℕ} → many ≤ 32 → Column w many (in_word low 0) x rows u → Column w many (in_set sets x from) x rows u
    column_one w {rows} {many = many} l g = record { size = g.size; bits = λ v p k. g.bits v p k ∙ ap (λ (c : Bool). has rows (row_bit w v p) || (eqb p x && c)) (same v (dec_lt v many)) }
      where
        same : (v : ℕ) → Dec (v < many) → (ltb v many && in_word low 0 v) ≡ (ltb v many && in_set sets x from v)
        same v (yes m) = ap (λ (c : Bool). ltb v many && c) (low_bit v (omega arith))
        same v (no m) = let z : ltb v many ≡ false = le-ltb v many (omega (arith, m)) in rw z

    pub column_two : (w : ℕ) {rows u v : List ℕ} {many high : ℕ} → high ≡ get_or sets (4 * x + from / 32 + 1) 0 → 32 < many → many ≤ 64 → Column w 32 (in_word low 0) x rows u → Column w many (in_word high 32) x u v → Column w many (in_set sets x from) x rows v
    column_two w {rows} {many = many} {high} q l m g h =
        record {
          size = h.size ∙ g.size;
          bits = λ v p k.
              h.bits v p k ∙ ap (λ (c : Bool). c || (eqb p x && (ltb v many && in_word high 32 v))) (g.bits v p k)
              ∙ or_spread (has rows (row_bit w v p)) (eqb p x) (ltb v 32 && in_word low 0 v) (ltb v many && in_word high 32 v) ∙ ap (λ (c : Bool). has rows (row_bit w v p) || (eqb p x && c)) (same v (dec_lt v 32) (dec_lt v many));
        }
      where
        same : (v : ℕ) → Dec (v < 32) → Dec (v < many) → ((ltb v 32 && in_word low 0 v) || (ltb v many && in_word high 32 v)) ≡ (ltb v many && in_set sets x from v)
        same v (yes a) d =
            ap₂ (λ (b c : Bool). (b && in_word low 0 v) || c) (lt-ltb v 32 a) (ap (λ (c : Bool). ltb v many && c) (before_word high 32 v a) ∙ and-false (ltb v many)) ∙ or-false (in_word low 0 v) ∙ low_bit v a
            ∙ sym (ap (λ (c : Bool). c && in_set sets x from v) (lt-ltb v many (omega arith)))
        same v (no b) (yes d) =
            ap (λ (c : Bool). (c && in_word low 0 v) || (ltb v many && in_word high 32 v)) (le-ltb v 32 (omega (arith, b)))
            ∙ ap (λ (c : Bool). ltb v many && c) (word_bit 1 32 v q refl (omega (arith, b)) (omega arith))
        same v (no b) (no d) =
            ap₂ (λ (b c : Bool). (b && in_word low 0 v) || (c && in_word high 32 v)) (le-ltb v 32 (omega (arith, b))) (le-ltb v many (omega (arith, d)))
            ∙ sym (ap (λ (c : Bool). c && in_set sets x from v) (le-ltb v many (omega (arith, d))))

-- ---- All points

module _ (w many from : ℕ) (small : many ≤ 64) (walked sets : List ℕ) where
  pub columns_none : (rows : List ℕ) {u : List ℕ} → 64 * w ≤ length rows → u ≡ cleared rows 0 (many * w) → Columns w many 0 from walked sets u
  columns_none rows {u} l e =
      record {
        bits = λ v p h k.
            let z : word_bits * 0 + row_bit w v p ≡ row_bit w v p = omega arith in
            ap (λ (l : List ℕ). has l (row_bit w v p)) e ∙ ap (has (cleared rows 0 (many * w))) (sym z) ∙ has-cleared rows 0 (many * w) (omega (arith, l, mul-le-mul_right w small)) (row_bit w v p) (omega (arith, k, row_room w v many h))
            ∙ sym (ap (λ (c : Bool). c && (has walked p && has sets (bit_at p (from + v)))) (le-ltb p 0 (omega arith)));
      }

  module _ {n : ℕ} {ws : List ℕ} (g : Columns w many n from walked sets ws) {r : Bool} (is : r ≡ has walked (word_bits * 0 + n)) where
    -- what is said of point n
    said : (v : ℕ) {d : Bool} → r ≡ d → (has walked n && has sets (bit_at n (from + v))) ≡ (d && has sets (bit_at n (from + v)))
    said v e = let z : word_bits * 0 + n ≡ n = omega arith in ap (λ (c : Bool). c && has sets (bit_at n (from + v))) (ap (has walked) (sym z) ∙ sym is ∙ e)

    pub columns_held : {u : List ℕ} → r ≡ true → Column w many (in_set sets n from) n ws u → Columns w many (n + 1) from walked sets u
    columns_held e c =
        record {
          bits = λ v p h k.
              c.bits v p k
              ∙ ap₂ (λ (a b : Bool). a || (eqb p n && (b && has sets (bit_at n (from + v))))) (g.bits v p h k) (lt-ltb v many h)
              ∙ ap (λ (a : Bool). (ltb p n && (has walked p && has sets (bit_at p (from + v)))) || (eqb p n && a)) (sym (said v e))
              ∙ one_more (λ q. has walked q && has sets (bit_at q (from + v))) p n;
        }

    pub columns_out : {u : List ℕ} → r ≡ false → u ≡ ws → Columns w many (n + 1) from walked sets u
    columns_out e q =
        record {
          bits = λ v p h k.
              ap (λ (l : List ℕ). has l (row_bit w v p)) q ∙ g.bits v p h k
              ∙ sym (ap (λ (a : Bool). (ltb p n && (has walked p && has sets (bit_at p (from + v)))) || (eqb p n && a)) (said v e) ∙ ap (λ (a : Bool). (ltb p n && (has walked p && has sets (bit_at p (from + v)))) || a) (and-false (eqb p n)) ∙ or-false (ltb p n && (has walked p && has sets (bit_at p (from + v)))))
              ∙ one_more (λ q. has walked q && has sets (bit_at q (from + v))) p n;
        }
