-- Numbers that come to sets of points, one after the other: the laws of `Gains`. Assumes nothing.
use mathlib.Core.Path.{◌≡◌, refl, sym, ap, ap₂, ◌∙◌, subst}
use mathlib.Core.Logic.{◌⊎◌, inl, inr}
use mathlib.Core.Bool.{Bool, true, false, ◌&&◌, ◌||◌, or-true, true≢false}
use mathlib.Core.List.{List}
use Prim.Native.Nat.{ℕ, ◌+◌, ◌-◌, ◌*◌, ◌/◌, ◌%◌, ◌^◌, ◌≤◌, ◌<◌}
use native.Mathlib.Omega.{arith}
use native.Mathlib.Decide.{ℕ_discrete, dec_lt}
use lib.ListN.{length, get_or}
use lib.Dec.{eqb}
use Rattle.nll_spec.specs.Syntax.{Point}
use Rattle.nll_spec.specs.Output.{word_bits}
use Rattle.bit_set.specs.Bits.{has, with_bit, joined}
use Rattle.bit_set.proofs.BitLaws.{digit, length_with, has_with, has_with_other}
use Rattle.bit_set.proofs.SetLaws.{length-joined, has-joined, has-joined_other}
use Rattle.bit_slice.proofs.ShiftLaws.{shift_done}
use Rattle.graph.specs.Tables.{row_start, row_end, up_to, successors}
use Rattle.graph.proofs.RowLaws.{successor_at}
use Rattle.flow.specs.Flows.{bit_at}
use Rattle.flow.proofs.RunningLaws.{digit_and, has_word}
use Rattle.loans_in_scope.specs.Gains.{Gains, Cell, If, Cells, Column, Below, WordTo, Onto, Leaving, Row, Rows, Masked}

-- ---- One after the other

pub gains_none : {F : Point → ℕ → Type 0} (ws : List ℕ) → ((p : Point) (i : ℕ) → F p i → ⊥) → Gains F ws ws
gains_none ws n = record { as_long = refl; old = λ p i l h. h; new = λ p i l f. absurd (n p i f); only = λ p i l h. inl h }

pub gains_then : {F G H : Point → ℕ → Type 0} {ws u x : List ℕ} → Gains F ws u → Gains G u x → ((p : Point) (i : ℕ) → F p i → H p i) → ((p : Point) (i : ℕ) → G p i → H p i)
    → ((p : Point) (i : ℕ) → H p i → F p i ⊎ G p i) → Gains H ws x
gains_then {F} {G} {H} {ws} {u} {x} a b f g h =
    record {
      as_long = b.as_long ∙ a.as_long;
      old = λ p i l e. b.old p i l (a.old p i l e);
      new = λ p i l e. new p i l (h p i e);
      only = λ p i l e. only p i l (b.only p i l e);
    }
  where
    new : (p : Point) (i : ℕ) → i < 128 → F p i ⊎ G p i → has x (bit_at p i) ≡ true
    new p i l (inl e) = b.old p i l (a.new p i l e)
    new p i l (inr e) = b.new p i l e

    from : (p : Point) (i : ℕ) → (has ws (bit_at p i) ≡ true) ⊎ F p i → (has ws (bit_at p i) ≡ true) ⊎ H p i
    from p i (inl e) = inl e
    from p i (inr e) = inr (f p i e)

    only : (p : Point) (i : ℕ) → i < 128 → (has u (bit_at p i) ≡ true) ⊎ G p i → (has ws (bit_at p i) ≡ true) ⊎ H p i
    only p i l (inl e) = from p i (a.only p i l e)
    only p i l (inr e) = inr (g p i e)

pub gains_as : {F G : Point → ℕ → Type 0} {ws u : List ℕ} → Gains F ws u → ((p : Point) (i : ℕ) → F p i → G p i) → ((p : Point) (i : ℕ) → G p i → F p i) → Gains G ws u
gains_as a f g = gains_then a (gains_none _ (λ p i (x : ⊥). x)) f (λ p i x. absurd x) (λ p i x. inl (g p i x))

-- ---- One number

places : (p q i k : ℕ) → i < 128 → k < 128 → bit_at q k ≡ bit_at p i → (q ≡ p) × (k ≡ i)
places p q i k l m e = (omega arith, omega arith)

module _ (ws : List ℕ) (p i : ℕ) {comes : Bool} where
  pub gains_with : 4 * p + 4 ≤ length ws → i < 128 → comes ≡ true → Gains (If (Cell p i) comes) ws (with_bit ws (bit_at p i))
  gains_with size m c =
      record {
        as_long = length_with ws (bit_at p i);
        old = λ q k n h. old q k h (ℕ_discrete (bit_at q k) (bit_at p i));
        new = λ q k n e. rw (e.0.0, e.0.1) here;
        only = λ q k n h. only q k n h (ℕ_discrete (bit_at q k) (bit_at p i));
      }
    where
      here : has (with_bit ws (bit_at p i)) (bit_at p i) ≡ true
      here = has_with ws (bit_at p i) (omega arith)

      old : (q k : ℕ) → has ws (bit_at q k) ≡ true → Dec (bit_at q k ≡ bit_at p i) → has (with_bit ws (bit_at p i)) (bit_at q k) ≡ true
      old q k h (yes e) = ap (has (with_bit ws (bit_at p i))) e ∙ here
      old q k h (no e) = has_with_other ws (bit_at p i) (bit_at q k) e ∙ h

      only : (q k : ℕ) → k < 128 → has (with_bit ws (bit_at p i)) (bit_at q k) ≡ true → Dec (bit_at q k ≡ bit_at p i) → (has ws (bit_at q k) ≡ true) ⊎ If (Cell p i) comes q k
      only q k n h (yes e) = inr (places p q i k m n e, c)
      only q k n h (no e) = inl (sym (has_with_other ws (bit_at p i) (bit_at q k) e) ∙ h)

-- ---- Numbers at some places

-- the places of D that pass a test
abbrev On : (Point → ℕ → Type 0) → (Point → ℕ → Bool) → Point → ℕ → Type 0
On D f p i = D p i × (f p i ≡ true)

module _ {f : Point → ℕ → Bool} where
  on_then : {D E H : Point → ℕ → Type 0} {ws u v : List ℕ} → Gains (On D f) ws u → Gains (On E f) u v → ((p : Point) (i : ℕ) → D p i → H p i) → ((p : Point) (i : ℕ) → E p i → H p i)
      → ((p : Point) (i : ℕ) → H p i → D p i ⊎ E p i) → Gains (On H f) ws v
  on_then {D} {E} x y d e h = gains_then x y (λ p i k. (d p i k.0, k.1)) (λ p i k. (e p i k.0, k.1)) (λ p i k. go p i (h p i k.0) k.1)
    where
      go : (p : Point) (i : ℕ) → D p i ⊎ E p i → f p i ≡ true → On D f p i ⊎ On E f p i
      go p i (inl k) q = inl (k, q)
      go p i (inr k) q = inr (k, q)

-- the test, or the places, said otherwise
pub on_as : {D E : Point → ℕ → Type 0} {f g : Point → ℕ → Bool} {ws u : List ℕ} → Gains (On D f) ws u → ((p : Point) (i : ℕ) → D p i → E p i) → ((p : Point) (i : ℕ) → E p i → D p i)
    → ((p : Point) (i : ℕ) → D p i → f p i ≡ g p i) → Gains (On E g) ws u
on_as x d e s = gains_as x (λ p i k. (d p i k.0, sym (s p i k.0) ∙ k.1)) (λ p i k. (e p i k.0, s p i (e p i k.0) ∙ k.1))

module _ (f : Point → ℕ → Bool) (ws : List ℕ) where
  pub cells_more : {u v : List ℕ} (p i : ℕ) → Gains (On (Cells p i) f) ws u → Gains (On (Cell p i) f) u v → Gains (On (Cells p (i + 1)) f) ws v
  cells_more p i a b = on_then a b (λ q k e. (e.0, omega (arith, e.1))) (λ q k e. (e.0, omega (arith, e.1))) (λ q k e. go q k e (ℕ_discrete k i))
    where
      go : (q k : ℕ) → Cells p (i + 1) q k → Dec (k ≡ i) → Cells p i q k ⊎ Cell p i q k
      go q k e (yes n) = inr (e.0, n)
      go q k e (no n) = inl (e.0, omega (arith, n, e.1))

  pub points-more : {u v : List ℕ} (n p : ℕ) → Gains (On (Below p n) f) ws u → Gains (On (Cells p n) f) u v → Gains (On (Below (p + 1) n) f) ws v
  points-more n p a b = on_then a b (λ q k e. (omega (arith, e.0), e.1)) (λ q k e. (omega (arith, e.0), e.1)) (λ q k e. go q k e (ℕ_discrete q p))
    where
      go : (q k : ℕ) → Below (p + 1) n q k → Dec (q ≡ p) → Below p n q k ⊎ Cells p n q k
      go q k e (yes m) = inr (m, e.1)
      go q k e (no m) = inl (omega (arith, m, e.0), e.1)

  pub columns_more : {u v : List ℕ} (n i : ℕ) → Gains (On (Below n i) f) ws u → Gains (On (Column n i) f) u v → Gains (On (Below n (i + 1)) f) ws v
  columns_more n i a b = on_then a b (λ q k e. (e.0, omega (arith, e.1))) (λ q k e. (e.0, omega (arith, e.1))) (λ q k e. go q k e (ℕ_discrete k i))
    where
      go : (q k : ℕ) → Below n (i + 1) q k → Dec (k ≡ i) → Below n i q k ⊎ Column n i q k
      go q k e (yes m) = inr (e.0, m)
      go q k e (no m) = inl (e.0, omega (arith, m, e.1))

-- ---- Sets that were empty

module _ {f : Point → ℕ → Bool} {code count : ℕ} {none ws : List ℕ} (empty : (p : Point) (i : ℕ) → i < 128 → has none (bit_at p i) ≡ false) (g : Gains (λ p i. Below code count p i × (f p i ≡ true)) none ws) where
  pub filled-has : (p i : ℕ) → p < code → i < count → i < 128 → has ws (bit_at p i) ≡ f p i
  filled-has p i l m n = go (f p i) refl (has ws (bit_at p i)) refl
    where
      from : (has none (bit_at p i) ≡ true) ⊎ (Below code count p i × (f p i ≡ true)) → f p i ≡ true
      from (inl e) = absurd (true≢false (sym e ∙ empty p i n))
      from (inr e) = e.1

      go : (a : Bool) → f p i ≡ a → (b : Bool) → has ws (bit_at p i) ≡ b → b ≡ a
      go true e b h = sym h ∙ g.new p i n ((l, m), e)
      go false e true h = sym (from (g.only p i n h)) ∙ e
      go false e false h = refl

-- ---- The bits of a word

module _ (w from i : ℕ) (ws : List ℕ) where
  module _ {p rest : ℕ} (l : from ≤ p) (r : rest ≡ w / 2 ^ (p - from)) where
    pub word_more : {u v : List ℕ} → Gains (WordTo w from p i) ws u → Gains (If (Cell p i) (eqb (rest % 2) 1)) u v → Gains (WordTo w from (p + 1) i) ws v
    word_more a b =
        gains_then a b (λ q k e. (e.0, e.1, omega (arith, e.2), e.3)) (λ q k e. (e.0.1, omega (arith, l, e.0.0), omega (arith, e.0.0), to q e.0.0 e.1))
        (λ q k e. go q k e (ℕ_discrete q p))
      where
        same : (q : ℕ) → q ≡ p → eqb (w / 2 ^ (q - from) % 2) 1 ≡ eqb (rest % 2) 1
        same q m = ap (λ (x : ℕ). eqb (w / 2 ^ (x - from) % 2) 1) m ∙ ap (λ (x : ℕ). eqb (x % 2) 1) (sym r)

        to : (q : ℕ) → q ≡ p → eqb (rest % 2) 1 ≡ true → eqb (w / 2 ^ (q - from) % 2) 1 ≡ true
        to q m e = same q m ∙ e

        go : (q k : ℕ) → WordTo w from (p + 1) i q k → Dec (q ≡ p) → WordTo w from p i q k ⊎ If (Cell p i) (eqb (rest % 2) 1) q k
        go q k e (yes m) = inr ((m, e.0), sym (same q m) ∙ e.3)
        go q k e (no m) = inl (e.0, e.1, omega (arith, m, e.2), e.3)

    -- nothing is left of the word
    pub word_done : {u : List ℕ} (to : ℕ) → p ≤ to → rest ≡ 0 → Gains (WordTo w from p i) ws u → Gains (WordTo w from to i) ws u
    word_done to m z a = gains_as a (λ q k e. (e.0, e.1, omega (arith, e.2), e.3)) (λ q k e. (e.0, e.1, below q e (dec_lt q p), e.3))
      where
        below : (q : ℕ) {k : ℕ} (e : WordTo w from to i q k) → Dec (q < p) → q < p
        below q e (yes n) = n
        below q e (no n) = absurd (true≢false (sym e.3 ∙ shift_done w from l r z q (omega (arith, n))))

-- ---- Numbers that go to the points that follow

module _ (ws from : List ℕ) (code p q : ℕ) where
  pub gains_joined : 4 * code ≤ length ws → 4 * code ≤ length from → p < code → q < code → Gains (Onto from code p q) ws (joined ws (4 * q) from (4 * p) 4)
  gains_joined size sized l m =
      record {
        as_long = length-joined ws (4 * q) from (4 * p) 4;
        old = λ x i n h. old x i n h (ℕ_discrete x q);
        new = λ x i n e. rw e.1 (here i n ∙ ap (λ (b : Bool). has ws (bit_at q i) || b) e.2 ∙ or-true (has ws (bit_at q i)));
        only = λ x i n h. only x i n h (ℕ_discrete x q);
      }
    where
      here : (i : ℕ) → i < 128 → has (joined ws (4 * q) from (4 * p) 4) (bit_at q i) ≡ (has ws (bit_at q i) || has from (bit_at p i))
      here i n = has-joined ws (4 * q) from (4 * p) 4 (omega arith) (omega arith) i (omega arith)

      other : (x i : ℕ) → i < 128 → (x ≡ q → ⊥) → has (joined ws (4 * q) from (4 * p) 4) (bit_at x i) ≡ has ws (bit_at x i)
      other x i n e = go (dec_lt x q)
        where
          go : Dec (x < q) → has (joined ws (4 * q) from (4 * p) 4) (bit_at x i) ≡ has ws (bit_at x i)
          go (yes k) = has-joined_other ws (4 * q) from (4 * p) 4 (bit_at x i) (inl (omega arith))
          go (no k) = let z : q < x = omega (arith, k, e) in has-joined_other ws (4 * q) from (4 * p) 4 (bit_at x i) (inr (omega arith))

      old : (x i : ℕ) → i < 128 → has ws (bit_at x i) ≡ true → Dec (x ≡ q) → has (joined ws (4 * q) from (4 * p) 4) (bit_at x i) ≡ true
      old x i n h (no e) = other x i n e ∙ h
      old x i n h (yes e) = let k : has ws (bit_at q i) ≡ true = rw e at h in rw e (here i n ∙ ap (λ (b : Bool). b || has from (bit_at p i)) k)

      either : (a b : Bool) → (a || b) ≡ true → (a ≡ true) ⊎ (b ≡ true)
      either true b e = inl refl
      either false b e = inr e

      found : (x i : ℕ) → x ≡ q → (has ws (bit_at q i) ≡ true) ⊎ (has from (bit_at p i) ≡ true) → (has ws (bit_at x i) ≡ true) ⊎ Onto from code p q x i
      found x i e (inl h) = inl (rw e h)
      found x i e (inr h) = inr (m, e, h)

      only : (x i : ℕ) → i < 128 → has (joined ws (4 * q) from (4 * p) 4) (bit_at x i) ≡ true → Dec (x ≡ q) → (has ws (bit_at x i) ≡ true) ⊎ Onto from code p q x i
      only x i n h (no e) = inl (sym (other x i n e) ∙ h)
      only x i n h (yes e) = found x i e (either (has ws (bit_at q i)) (has from (bit_at p i)) (sym (here i n) ∙ rw e at h))

module _ (from : List ℕ) (code : ℕ) (first succ ws : List ℕ) where
  module _ (p : ℕ) where
    -- what goes to the point that is number n of the list
    pub leaving_more : {u v ss : List ℕ} (n : ℕ) → ss ≡ successors first succ p → n < length ss → Gains (Leaving from code first succ p (row_start first p + n)) ws u
        → Gains (Onto from code p (get_or ss n 0)) u v → Gains (Leaving from code first succ p (row_start first p + (n + 1))) ws v
    leaving_more {u} {v} {ss} n e l a b =
        gains_then a b' (λ x i e. (e.0, e.1, omega (arith, e.2), e.3)) (λ x i e. (k, omega arith, omega arith, e)) (λ x i e. go x i e (ℕ_discrete e.0 k))
      where
        k : ℕ
        k = row_start first p + n

        same : get_or ss n 0 ≡ get_or succ k 0
        same = rw e (successor_at first succ p n (rw e at l))

        b' : Gains (Onto from code p (get_or succ k 0)) u v
        b' = rw same at b

        go : (x i : ℕ) (e : Leaving from code first succ p (row_start first p + (n + 1)) x i) → Dec (e.0 ≡ k) → Leaving from code first succ p k x i ⊎ Onto from code p (get_or succ k 0) x i
        go x i e (yes n) = inr (subst (λ (z : ℕ). Onto from code p (get_or succ z 0) x i) n e.3)
        go x i e (no n) = inl (e.0, e.1, omega (arith, n, e.2), e.3)

    pub leaving_all : {u : List ℕ} (n : ℕ) → n ≡ up_to (row_end first p) - row_start first p → Gains (Leaving from code first succ p (row_start first p + n)) ws u → Gains (Row from code first succ p) ws u
    leaving_all n e a = gains_as a (λ x i k. (k.0, k.1, omega (arith, e, k.1, k.2), k.3)) (λ x i k. (k.0, k.1, omega (arith, e, k.1, k.2), k.3))

  pub rows_more : {u v : List ℕ} (p : ℕ) → Gains (Rows from code first succ p) ws u → Gains (Row from code first succ p) u v → Gains (Rows from code first succ (p + 1)) ws v
  rows_more p a b = gains_then a b (λ x i e. (e.0, omega (arith, e.1), e.2)) (λ x i e. (p, omega arith, e)) (λ x i e. go x i e (ℕ_discrete e.0 p))
    where
      go : (x i : ℕ) (e : Rows from code first succ (p + 1) x i) → Dec (e.0 ≡ p) → Rows from code first succ p x i ⊎ Row from code first succ p x i
      go x i e (yes n) = inr (subst (λ (z : ℕ). Row from code first succ z x i) n e.2)
      go x i e (no n) = inl (e.0, omega (arith, n, e.1), e.2)

-- ---- The words of a set cut down to those of another

module _ (by ws : List ℕ) where
  pub masked_has : {u : List ℕ} {n : ℕ} → Masked by ws n u → (p i : ℕ) → 4 * p + 4 ≤ n → i < 128 → has u (bit_at p i) ≡ (has ws (bit_at p i) && has by (bit_at p i))
  masked_has {u} {n} a p i l m =
      let z : word_bits * (4 * p + i / word_bits) + i % word_bits ≡ bit_at p i = omega arith in
      let b : i % word_bits < word_bits = omega arith in
      let w : ℕ = 4 * p + i / word_bits in
      ap (has u) (sym z) ∙ has_word u w (i % word_bits) b ∙ ap (λ (x : ℕ). eqb (digit x (i % word_bits)) 1) (a.done w (omega arith)) ∙ digit_and (get_or ws w 0) (get_or by w 0) (i % word_bits)
      ∙ sym (ap₂ (λ (x y : Bool). x && y) (has_word ws w (i % word_bits) b) (has_word by w (i % word_bits) b))
      ∙ ap (λ (x : ℕ). has ws x && has by x) z
