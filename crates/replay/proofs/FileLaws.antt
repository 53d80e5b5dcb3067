-- Entries of a file, and how many agree. Assumes nothing.
use mathlib.Core.Path.{◌≡◌, refl, sym, ap, ap₂, subst, ◌∙◌}
use Prim.Native.Nat.{ℕ, zero, suc, ◌+◌, ◌-◌, ◌*◌, ◌≤◌, ◌<◌}
use mathlib.Core.Bool.{Bool, true, false}
use mathlib.Core.List.{List}
use native.Mathlib.Omega.{arith}
use native.Mathlib.Numerals.{add-one}
use native.Mathlib.Nat.{zero-add, suc-add}
use lib.ListN.{length}
use Rattle.nll_spec.specs.Output.{bit}
use Rattle.std.specs.Prelude.{Some, None}
use Rattle.replay.specs.declared.file.Entry.{Entry}
use Rattle.replay.specs.File.{two, entry_at, EntryIn, agrees, start_of, agreeing, Replayed}

-- the entry at a position whose record has n bytes, with k words and m bytes after the number
abbrev entry_with : ℕ → ℕ → ℕ → ℕ → Entry
entry_with at n k m =
    record { input = at + 2; number = at + 2 + n; words = at + 2 + n + 3; count = k; bytes = at + 2 + n + 3 + 4 * k + 2; end = at + 2 + n + 3 + 4 * k + 2 + m }

pub entry-is : (s : List ℕ) (at : ℕ) {n k m : ℕ} → n ≡ two s at → k ≡ two s (at + 2 + n + 1) → m ≡ two s (at + 2 + n + 3 + 4 * k) → entry_with at n k m ≡ entry_at s at
unfolding entry_at
entry-is s at {n} {k} {m} e f g =
    let f' = f ∙ ap (λ (x : ℕ). two s (at + 2 + x + 1)) e in
    let g' = g ∙ ap₂ (λ (x y : ℕ). two s (at + 2 + x + 3 + 4 * y)) e f' in
    ap₂ (λ (x y : ℕ). entry_with at x y m) e f' ∙ ap (λ (z : ℕ). entry_with at (two s at) (two s (at + 2 + two s at + 1)) z) g'

-- an entry that ends within the bytes has its parts there
pub entry_in_lem : (s : List ℕ) (at : ℕ) → length s ≤ 1048576 → (entry_at s at).end ≤ length s → EntryIn s (entry_at s at)
unfolding entry_at
entry_in_lem s at n h = record { input = omega arith; number = omega arith; words = omega arith; bytes = omega arith; end = h }

entry-grows : (s : List ℕ) (at : ℕ) → at ≤ (entry_at s at).end
unfolding entry_at
entry-grows s at = omega arith

module _ (s : List ℕ) where
  pub start_first : 2 ≡ start_of s 0
  unfolding start_of
  start_first = refl

  pub start-next : (n : ℕ) → start_of s (n + 1) ≡ (entry_at s (start_of s n)).end
  unfolding start_of
  start-next n = ap (start_of s) (add-one n)

  pub agreeing-first : 0 ≡ agreeing s 0
  unfolding agreeing
  agreeing-first = refl

  pub agreeing-next : (n : ℕ) → agreeing s (n + 1) ≡ agreeing s n + bit (agrees s (entry_at s (start_of s n)))
  unfolding agreeing
  agreeing-next n = ap (agreeing s) (add-one n)

  -- later entries stand further on
  pub start-grows : (n k : ℕ) → start_of s n ≤ start_of s (k + n)
  unfolding start_of
  start-grows n zero = omega (arith, ap (start_of s) (zero-add n))
  start-grows n (suc k) = omega (arith, start-grows n k, entry-grows s (start_of s (k + n)), ap (start_of s) (suc-add k n))

-- ---- The count

at_most_one : (b : Bool) → bit b ≤ 1
at_most_one true = omega arith
at_most_one false = omega arith

-- Of n entries the first i are counted: so many agree, and entry i stands at a position.
pub record Counting (s : List ℕ) (n good at i : ℕ) : Type 0 where
  pub all : n ≡ two s 0
  pub most : n ≤ 65535
  pub low : i ≤ n
  pub few : good ≤ i
  pub near : at ≤ 1048576
  pub start : at ≡ start_of s i
  pub agree : good ≡ agreeing s i

pub count-start : (s : List ℕ) {n : ℕ} → n ≡ two s 0 → n ≤ 65535 → Counting s n 0 2 0
count-start s e h = record { all = e; most = h; low = omega arith; few = omega arith; near = omega arith; start = start_first s; agree = agreeing-first s }

module _ {s : List ℕ} {n good at i : ℕ} (w : Counting s n good at i) where
  module _ {e : Entry} (is : e ≡ entry_at s at) (h : i < n) where
    end_is : e.end ≡ start_of s (i + 1)
    end_is = ap (λ (x : Entry). x.end) is ∙ ap (λ (p : ℕ). (entry_at s p).end) w.start ∙ sym (start-next s i)

    pub count_in_lem : length s ≤ 1048576 → e.end ≤ length s → EntryIn s e
    count_in_lem l k = subst (EntryIn s) (sym is) (entry_in_lem s at l (omega (arith, ap (λ (x : Entry). x.end) is)))

    pub count-more : {b : Bool} {x : ℕ} → length s ≤ 1048576 → e.end ≤ length s → b ≡ agrees s e → x ≡ bit b → Counting s n (good + x) e.end (i + 1)
    count-more {b} {x} l k f g =
        let one : x ≡ bit (agrees s (entry_at s (start_of s i))) = g ∙ ap bit f ∙ ap (λ (y : Entry). bit (agrees s y)) is ∙ ap (λ (p : ℕ). bit (agrees s (entry_at s p))) w.start in
        record {
          all = w.all;
          most = w.most;
          low = omega arith;
          few = omega (arith, w.few, at_most_one b, g);
          near = omega arith;
          start = end_is;
          agree = ap₂ ◌+◌ w.agree one ∙ sym (agreeing-next s i);
        }

    -- an entry that does not end within the bytes
    pub count_cut : length s < e.end → Replayed s (record { entries = n; agree = None })
    count_cut k =
        let later : start_of s (i + 1) ≤ start_of s n = le_of_eq_right (start-grows s (i + 1) (n - (i + 1))) (omega arith) in
        record { entries = w.all; agree = λ q. omega (arith, later, end_is, ap (start_of s) w.all) }
      where
        le_of_eq_right : {m : ℕ} → start_of s (i + 1) ≤ start_of s m → m ≡ n → start_of s (i + 1) ≤ start_of s n
        le_of_eq_right q z = subst (λ (x : ℕ). start_of s (i + 1) ≤ start_of s x) z q

  module _ (h : n ≤ i) where
    last : at ≡ start_of s (two s 0)
    last = let e : i ≡ two s 0 = omega (arith, w.low, w.all) in w.start ∙ ap (start_of s) e

    pub count_over : (at ≡ length s → ⊥) → Replayed s (record { entries = n; agree = None })
    count_over other = record { entries = w.all; agree = λ q. other (last ∙ q) }

    pub count_all : at ≡ length s → Replayed s (record { entries = n; agree = Some good })
    count_all is = let e : i ≡ two s 0 = omega (arith, w.low, w.all) in record { entries = w.all; agree = (sym last ∙ is, w.agree ∙ ap (agreeing s) e) }
