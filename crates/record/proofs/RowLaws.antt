-- Reading a row item by item, with an entry for each. Assumes nothing.
use mathlib.Core.Path.{◌≡◌, refl, sym, ap, ◌∙◌}
use mathlib.Core.List.{List, [], ◌∷◌, ◌++◌, append_assoc, append-nil}
use Prim.Native.Nat.{ℕ, zero, suc, ◌+◌, ◌-◌, ◌≤◌, ◌<◌, min}
use native.Mathlib.Omega.{arith}
use native.Mathlib.Nat.{sub-zero}
use native.Mathlib.Numerals.{sub-one}
use native.Mathlib.Decide.{dec_lt}
use lib.ListN.{length, take, drop, set, length-set, drop_of_length-le}
use Rattle.std.proofs.lemmas.List.{take_more_set, take_at, length-take-le}
use Rattle.std.proofs.Math.Seq.{take-length, length_front}
use Rattle.nll_spec.specs.Decode.{Reading, refused, read, Reader, done, ◌>>=◌, items}
use Rattle.repr.specs.Reading.{ended, end_says, bytes_say}
use Rattle.repr.proofs.ReadLaws.{step, stop}
use Rattle.repr.proofs.PartLaws.{end_readable, end_refused, end-over}
use Rattle.repr.specs.Stands.{Stands}
use Rattle.record.specs.Rows.{Standing, none, more, Part, Held, reader, RowSays}
use Rattle.repr.specs.Refusals.{number_of}
use Rattle.repr.specs.declared.Cursor.{Cursor}
use Rattle.repr.specs.declared.refusal.Refusal.{Refusal}
use Rattle.std.specs.Prelude.{Result, Ok, Err}

-- ---- Items that were read, before a reading of more

abbrev pub before : {A : Type 0} → List A → Reading (List A) → Reading (List A)
before xs (refused k) = refused k
before xs (read ys over) = read (xs ++ ys) over

before_nil : {A : Type 0} (x : Reading (List A)) → x ≡ before [] x
before_nil (refused k) = refl
before_nil (read ys over) = refl

module _ {A : Type 0} (m : Reader A) where
  before-step : (xs : List A) (n : ℕ) (mid over : List ℕ) (x : A) → (n ≡ 0 → ⊥) → m mid ≡ read x over → before xs (items n m mid) ≡ before (xs ++ x ∷ []) (items (n - 1) m over)
  unfolding items done
  before-step xs zero mid over x z e = absurd (z refl)
  before-step xs (suc n) mid over x z e = ap (before xs) (step _ _ _ e) ∙ go (items n m over) refl ∙ rw (sub-one (suc n))
    where
      go : (r : Reading (List A)) → items n m over ≡ r → before xs (◌>>=◌ (items n m) (λ ys. done (x ∷ ys)) over) ≡ before (xs ++ x ∷ []) (items n m over)
      go (refused k) i = rw i (ap (before xs) (stop _ _ _ i))
      go (read ys o) i = rw i (ap (before xs) (step _ _ _ i) ∙ rw append_assoc)

  before_stop : (xs : List A) (n k : ℕ) (mid : List ℕ) → (n ≡ 0 → ⊥) → m mid ≡ refused k → before xs (items n m mid) ≡ refused k
  unfolding items
  before_stop xs zero k mid z e = absurd (z refl)
  before_stop xs (suc n) k mid z e = ap (before xs) (stop _ _ _ e)

  before-end : (xs : List A) (n : ℕ) (mid : List ℕ) → n ≡ 0 → before xs (items n m mid) ≡ read xs mid
  unfolding items done
  before-end xs n mid z = rw (z, append-nil)

-- i of n items were read, up to c: they are xs.
pub record Going {A : Type 0} (m : Reader A) (s : List ℕ) (from c : Cursor) (n i : ℕ) (xs : List A) : Type 0 where
  pub within : i ≤ n
  pub goes : items n m (drop from.at s) ≡ before xs (items (n - i) m (drop c.at s))

module _ {A : Type 0} {m : Reader A} {s : List ℕ} {from c : Cursor} {n i : ℕ} {xs : List A} (g : Going m s from c n i xs) where
  pub going_more : {x : A} {next : Cursor} → i < n → m (drop c.at s) ≡ read x (drop next.at s) → Going m s from next n (i + 1) (xs ++ x ∷ [])
  going_more {x} {next} h e =
      let j : n - i - 1 ≡ n - (i + 1) = omega arith in
      record { within = omega arith; goes = g.goes ∙ before-step m xs (n - i) (drop c.at s) (drop next.at s) x (omega arith) e ∙ rw j }

  pub going_stop : {k : ℕ} → i < n → m (drop c.at s) ≡ refused k → items n m (drop from.at s) ≡ refused k
  going_stop {k} h e = g.goes ∙ before_stop m xs (n - i) k (drop c.at s) (omega arith) e

  pub going_end : n ≤ i → items n m (drop from.at s) ≡ read xs (drop c.at s)
  going_end h = g.goes ∙ before-end m xs (n - i) (drop c.at s) (let w = g.within in omega arith)

pub going_start : {A : Type 0} (m : Reader A) (s : List ℕ) (c : Cursor) (n : ℕ) → Going m s c c n 0 []
going_start m s c n = record { within = omega arith; goes = rw sub-zero (before_nil (items n m (drop c.at s))) }

-- ---- Entries

-- a place as an entry stands for the same bytes
pub offset_drop : (s : List ℕ) (at : ℕ) → length s ≤ 65535 → drop (min at 65535) s ≡ drop at s
offset_drop s at h = go (dec_lt at 65535)
  where
    go : Dec (at < 65535) → drop (min at 65535) s ≡ drop at s
    go (yes l) = let e : min at 65535 ≡ at = omega arith in rw e
    go (no l) = let e : min at 65535 ≡ 65535 = omega arith in rw (e, drop_of_length-le s h, drop_of_length-le s (let j : length s ≤ at = omega arith in j))

pub standing_more : {A : Type 0} {m : Reader A} {s os : List ℕ} {xs : List A} (o : ℕ) {x : A} → Standing m s os xs → Stands m x (drop o s) → Standing m s (os ++ o ∷ []) (xs ++ x ∷ [])
standing_more o none h = more h none
standing_more o (more k r) h = more k (standing_more o r h)

pub standing_length : {A : Type 0} {m : Reader A} {s os : List ℕ} {xs : List A} → Standing m s os xs → length xs ≡ length os
standing_length none = refl
standing_length (more k r) = ap suc (standing_length r)

-- where some bytes end
pub bytes-end : (s : List ℕ) (c : Cursor) (n : ℕ) (r : Result Cursor Refusal) → end_says s r ≡ ended (bytes_say s c n r)
bytes-end s c n (Ok next) = refl
bytes-end s c n (Err k) = refl

-- ---- A row

-- i of n parts were read up to c, with their entries in t, which is as long as all of them.
pub record Rowing (part : Part) (s : List ℕ) (from c : Cursor) (n i : ℕ) (t : List ℕ) : Type 0 where
  pub found : List (Held part)
  pub going : Going (reader part) s from c n i found
  pub stands : Standing (reader part) s (take i t) found
  pub size : length t ≡ n

module _ {part : Part} {s : List ℕ} {n : ℕ} (old : List ℕ) (fits : n ≤ length old) where
  pub rowing_start : {c : Cursor} → Rowing part s c c n 0 (take n old)
  rowing_start {c} = record { found = []; going = going_start (reader part) s c n; stands = none; size = length-take-le n old fits }

  module _ {from c : Cursor} {i : ℕ} {t : List ℕ} (w : Rowing part s from c n i t) where
    as-long : (u : List ℕ) → length u ≡ length t → length (u ++ drop n old) ≡ length old
    as-long u e = length_front old u n (e ∙ w.size ∙ sym (length-take-le n old fits))

    pub rowing_stop : (o : ℕ) {k : Refusal} → i < length t → refused (number_of k) ≡ ended (reader part (drop c.at s)) → RowSays part s from n old (set t i o ++ drop n old) (Err k)
    rowing_stop o h f = record { size = as-long (set t i o) (length-set t i o); result = going_stop w.going (omega (arith, w.size)) (end_refused (reader part) (drop c.at s) (sym f)) }

    pub rowing_end : length t ≤ i → RowSays part s from n old (t ++ drop n old) (Ok c)
    rowing_end h =
        let e : n ≡ i = (let l = w.going.within in let j = w.size in omega arith) in
        let k : take n (t ++ drop n old) ≡ take i t = take_at t (drop n old) n w.size ∙ sym (take-length t) ∙ ap (λ (j : ℕ). take j t) (w.size ∙ e) in
        record { size = as-long t refl; result = record { found = w.found; reads = going_end w.going (omega (arith, e)); stands = rw k w.stands } }

pub rowing_more : {part : Part} {s : List ℕ} {from c next : Cursor} {n i o : ℕ} {t : List ℕ} → Rowing part s from c n i t → i < length t → length s ≤ 65535 → o ≡ min c.at 65535 → read tt (drop next.at s) ≡ ended (reader part (drop c.at s)) → Rowing part s from next n (i + 1) (set t i o)
rowing_more {part} {s} {from} {c} {next} {n} {i} {o} {t} w h l e f =
    let m = reader part in
    let r = end_readable m (drop c.at s) (sym f) in
    let k : m (drop c.at s) ≡ read r.item (drop next.at s) = r.reads ∙ rw (end-over m (drop c.at s) r.reads (sym f)) in
    record {
      found = w.found ++ r.item ∷ [];
      going = going_more w.going (omega (arith, w.size)) k;
      stands = rw (take_more_set t i o h) (standing_more o w.stands (record { over = drop next.at s; reads = rw (e, offset_drop s c.at l) k }));
      size = length-set t i o ∙ w.size;
    }
