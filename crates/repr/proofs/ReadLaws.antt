-- Reading step by step: what a reading that is known says of the reading that goes on from it. Assumes nothing.
use mathlib.Core.Path.{◌≡◌, refl, sym, ap, ◌∙◌}
use mathlib.Core.List.{List, [], ◌∷◌}
use Prim.Native.Nat.{ℕ, zero, suc, ◌+◌, ◌-◌, ◌<◌, ◌≤◌}
use native.Mathlib.Omega.{arith}
use native.Mathlib.Numerals.{add-one}
use lib.ListN.{length, get_or, take, drop, length-drop, drop_of_length-le, get_or-eq_default}
use lib.Seq.{drop-cons, drop-drop}
use borrow.Author.Tests.{le-leb, lt-leb}
use Rattle.std.specs.Prelude.{Result, Ok, Err, IsErr, IsErrAnd, Option, Some, None}
use Rattle.std.specs.Result.{result_ok}
use Rattle.std.proofs.Common.{rules}
use Rattle.repr.specs.declared.refusal.Refusal.{Refusal}
use Rattle.nll_spec.specs.Decode.{Reading, refused, read, Reader, done, refuse, ◌>>=◌, byte, count, pick, one_of, items}

-- The answer r says d, and r is x: so d is what x says.
pub told : {A B : Type 0} (says : B → A) {r x : B} {d : A} → says r ≡ d → r ≡ x → d ≡ says x
told says e k = sym e ∙ ap says k

-- The error that `?` passes on is the one that it got.
pub passed_on : {A : Type 0} {r : Result A Refusal} {k : Refusal} → IsErr r × IsErrAnd r (λ e. e ≡ k) → r ≡ Err k
passed_on {r = Ok a} h = absurd (search rules)
passed_on {r = Err e} h = ap Err h.1

-- `ok` of an answer: what was read, or that it was refused
module _ {A : Type 0} {r : Result A Refusal} {o : Option A} (e : o ≡ result_ok r) where
  pub ok_some : {x : A} → o ≡ Some x → r ≡ Ok x
  ok_some {x} h = go r (sym e ∙ h)
    where
      go : (q : Result A Refusal) → result_ok q ≡ Some x → q ≡ Ok x
      go (Ok y) i = ap Ok (search rules)
      go (Err k) i = absurd (search rules)

  pub ok_none : o ≡ None → (k : Refusal) × (r ≡ Err k)
  ok_none h = go r (sym e ∙ h)
    where
      go : (q : Result A Refusal) → result_ok q ≡ None → (k : Refusal) × (q ≡ Err k)
      go (Ok y) i = absurd (search rules)
      go (Err k) i = (k, refl)

-- ---- A step, and what follows it

module _ {A B : Type 0} (m : Reader A) (f : A → Reader B) (bs : List ℕ) where
  pub step : {a : A} {rest : List ℕ} → m bs ≡ read a rest → ◌>>=◌ m f bs ≡ f a rest
  unfolding ◌>>=◌
  step e = ap (λ (x : Reading A). elim x as (λ y. Reading B) [ refused n ↦ refused n | read b over ↦ f b over ]) e

  pub stop : {k : ℕ} → m bs ≡ refused k → ◌>>=◌ m f bs ≡ refused k
  unfolding ◌>>=◌
  stop e = ap (λ (x : Reading A). elim x as (λ y. Reading B) [ refused n ↦ refused n | read b over ↦ f b over ]) e

-- ---- Bytes and counts

module _ (s : List ℕ) (at : ℕ) where
  pub byte_at : at < length s → byte (drop at s) ≡ read (get_or s at 0) (drop (at + 1) s)
  unfolding byte
  byte_at h = rw (add-one, drop-cons s at 0 h)

  pub byte_past : length s ≤ at → byte (drop at s) ≡ refused 3
  unfolding byte
  byte_past h = rw (drop_of_length-le s h)

module _ (low high : ℕ) {n : ℕ} (bs : List ℕ) {rest : List ℕ} (e : byte bs ≡ read n rest) where
  pub count_low : n < low → count low high bs ≡ refused 4
  unfolding count refuse
  count_low h = step _ _ _ e ∙ rw (lt-leb low n h)

  pub count_high : low ≤ n → high < n → count low high bs ≡ refused 4
  unfolding count refuse
  count_high l h = step _ _ _ e ∙ rw (le-leb low n l, lt-leb n high h)

  pub count_in : low ≤ n → n ≤ high → count low high bs ≡ read n rest
  unfolding count done
  count_in l h = step _ _ _ e ∙ rw (le-leb low n l, le-leb n high h)

-- ---- Choices

module _ {A : Type 0} (alternatives : List (Reader A)) (bs : List ℕ) where
  -- the alternative that the tag k names
  pub picked : {n : ℕ} {rest : List ℕ} (k : ℕ) → read n rest ≡ byte bs → n ≡ k → get_or alternatives k (refuse 3) rest ≡ one_of alternatives bs
  unfolding one_of pick
  picked k e i = sym (step _ _ _ (sym e) ∙ rw i)

  -- a tag that names no alternative
  pub unknown : {n : ℕ} {rest : List ℕ} → read n rest ≡ byte bs → length alternatives ≤ n → refused 3 ≡ one_of alternatives bs
  unfolding one_of pick refuse
  unknown {n} e h = sym (step _ _ _ (sym e) ∙ rw (get_or-eq_default alternatives (refuse 3) h))

  -- no tag
  pub untagged : {k : ℕ} → refused k ≡ byte bs → refused k ≡ one_of alternatives bs
  unfolding one_of
  untagged e = sym (stop _ _ _ (sym e))

module _ {A : Type 0} (bs : List ℕ) where
  -- the first three alternatives, where each reads nothing
  pub picked_0 : {n : ℕ} {rest : List ℕ} {a : A} (more : List (Reader A)) → read n rest ≡ byte bs → n ≡ 0 → read a rest ≡ one_of (done a ∷ more) bs
  unfolding done
  picked_0 more e i = picked _ bs 0 e i

  pub picked_1 : {n : ℕ} {rest : List ℕ} {a : A} (x : Reader A) (more : List (Reader A)) → read n rest ≡ byte bs → n ≡ 1 → read a rest ≡ one_of (x ∷ done a ∷ more) bs
  unfolding done
  picked_1 x more e i = picked _ bs 1 e i

  pub picked_2 : {n : ℕ} {rest : List ℕ} {a : A} (x y : Reader A) (more : List (Reader A)) → read n rest ≡ byte bs → n ≡ 2 → read a rest ≡ one_of (x ∷ y ∷ done a ∷ more) bs
  unfolding done
  picked_2 x y more e i = picked _ bs 2 e i

pub clash : {A : Type 0} {a : A} {k : ℕ} {bs : List ℕ} → refused k ≡ read a bs → ⊥
clash e = search rules

-- ---- Bytes in a row

pub bytes-at : (n : ℕ) (bs : List ℕ) → n ≤ length bs → items n byte bs ≡ read (take n bs) (drop n bs)
unfolding items byte done
bytes-at zero bs h = refl
bytes-at (suc n) [] h = absurd (omega arith)
bytes-at (suc n) (b ∷ bs) h = step _ _ _ refl ∙ step _ _ _ (bytes-at n bs (omega arith))

pub bytes-short : (n : ℕ) (bs : List ℕ) → length bs < n → items n byte bs ≡ refused 3
unfolding items byte
bytes-short zero bs h = absurd (omega arith)
bytes-short (suc n) [] h = stop _ _ _ refl
bytes-short (suc n) (b ∷ bs) h = step _ _ _ refl ∙ stop _ _ _ (bytes-short n bs (omega arith))

-- n bytes from a place on, with so many left there
module _ (s : List ℕ) (from : ℕ) {w n left : ℕ} (i : w ≡ n) (e : left ≡ length s - from) where
  pub row_at : w ≤ left → items n byte (drop from s) ≡ read (take n (drop from s)) (drop (from + w) s)
  row_at h = rw (i, ← drop-drop) (bytes-at n (drop from s) (simp length-drop (omega arith)))

  pub row_short : left < w → items n byte (drop from s) ≡ refused 3
  row_short h = bytes-short n (drop from s) (simp length-drop (omega arith))
