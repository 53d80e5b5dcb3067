-- Items in a row, tested one by one: a row that a cursor goes along, and a row of the table. Assumes nothing.
use mathlib.Core.Path.{◌≡◌, refl, sym, ap, ◌∙◌}
use mathlib.Core.Bool.{Bool, true, false, ◌&&◌, and-false}
use mathlib.Core.List.{List, [], ◌∷◌}
use Prim.Native.Nat.{ℕ, zero, suc, ◌-◌, ◌<◌}
use native.Mathlib.Omega.{arith}
use lib.ListN.{length, get_or, drop}
use Rattle.nll_spec.specs.Lists.{every}
use Rattle.nll_spec.specs.Syntax.{UnitTy, Field, StructDecl, Job}
use Rattle.nll_spec.specs.Decode.{read, Reader, done, byte, items, counted, max_outlived, field, type, block}
use Rattle.repr.specs.declared.Cursor.{Cursor}
use Rattle.repr.specs.declared.StructDecl as declared
use Rattle.repr.specs.declared.refusal.Refusal.{Refusal}
use Rattle.std.proofs.Common.{rules}
use Rattle.std.specs.Prelude.{Result, Ok, Err, is_ok}
use Rattle.repr.specs.Stands.{Stands}
use Rattle.record.specs.Layout.{Layout}
use Rattle.record.specs.Access.{Declared}
use Rattle.record.specs.declared.Head.{Head}
use Rattle.record.specs.declared.Offsets.{Offsets}
use Rattle.record.proofs.AccessLaws.{outlives-at, variable_at, block-at}
use Rattle.repr.proofs.ItemLaws.{first_of, none_of}
use Rattle.refusals.specs.Tests.{Sized, over, fails, pass, pass_says, Passes, Tested, ItemTested, no_block}
use Rattle.repr.specs.Rows.{Along, none, more, stop}
use Rattle.repr.specs.Reading.{rest}
use native.Mathlib.Numerals.{sub-one}
use native.Mathlib.Nat.{zero-add}
use denote.Param.Members.{Mut}
use Rattle.std.specs.Prelude.{Option}
use Rattle.std.specs.List.{list_all, range_with_len, FoldsTo, AllWithin, HoldsAt}
use Rattle.std.specs.Fn.{Called}
use Rattle.std.specs.Option.{MatchOption}
use Rattle.std.specs.Bool.{MatchBool}
use Rattle.std.specs.Iterator.{YieldsThen}
use Rattle.std.proofs.lemmas.Iterator.{YieldsList, cases_from_all}
use Rattle.std.proofs.lemmas.List.FromFn.{get_or-range_with_len, length-range_with_len}

-- ---- What the answer tells of the test

pub told_fails : (z : Bool) (p : List ℕ) → fails ≡ pass z p → z ≡ false
told_fails true p e = absurd (search rules)
told_fails false p e = refl

pub record Over (z : Bool) (p q : List ℕ) : Type 0 where
  pub passes : z ≡ true
  pub ends : p ≡ q

pub told_over : (z : Bool) {p : List ℕ} (q : List ℕ) → over p ≡ pass z q → Over z p q
told_over true q e = record { passes = refl; ends = cc }
told_over false q e = absurd (search rules)

-- whether it passed, and no more
pub only_test : {A : Type 0} {m : Reader A} {f : A → Bool} {s : List ℕ} {at : ℕ} {d : Result Cursor Refusal} {r : Bool} → Passes m f s at d → r ≡ is_ok d → Tested m f s at r
only_test {f = f} {s = s} {d = d} {r = r} v i = record { says = λ x bs e. i ∙ go d (f x) bs (v.says x bs e) }
  where
    go : (d : Result Cursor Refusal) (z : Bool) (bs : List ℕ) → pass_says s d ≡ pass z bs → is_ok d ≡ z
    go (Ok c) z bs e = sym (told_over z bs e).passes
    go (Err k) z bs e = sym (told_fails z bs e)

-- ---- A row that a cursor goes along

-- the test of each item is that of all
pub along_passes : {A : Type 0} (m : Reader A) (f : A → Bool) (s : List ℕ) {Test : Cursor → Result Cursor Refusal → Type 0} → ((c : Cursor) (r : Result Cursor Refusal) → Test c r → Passes m f s c.at r) → {n : ℕ} {c : Cursor} {r : Result Cursor Refusal} → Along Test n c r → Passes (items n m) (every f) s c.at r
unfolding items done
along_passes m f s h (none {c = c}) = record { says = λ xs end e. let v = none_of m 0 (rest s c) refl e in rw (v.0, ← v.1) }
along_passes m f s h (more {n = n} {c = c} {next = next} {r = r} p q) = record {
  says = λ xs end e.
      let u = first_of m (suc n) (rest s c) (λ z. omega arith) e in
      let t = told_over (f u.item) u.mid ((h c (Ok next) p).says u.item u.mid u.first) in
      let a : items n m (rest s next) ≡ read u.others end = ap (λ (k : ℕ). items k m (rest s next)) (sym (sub-one (suc n))) ∙ ap (λ (o : List ℕ). items (suc n - 1) m o) t.ends ∙ u.reads in
      (along_passes m f s h q).says u.others end a ∙ ap (λ (z : Bool). pass z end) (sym (ap (every f) u.same ∙ ap (λ (z : Bool). z && every f u.others) t.passes));
}
along_passes m f s h (stop {n = n} {c = c} {k = k} p) = record {
  says = λ xs end e.
      let u = first_of m (suc n) (rest s c) (λ z. omega arith) e in
      let t = told_fails (f u.item) u.mid ((h c (Err k) p).says u.item u.mid u.first) in
      ap (λ (z : Bool). pass z end) (sym (ap (every f) u.same ∙ ap (λ (z : Bool). z && every f u.others) t));
}

-- ---- A row of the table

-- `every` is what `all` of a chain answers
pub list_every : {A : Type 0} (f : A → Bool) (xs : List A) → list_all f xs ≡ every f xs
list_every f [] = refl
list_every f (x ∷ xs) = ap (λ (z : Bool). f x && z) (list_every f xs)

-- every item passes, by number
every_passes : {A : Type 0} (f : A → Bool) (xs : List A) (x : A) → ((k : ℕ) → k < length xs → true ≡ f (get_or xs k x)) → true ≡ every f xs
every_passes f [] x h = refl
every_passes f (y ∷ ys) x h = rw (← h 0 (omega arith), ← every_passes f ys x (λ k l. h (suc k) (omega arith)))

one_fails : {A : Type 0} (f : A → Bool) (xs : List A) (x : A) (k : ℕ) → k < length xs → false ≡ f (get_or xs k x) → false ≡ every f xs
one_fails f [] x k l e = absurd (omega arith)
one_fails f (y ∷ ys) x zero l e = rw (← e)
one_fails f (y ∷ ys) x (suc k) l e = rw (← one_fails f ys x k (omega arith) e) (sym (and-false (f y)))

-- `all` over the numbers below n answers what `every` does, where the call at each of them answers the test of that item
module _ {S F : Type 0} {steps : S → Option ℕ → S → Type 0} {g : Mut F (ℕ × Unit {0}) Bool} {s : S} {A : Type 0} {f : A → Bool} {xs : List A} (x : A) {n : ℕ} (count : length xs ≡ n) where
  pub every_all : (u : S) (p : F) (b : Bool)
      → (ks : List ℕ) × (o : Option ℕ) × (q : F) × YieldsThen steps s ks o u × FoldsTo (λ p k q. Called g p (k, tt) true q) p ks q × MatchOption o (b ≡ true) (λ k. (b ≡ false) × ((h : F) × Called g q (k, tt) false h))
      → YieldsList steps (λ k. k) s (range_with_len 0 n)
      → ((k : ℕ) (b : Bool) (q : F) → Called g p (k, tt) b q → (q ≡ p) × (k < n → ItemTested f xs x k b)) → b ≡ every f xs
  every_all u p b ran yields calls = go b (cases_from_all u p b (λ k. k < n → true ≡ f (get_or xs k x)) (λ k. k < n → false ≡ f (get_or xs k x)) ran yields (λ k q h. let w = calls k true q h in (w.0, λ l. (w.1 l).says)) (λ k q h. let w = calls k false q h in λ l. (w.1 l).says))
    where
      ns : List ℕ
      ns = range_with_len 0 n

      at : (k : ℕ) → k < n → get_or ns k 0 ≡ k
      at k l = get_or-range_with_len 0 n k 0 l ∙ zero-add k

      go : (b : Bool) → MatchBool b (AllWithin (λ k. k < n → true ≡ f (get_or xs k x)) ns 0 (length ns)) ((k : ℕ) × (k < length ns) × HoldsAt (λ k. k < n → false ≡ f (get_or xs k x)) ns k) → b ≡ every f xs
      go true h = every_passes f xs x (λ k l. let m : k < n = omega arith in let i : k < length ns = rw (length-range_with_len 0 n) m in rw (at k m) at (h k 0 (omega arith) i) m)
      go false h = let m : h.0 < n = rw (length-range_with_len 0 n) at h.1 in one_fails f xs x h.0 (omega arith) (rw (at h.0 m) at (h.2 0) m)

-- Items, each standing where its entry says.
pub record PartsAt {A : Type 0} (m : Reader A) (s entries : List ℕ) (n : ℕ) (xs : List A) (x : A) : Type 0 where
  pub stands : (i : ℕ) → i < length xs → Stands m (get_or xs i x) (drop (get_or entries i 0) s)
  pub count : length xs ≡ n

pub row-item : {A : Type 0} {m : Reader A} {f : A → Bool} {s entries : List ℕ} {n : ℕ} {xs : List A} {x : A} {i at : ℕ} {r : Bool} → PartsAt m s entries n xs x → i < n → at ≡ get_or entries i 0 → Tested m f s at r → ItemTested f xs x i r
row-item {xs = xs} {x = x} {i = i} w h e v = let c = w.count in let k = w.stands i (omega arith) in record { says = v.says (get_or xs i x) k.over (rw e k.reads) }

-- the fields of a struct
pub fields_tested : (f : Field → Bool) {s : List ℕ} {x : StructDecl} {d : declared.StructDecl} {r : Bool} → Declared s x d → Tested (items d.fields.count field) (every f) s d.fields.from.at r → r ≡ every f x.fields
fields_tested f {x = x} w v = let k = w.fields in v.says x.fields k.over k.reads

-- ---- The rows of a job

module _ {s : List ℕ} {t : Offsets} {h : Head} {j : Job} (w : Layout s t h j) where
  pub outlives-row : PartsAt (counted max_outlived byte) s t.outlives h.declared j.outlives []
  outlives-row = record { stands = λ i l. outlives-at w i _ l; count = w.declared_count }

  pub variables-row : PartsAt type s t.variables h.variables j.variables UnitTy
  variables-row = record { stands = λ i l. variable_at w i _ l; count = w.variable_count }

  pub blocks-row : PartsAt block s t.blocks h.blocks j.blocks no_block
  blocks-row = record { stands = λ i l. block-at w i _ l; count = w.block_count }

  pub sized : Sized h j
  sized = record { regions = sym w.regions; structs = w.struct_count; declared = w.declared_count; variables = w.variable_count; blocks = w.block_count }
