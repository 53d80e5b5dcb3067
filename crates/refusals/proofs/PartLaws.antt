-- What is read of a part, tested. Assumes nothing.
use mathlib.Core.Path.{◌≡◌, refl, sym, ap, ◌∙◌}
use mathlib.Core.Bool.{Bool, true, false, ◌&&◌, and-true, not}
use mathlib.Core.List.{List, [], ◌∷◌, ◌++◌}
use Prim.Native.Nat.{ℕ, zero, suc, ◌<◌}
use native.Mathlib.Omega.{arith}
use native.Mathlib.Decide.{dec_lt}
use lib.ListN.{length, take, drop}
use lib.Dec.{eqb, ltb, leb}
use borrow.Author.Tests.{lt-ltb, ne_eqb}
use Rattle.nll_spec.specs.Lists.{every, gather}
use Rattle.nll_spec.specs.Syntax as syntax
use Rattle.nll_spec.specs.Syntax.{Ty, Job}
use Rattle.nll_spec.specs.Decode.{refused, read, Reader, done, byte, count, items, counted, max_outlived, field, type, path, action, block}
use Rattle.nll_spec.specs.WellFormed.{type_named, field_named, path_named, action_named, structs_named, outlived_named, variables_named, successors_named, actions_named, named}
use Rattle.repr.specs.Reading.{rest, says, itself}
use Rattle.repr.specs.declared.refusal.Refusal.{Refusal}
use Rattle.std.specs.Prelude.{Result, Ok, Err}
use Rattle.repr.specs.Parts.{field_says, action_read, sources_of, block_of, block_says}
use Rattle.repr.specs.declared.Cursor.{Cursor}
use Rattle.repr.specs.declared.FieldName.{FieldName}
use Rattle.repr.specs.declared.Action.{Action}
use Rattle.repr.specs.declared.Action.TheVariants.{Noop, Init, Borrow, Assign, Constraint, Use, Drop, StorageDead}
use Rattle.repr.specs.declared.BasicBlockData.{BasicBlockData}
use Rattle.repr.proofs.ReadLaws.{told, step, bytes-at, bytes-short}
use Rattle.record.specs.Layout.{Layout}
use Rattle.record.specs.declared.Head.{Head}
use Rattle.record.specs.declared.Offsets.{Offsets}
use Rattle.repr.proofs.SpellLaws.{clash, carry, then}
use Rattle.refusals.specs.Tests.{Sized, pass, pass_says, Passes, Tested, all_below, own_named, block_named, blocks_named}

-- ---- What was read

module _ {A : Type 0} {m : Reader A} {f : A → Bool} {s : List ℕ} {at : ℕ} where
  pub none_tested : {k : ℕ} {r : Bool} → m (drop at s) ≡ refused k → Tested m f s at r
  none_tested e = record { says = λ x bs i. absurd (clash (sym e ∙ i)) }

-- ---- A field

module _ {f : syntax.Field → Bool} {s : List ℕ} {at : ℕ} (n : FieldName) (c : Cursor) (m : field_says s (Ok (n, c)) ≡ field (drop at s)) where
  -- whatever its type is
  pub field-fails : {l : Refusal} → ((t : Ty) → f (record { number = n.0; type = t }) ≡ false) → Passes field f s at (Err l)
  unfolding done
  field-fails {l} g = record {
    says = λ x bs i.
        let w = then type _ (rest s c) (m ∙ i) in
        carry (λ y o. pass_says s (Err l) ≡ pass (f y) o) w.last (rw (g w.got));
  }

  pub field-type : {tests : Ty → Bool} {r : Result Cursor Refusal} → ((t : Ty) → f (record { number = n.0; type = t }) ≡ tests t) → Passes type tests s c.at r → Passes field f s at r
  unfolding done
  field-type {tests} {r} g v = record {
    says = λ x bs i.
        let w = then type _ (rest s c) (m ∙ i) in
        carry (λ y o. pass_says s r ≡ pass (f y) o) w.last (rw (g w.got) (v.says w.got w.mid w.first));
  }

module _ (j : Job) (n : ℕ) (t : Ty) where
  pub field_zero : n ≡ 0 → field_named j (record { number = n; type = t }) ≡ false
  field_zero z = rw z

  pub field_numbered : (n ≡ 0 → ⊥) → field_named j (record { number = n; type = t }) ≡ type_named j t
  field_numbered z = let h : ltb 0 n ≡ true = lt-ltb 0 n (omega arith) in rw h

-- ---- Bytes below a limit

bytes-are : (n : ℕ) (bs : List ℕ) {xs end : List ℕ} → items n byte bs ≡ read xs end → xs ≡ take n bs
bytes-are n bs {xs} {end} e = go (dec_lt (length bs) n)
  where
    go : Dec (length bs < n) → xs ≡ take n bs
    go (yes h) = absurd (clash (sym (bytes-short n bs h) ∙ e))
    go (no h) = let i = sym e ∙ bytes-at n bs (omega arith) in cc

module _ (limit : ℕ) {s : List ℕ} {at : ℕ} {d : Result (ℕ × Cursor) Refusal} (m : says itself s d ≡ count 0 max_outlived (drop at s)) where
  pub outlived_refused : {k : Refusal} {r : Bool} → d ≡ Err k → Tested (counted max_outlived byte) (all_below limit) s at r
  unfolding counted
  outlived_refused e = record { says = λ xs bs i. absurd (let w = then (count 0 max_outlived) _ (drop at s) i in clash (sym (told (says itself s) m e) ∙ w.first)) }

  pub outlived_row : {n : ℕ} {c : Cursor} {r : Bool} → d ≡ Ok (n, c) → r ≡ all_below limit (take n (rest s c)) → Tested (counted max_outlived byte) (all_below limit) s at r
  unfolding counted
  outlived_row {n} {c} e f = record {
    says = λ xs bs i.
        let w = sym (step (count 0 max_outlived) _ (drop at s) (told (says itself s) m e)) ∙ i in
        f ∙ ap (all_below limit) (sym (bytes-are n (rest s c) w));
  }

pub outlived_declared : {h : Head} {j : Job} {s : List ℕ} {at : ℕ} {r : Bool} → Sized h j → Tested (counted max_outlived byte) (all_below h.declared) s at r → Tested (counted max_outlived byte) (all_below (length j.outlives)) s at r
outlived_declared z v = rw z.declared v

-- ---- An action

-- The action that stands there: its sources, and what names it has.
pub record ActionIs (h : Head) (j : Job) (s : List ℕ) (a : Action) (c : Cursor) (x : syntax.Action) (bs : List ℕ) : Type 0 where
  pub sources : List syntax.Path
  pub reads : items (sources_of a) path (rest s c) ≡ read sources bs
  pub same : action_named j x ≡ own_named h a && every (path_named j) sources

module _ {h : Head} {j : Job} (z : Sized h j) (s : List ℕ) where
  -- one that has no sources
  alone : {a : Action} {c : Cursor} {y x : syntax.Action} {bs : List ℕ} → sources_of a ≡ 0 → action_named j y ≡ own_named h a → read y (rest s c) ≡ read x bs → ActionIs h j s a c x bs
  unfolding items done
  alone {a} {c} n k e = carry (λ x o. ActionIs h j s a c x o) e (record { sources = []; reads = rw n; same = k ∙ sym (and-true (own_named h a)) })

  pub action-is : (a : Action) (c : Cursor) {x : syntax.Action} {bs : List ℕ} → action_read s a c ≡ read x bs → ActionIs h j s a c x bs
  unfolding action_named done
  action-is Noop c e = alone refl refl e
  action-is (Init dest n) c e =
      let w = then (items n path) _ (rest s c) e in
      carry (λ x o. ActionIs h j s (Init dest n) c x o) w.last (record { sources = w.got; reads = w.first; same = rw z.variables })
  action-is (Borrow dest r k source) c e = alone refl (rw (z.variables, z.regions)) e
  action-is (Assign dest source) c e = alone refl (rw z.variables) e
  action-is (Constraint sup sub) c e = alone refl (rw z.regions) e
  action-is (Use p) c e = alone refl (rw z.variables) e
  action-is (Drop p) c e = alone refl (rw z.variables) e
  action-is (StorageDead v) c e = alone refl (rw z.variables) e

module _ {h : Head} {s : List ℕ} {at : ℕ} (a : Action) (c : Cursor) {b : Bool} (m : action_read s a c ≡ action (drop at s)) (i : b ≡ own_named h a) (j : Job) (z : Sized h j) where
  pub action-fails : {l : Refusal} → b ≡ false → Passes action (action_named j) s at (Err l)
  action-fails k = record { says = λ x bs f. let w = action-is z s a c (m ∙ f) in rw (w.same, ← i, k) }

  pub action_sources : {n : ℕ} {r : Result Cursor Refusal} → b ≡ true → n ≡ sources_of a → Passes (items n path) (every (path_named j)) s c.at r → Passes action (action_named j) s at r
  action_sources {n} {r} k l v = record {
    says = λ x bs f.
        let w = action-is z s a c (m ∙ f) in
        rw (w.same, ← i, k) (v.says w.sources bs (rw l w.reads));
  }

-- ---- A block

module _ {h : Head} {s : List ℕ} {at : ℕ} {d : Result BasicBlockData Refusal} (m : block_says s d ≡ block (drop at s)) where
  pub block_refused : {k : Refusal} {r : Bool} → d ≡ Err k → (j : Job) → Sized h j → Tested block (block_named j) s at r
  block_refused e j z = none_tested (told (block_says s) m e)

  module _ {x : BasicBlockData} {b : Bool} (e : d ≡ Ok x) (i : b ≡ all_below h.blocks (take x.successors.count (rest s x.successors.from))) (j : Job) (z : Sized h j) where
    pub block-fails : b ≡ false → Tested block (block_named j) s at b
    unfolding block_of done
    block-fails k = record {
      says = λ y bs f.
          let w = then (items x.actions.count action) _ (rest s x.actions.from) (sym (told (block_says s) m e) ∙ f) in
          k ∙ carry (λ y o. false ≡ block_named j y) w.last (rw (z.blocks, ← i, k));
    }

    pub block-actions : {r : Bool} → b ≡ true → Tested (items x.actions.count action) (every (action_named j)) s x.actions.from.at r → Tested block (block_named j) s at r
    unfolding block_of done
    block-actions {r} k v = record {
      says = λ y bs f.
          let w = then (items x.actions.count action) _ (rest s x.actions.from) (sym (told (block_says s) m e) ∙ f) in
          carry (λ y o. r ≡ block_named j y) w.last (rw (z.blocks, ← i, k) (v.says w.got w.mid w.first));
    }

-- ---- The whole job

pub every_append : {A : Type 0} (f : A → Bool) (xs ys : List A) → every f (xs ++ ys) ≡ every f xs && every f ys
every_append f [] ys = refl
every_append f (x ∷ xs) ys = go (f x) (every f xs) (every f ys) (every_append f xs ys)
  where
    go : (a b c : Bool) {d : Bool} → d ≡ b && c → a && d ≡ (a && b) && c
    go true b c e = e
    go false b c e = refl

every-gather : {A B : Type 0} (f : A → Bool) (g : B → List A) (bs : List B) → every f (gather g bs) ≡ every (λ b. every f (g b)) bs
every-gather f g [] = refl
every-gather f g (b ∷ bs) = every_append f (g b) (gather g bs) ∙ ap (λ (z : Bool). every f (g b) && z) (every-gather f g bs)

pub every_both : {A : Type 0} (f g : A → Bool) (xs : List A) → every (λ x. f x && g x) xs ≡ every f xs && every g xs
every_both f g [] = refl
every_both f g (x ∷ xs) = ap (λ (z : Bool). (f x && g x) && z) (every_both f g xs) ∙ go (f x) (g x) (every f xs) (every g xs)
  where
    go : (a b c d : Bool) → (a && b) && (c && d) ≡ (a && c) && (b && d)
    go false b c d = refl
    go true true c d = refl
    go true false true d = refl
    go true false false d = refl

-- the blocks, their successors and actions apart
blocks_apart : (j : Job) → blocks_named j ≡ successors_named j && actions_named j
unfolding successors_named actions_named
blocks_apart j =
    every_both (λ b. all_below (length j.blocks) b.successors) (λ b. every (action_named j) b.actions) j.blocks
    ∙ ap (λ (z : Bool). successors_named j && z) (sym (every-gather (action_named j) (λ b. b.actions) j.blocks))

pub named-is : {s : List ℕ} {t : Offsets} {h : Head} {j : Job} → Layout s t h j → named j ≡ leb h.declared h.regions && structs_named j && outlived_named j && variables_named j && ltb 0 h.blocks && blocks_named j
unfolding named
named-is {h = h} {j = j} w =
    go (structs_named j) (outlived_named j) (variables_named j) (successors_named j) (actions_named j)
    (let e : leb (length j.outlives) j.regions ≡ leb h.declared h.regions = rw (w.declared_count, w.regions) in e)
    (let e : ltb j.start (length j.blocks) ≡ ltb 0 h.blocks = rw (w.start, w.block_count) in e)
    (blocks_apart j)
  where
    last : (x u b c : Bool) → x && u && b && c ≡ x && b && (u && c)
    last false u b c = refl
    last true true b c = refl
    last true false true c = refl
    last true false false c = refl

    go : (p o v u c : Bool) {a a' b b' k : Bool} → a ≡ a' → b ≡ b' → k ≡ u && c → a && p && o && v && u && b && c ≡ a' && p && o && v && b' && k
    go p o v u c {a' = a'} {b' = b'} x y z = rw (x, y, z) (last (a' && p && o && v) u b' c)

-- a test, and one that is done where it passes
module _ {v x z : Bool} (e : x ≡ z) where
  pub both_done : {y r : Bool} → x ≡ true → v ≡ r → r ≡ y → v ≡ z && y
  both_done k i f = i ∙ f ∙ rw (← e, k)

  pub one-done : (y : Bool) → x ≡ false → v ≡ x → v ≡ z && y
  one-done y k i = i ∙ rw (← e, k)

pub some_block : (n : ℕ) → not (eqb n 0) ≡ ltb 0 n
some_block zero = refl
some_block (suc n) = rw (ne_eqb (suc n) 0 (λ e. omega arith), lt-ltb 0 (suc n) (omega arith))
