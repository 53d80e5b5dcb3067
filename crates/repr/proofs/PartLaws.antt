-- Parts that hold rows: a row only counted, and where such a part ends. Assumes nothing.
use mathlib.Core.Path.{◌≡◌, refl, sym, ap, ◌∙◌}
use mathlib.Core.List.{List}
use Prim.Native.Nat.{ℕ}
use Rattle.nll_spec.specs.Decode.{Reading, refused, read, Reader, done, ◌>>=◌, count, items, counted, path}
use Rattle.repr.specs.Reading.{rest, ended}
use Rattle.repr.specs.Parts.{Readable, action_read, sources_of}
use Rattle.std.proofs.Common.{rules}
use Rattle.repr.specs.declared.Cursor.{Cursor}
use Rattle.repr.specs.declared.Action.{Action}
use Rattle.repr.specs.declared.Action.TheVariants.{Noop, Init, Borrow, Assign, Constraint, Use, Drop, StorageDead}
use Rattle.repr.proofs.ReadLaws.{step, stop}

-- ---- A row that is counted, and what follows it

module _ {A B : Type 0} (f : A → Reader B) where
  -- two readings that are the same go on the same
  pub onward : (m n : Reader A) (bs cs : List ℕ) → m bs ≡ n cs → ◌>>=◌ m f bs ≡ ◌>>=◌ n f cs
  unfolding ◌>>=◌
  onward m n bs cs e = ap (λ (x : Reading A). elim x as (λ y. Reading B) [ refused k ↦ refused k | read a over ↦ f a over ]) e

module _ {A B : Type 0} (high : ℕ) (item : Reader A) (f : List A → Reader B) (bs : List ℕ) where
  pub counted_step : {n : ℕ} {over : List ℕ} → count 0 high bs ≡ read n over → ◌>>=◌ (counted high item) f bs ≡ ◌>>=◌ (items n item) f over
  unfolding counted
  counted_step {n} {over} e = onward f (counted high item) (items n item) bs over (step _ _ _ e)

  pub counted_stop : {k : ℕ} → count 0 high bs ≡ refused k → ◌>>=◌ (counted high item) f bs ≡ refused k
  unfolding counted
  counted_stop e = stop _ _ _ (stop _ _ _ e)

-- ---- Where a reading ends

module _ {A B : Type 0} (m : Reader A) (f : A → Reader B) (bs : List ℕ) where
  pub end_stop : {k : ℕ} → ended (m bs) ≡ refused k → ended (◌>>=◌ m f bs) ≡ refused k
  unfolding ◌>>=◌
  end_stop {k} e = go (m bs) e
    where
      go : (x : Reading A) → ended x ≡ refused k → ended {A = B} (elim x as (λ y. Reading B) [ refused n ↦ refused n | read a over ↦ f a over ]) ≡ refused k
      go (refused n) e = e
      go (read a over) e = absurd (search rules)

  pub end_then : {after : List ℕ} {y : Reading (Unit {0})} → ended (m bs) ≡ read tt after → ((a : A) → ended (f a after) ≡ y) → ended (◌>>=◌ m f bs) ≡ y
  unfolding ◌>>=◌
  end_then {after} {y} e k = go (m bs) e
    where
      go : (x : Reading A) → ended x ≡ read tt after → ended {A = B} (elim x as (λ y. Reading B) [ refused n ↦ refused n | read a over ↦ f a over ]) ≡ y
      go (refused n) e = absurd (search rules)
      go (read a over) e = let i : over ≡ after = cc in rw i (k a)

module _ {A : Type 0} (m : Reader A) (bs : List ℕ) where
  pub end_readable : {after : List ℕ} → ended (m bs) ≡ read tt after → Readable m bs
  end_readable {after} e = go (m bs) refl e
    where
      go : (x : Reading A) → m bs ≡ x → ended x ≡ read tt after → Readable m bs
      go (refused k) i e = absurd (search rules)
      go (read a over) i e = record { item = a; over = over; reads = i }

  pub end_refused : {k : ℕ} → ended (m bs) ≡ refused k → m bs ≡ refused k
  end_refused {k} e = go (m bs) refl e
    where
      go : (x : Reading A) → m bs ≡ x → ended x ≡ refused k → m bs ≡ refused k
      go (refused n) i e = let z : n ≡ k = cc in i ∙ ap (λ (l : ℕ). refused l) z
      go (read a over) i e = absurd (search rules)

  -- where m ends is where it goes on
  pub end-over : {a : A} {over after : List ℕ} → m bs ≡ read a over → ended (m bs) ≡ read tt after → over ≡ after
  end-over {a} {over} {after} i e = let z = sym (ap ended i) ∙ e in cc

module _ {A B : Type 0} (m : Reader A) (f g : A → Reader B) (bs : List ℕ) where
  -- two ways on from where m ends
  pub end_same : {after : List ℕ} → ended (m bs) ≡ read tt after → ((a : A) → f a after ≡ g a after) → ◌>>=◌ m f bs ≡ ◌>>=◌ m g bs
  end_same {after} e h = let r = end_readable m bs e in
      step m f bs r.reads ∙ rw (end-over m bs r.reads e) (h r.item) ∙ sym (step m g bs r.reads)

module _ {A B : Type 0} (m : Reader A) (f : A → Reader B) (bs : List ℕ) where
  pub end_halt : {k : ℕ} → ended (m bs) ≡ refused k → ◌>>=◌ m f bs ≡ refused k
  end_halt e = stop m f bs (end_refused m bs e)

  pub end-refuse : {after : List ℕ} {k : ℕ} → ended (m bs) ≡ read tt after → ((a : A) → f a after ≡ refused k) → ◌>>=◌ m f bs ≡ refused k
  end-refuse {after} e h = let r = end_readable m bs e in step m f bs r.reads ∙ rw (end-over m bs r.reads e) (h r.item)

module _ {A B : Type 0} (m : Reader A) (g : A → B) (bs : List ℕ) where
  pub end-done : ended (◌>>=◌ m (λ a. done (g a)) bs) ≡ ended (m bs)
  unfolding ◌>>=◌ done
  end-done = go (m bs)
    where
      go : (x : Reading A) → ended {A = B} (elim x as (λ y. Reading B) [ refused n ↦ refused n | read a over ↦ read (g a) over ]) ≡ ended x
      go (refused n) = refl
      go (read a over) = refl

-- ---- An action ends after its sources

pub action-rest : (s : List ℕ) (a : Action) (next : Cursor) → ended (action_read s a next) ≡ ended (items (sources_of a) path (rest s next))
unfolding items done
action-rest s Noop next = refl
action-rest s (Init dest n) next = end-done (items n path) _ (rest s next)
action-rest s (Borrow dest r k source) next = refl
action-rest s (Assign dest source) next = refl
action-rest s (Constraint sup sub) next = refl
action-rest s (Use p) next = refl
action-rest s (Drop p) next = refl
action-rest s (StorageDead v) next = refl
