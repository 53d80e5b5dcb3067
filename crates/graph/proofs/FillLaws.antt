-- Laws of the tables as they are filled. Assumes nothing.
use mathlib.Core.Path.{◌≡◌, refl, sym, ap, subst₂, ◌∙◌}
use mathlib.Core.List.{List, [], ◌∷◌, ◌++◌, map, map-append, append_assoc}
use Prim.Native.Nat.{ℕ, suc, ◌+◌, ◌≤◌, ◌<◌}
use native.Mathlib.Omega.{arith}
use native.Mathlib.Numerals.{add-one}
use native.Mathlib.Decide.{ℕ_discrete}
use lib.ListN.{length, get_or, take, drop, set, length-set, length-map}
use lib.Seq.{slice, get_or-set_same, get_or-set_other, take-suc-set, take-suc, take-append-le, take-take, drop_at, length-take-le, take_all}
use Rattle.nll_spec.specs.Syntax.{Point}
use Rattle.graph.specs.Tables.{row_start, row_end}
use Rattle.graph.specs.Filling.{Filled, Sized, Chained, Ended}
use Rattle.record.specs.declared.Offsets.{Offsets}

-- ---- One row more

-- The row of point n is `ns`, after the first k entries.
module _ {f : Point → List Point} {first succ : List ℕ} {n k : ℕ} (w : Filled f first succ n k) (ns : List Point) (v : List ℕ) {u : List ℕ} {m : ℕ}
    (sized : k ≤ length succ) (room : n + 1 < length first) (long : m ≡ k + length ns) (row : take m v ≡ take k succ ++ ns) (next : u ≡ set first (n + 1) m) (is : f n ≡ ns) where
  below : (p : ℕ) → (p ≡ n + 1 → ⊥) → get_or u p 0 ≡ get_or first p 0
  below p h = ap (λ (l : List ℕ). get_or l p 0) next ∙ get_or-set_other first (n + 1) p m 0 h

  here : get_or u (n + 1) 0 ≡ m
  here = ap (λ (l : List ℕ). get_or l (n + 1) 0) next ∙ get_or-set_same first (n + 1) m 0 room

  -- what stands below k is kept
  kept : (a b : ℕ) → b ≤ k → slice a b v ≡ slice a b succ
  kept a b h =
      let x = length-take-le k succ sized in
      ap (drop a) (sym (take-take b m v (omega arith)) ∙ ap (take b) row ∙ take-append-le b (take k succ) ns (omega arith) ∙ take-take b k succ h)

  new : slice k m v ≡ ns
  new = ap (drop k) row ∙ drop_at (take k succ) ns k (length-take-le k succ sized)

  pub filled_more : Filled f u v (n + 1) m
  filled_more =
      record {
        last = here;
        starts = λ p h. at-start p h (ℕ_discrete p n);
        ends = λ p h. at-end p h (ℕ_discrete p n);
        next = λ p h. at p h (ℕ_discrete p n);
      }
    where
      start : (p : ℕ) → p < n + 1 → row_start u p ≡ row_start first p
      start p h = below p (λ e. omega arith)

      end : (p : ℕ) → p < n → row_end u p ≡ row_end first p
      end p h = below (p + 1) (λ e. omega arith)

      at-start : (p : ℕ) → p < n + 1 → Dec (p ≡ n) → row_start u p ≤ row_end u p
      at-start p h (yes e) = rw e (let x = start n (omega arith) in let y = here in omega (arith, w.last))
      at-start p h (no e) = let l : p < n = omega arith in let x = start p h in let y = end p l in omega (arith, w.starts p l)

      at-end : (p : ℕ) → p < n + 1 → Dec (p ≡ n) → row_end u p ≤ m
      at-end p h (yes e) = rw e (let y = here in omega arith)
      at-end p h (no e) = let l : p < n = omega arith in let y = end p l in omega (arith, w.ends p l)

      at : (p : ℕ) → p < n + 1 → Dec (p ≡ n) → slice (row_start u p) (row_end u p) v ≡ f p
      at p h (yes e) = rw e (rw (start n (omega arith), here, w.last) (new ∙ sym is))
      at p h (no e) = let l : p < n = omega arith in rw (start p h, end p l) (kept (row_start first p) (row_end first p) (w.ends p l) ∙ w.next p l)

-- ---- The actions of a block

pub chained_none : (p k : ℕ) {first succ : List ℕ} → Sized first succ → Chained p 0 k first succ first succ
chained_none p k z = record { sized = z; filled = λ f h w. subst₂ (Filled f _ _) (omega arith) (omega arith) w }

module _ {p k i : ℕ} {first₀ succ₀ first succ : List ℕ} (w : Chained p i k first₀ succ₀ first succ) where
  pub chained_more : p + i + 1 < 1025 → k + i < 1536 → Chained p (i + 1) k first₀ succ₀ (set first (p + i + 1) (k + i + 1)) (set succ (k + i) (p + i + 1))
  chained_more h l =
      record {
        sized = record { rows = length-set first _ _ ∙ w.sized.rows; entries = length-set succ _ _ ∙ w.sized.entries };
        filled = λ f next was.
            subst₂ (Filled f (set first (p + i + 1) (k + i + 1)) (set succ (k + i) (p + i + 1))) (omega arith) (omega arith)
            (filled_more (w.filled f (λ m b. next m (omega arith)) was) (suc (p + i) ∷ []) (set succ (k + i) (p + i + 1)) (omega (arith, w.sized.entries)) (omega (arith, w.sized.rows)) (omega arith) (row w.sized.entries) refl (next i (omega arith)));
      }
    where
      row : length succ ≡ 1536 → take (k + i + 1) (set succ (k + i) (p + i + 1)) ≡ take (k + i) succ ++ suc (p + i) ∷ []
      row e = rw (add-one (k + i), add-one (p + i)) (take-suc-set succ (k + i) (suc (p + i)) (omega arith))

-- ---- The end of a block

-- The first i successors stand after the first k entries.
pub record Ending (g : ℕ → ℕ) (bs : List ℕ) (i k : ℕ) (succ₀ succ : List ℕ) : Type 0 where
  pub size : length succ ≡ 1536
  pub row : take (k + i) succ ≡ take k succ₀ ++ map g (take i bs)

pub ending_more : {g : ℕ → ℕ} {bs : List ℕ} {i k : ℕ} {succ₀ succ : List ℕ} → Ending g bs i k succ₀ succ → k + i < 1536 → i < length bs → {v : ℕ} → v ≡ g (get_or bs i 0)
    → Ending g bs (i + 1) k succ₀ (set succ (k + i) v)
ending_more {g} {bs} {i} {k} {succ₀} {succ} w h l {v} e =
    record {
      size = length-set succ _ _ ∙ w.size;
      row = row w.size;
    }
  where
    row : length succ ≡ 1536 → take (k + (i + 1)) (set succ (k + i) v) ≡ take k succ₀ ++ map g (take (i + 1) bs)
    row z =
        let a : k + (i + 1) ≡ suc (k + i) = omega arith in
        let b : i + 1 ≡ suc i = omega arith in
        rw (a, b, take-suc-set succ (k + i) v (omega arith), take-suc bs i 0 l, map-append, w.row, e, append_assoc)

pub ending_all : {t : Offsets} {bs : List ℕ} {i k p : ℕ} {first succ₀ succ : List ℕ} → Ending (λ (b : ℕ). get_or t.first b 0) bs i k succ₀ succ → length bs ≤ i
    → p < 1024 → k + length bs ≤ 1536 → i ≤ length bs → Sized first succ₀ → Ended t bs p k first succ₀ (set first (p + 1) (k + length bs)) succ
ending_all {t} {bs} {i} {k} {p} {first} {succ₀} {succ} w a e l b z =
    record {
      sized = record { rows = length-set first _ _ ∙ z.rows; entries = w.size };
      filled = λ f h was. filled_more was (map firsts bs) succ (omega (arith, z.entries)) (omega (arith, z.rows)) (rw length-map refl) row refl h;
    }
  where
    firsts : ℕ → ℕ
    firsts b = get_or t.first b 0

    row : take (k + length bs) succ ≡ take k succ₀ ++ map firsts bs
    row = let x : i ≡ length bs = omega arith in rw (take_all (length bs) bs (omega arith)) at (rw x at w.row)
