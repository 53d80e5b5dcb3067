-- Buffers that are compared part by part with what the call is to leave. Assumes nothing.
use mathlib.Core.Path.{◌≡◌, refl, sym, ap, ap₂, ◌∙◌}
use mathlib.Core.Bool.{Bool, true, false}
use mathlib.Core.List.{List, ◌++◌}
use Prim.Native.Nat.{ℕ, ◌<◌}
use native.Mathlib.Omega.{arith}
use lib.ListN.{length, get_or, take, drop, length-append, length-map}
use lib.Seq.{ext_get_or, take-append_seam, drop-append_seam}
use Rattle.std.specs.Bool.{Decides}
use Rattle.std.proofs.Common.{rules}
use Rattle.std.proofs.lemmas.List.{take-append-drop}
use Rattle.std.proofs.lemmas.Slice.Eq.{compares_Decides}
use Rattle.nll_spec.specs.Lists.{below}
use Rattle.nll_spec.specs.Cases.{same_list}
use Rattle.nll_spec.specs.Output.{overwrite}
use Rattle.nll_spec.proofs.Tests.{length-count_from}
use Rattle.nll_spec.proofs.Lookup.{get_or-map-below}
use Rattle.replay.specs.File.{word_at, words_at}

-- two tests of facts that follow from each other
decided : {P Q : Type 0} (r q : Bool) → Decides r P → Decides q Q → (P → Q) → (Q → P) → r ≡ q
decided true true d e f g = refl
decided true false d e f g = sym (e.1 (f (d.0 refl)))
decided false true d e f g = d.1 (g (e.0 refl))
decided false false d e f g = refl

same_is : (a b : List ℕ) → Decides (same_list a b) (a ≡ b)
same_is a b = compares_Decides same_list (search rules) a b

-- A buffer a, and what it is to be: old with its first n elements overwritten by new.
module _ (a new old : List ℕ) {n : ℕ} (size : length new ≡ n) where
  pub longer : length a < n → false ≡ same_list a (overwrite new old)
  longer h =
      decided {P = ⊥} false (same_list a (overwrite new old)) (λ e. cc, λ e. absurd e) (same_is a (overwrite new old)) (λ e. absurd e)
      (λ e. omega (arith, ap length e, length-append new (drop (length new) old)))

  front : a ≡ overwrite new old → take n a ≡ new
  front e = rw (sym size) (ap (take (length new)) e ∙ take-append_seam new (drop (length new) old))

  back : a ≡ overwrite new old → drop n a ≡ drop n old
  back e = rw (sym size) (ap (drop (length new)) e ∙ drop-append_seam new (drop (length new) old))

  whole : take n a ≡ new → drop n a ≡ drop n old → a ≡ overwrite new old
  whole e q = sym (take-append-drop n a) ∙ ap₂ (λ (x y : List ℕ). x ++ y) e (q ∙ ap (λ (k : ℕ). drop k old) (sym size))

  module _ {first : List ℕ} {v : Bool} (f : first ≡ take n a) (d : Decides v (first ≡ new)) where
    pub other_front : v ≡ false → v ≡ same_list a (overwrite new old)
    other_front e = decided v (same_list a (overwrite new old)) d (same_is a (overwrite new old)) (λ p. let t : v ≡ true = d.1 p in cc) (λ q. f ∙ front q)

    pub same_front : v ≡ true → {rest left : List ℕ} {w : Bool} → rest ≡ drop n a → left ≡ drop n old → Decides w (rest ≡ left) → w ≡ same_list a (overwrite new old)
    same_front t {rest} {left} {w} r l e =
        decided w (same_list a (overwrite new old)) e (same_is a (overwrite new old)) (λ q. whole (sym f ∙ d.0 t) (sym r ∙ q ∙ l)) (λ q. r ∙ back q ∙ sym l)

-- ---- The file's words and bytes

pub length-words_at : (s : List ℕ) (at n : ℕ) → length (words_at s at n) ≡ n
unfolding words_at
length-words_at s at n = length-map (below n) (word_at s at) ∙ length-count_from 0 n

get_or-words_at : (s : List ℕ) (at n i : ℕ) → i < n → get_or (words_at s at n) i 0 ≡ word_at s at i
unfolding words_at
get_or-words_at s at n i h = get_or-map-below (word_at s at) 0 n i h

-- words that are the file's one by one
module _ (s : List ℕ) (at : ℕ) (ws : List ℕ) {n : ℕ} (size : length ws ≡ n) where
  pub words_decide : {v : Bool} → Decides v ((k : ℕ) → k < length ws → get_or ws k 0 ≡ word_at s at k) → Decides v (ws ≡ words_at s at n)
  words_decide d = (
    λ t. ext_get_or 0 ws (words_at s at n) (size ∙ sym (length-words_at s at n)) (λ k l. d.0 t k l ∙ sym (get_or-words_at s at n k (omega arith))),
    λ e. d.1 (λ k l. ap (λ (x : List ℕ). get_or x k 0) e ∙ get_or-words_at s at n k (omega arith)),
  )
