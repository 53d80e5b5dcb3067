-- Whether the call's outcome is an entry's. Assumes nothing.
use mathlib.Core.Path.{◌≡◌, refl, sym, ap, ap₂, ◌∙◌}
use mathlib.Core.Bool.{Bool, false, ◌&&◌}
use mathlib.Core.List.{List}
use Prim.Native.Nat.{ℕ}
use lib.ListN.{get_or}
use borrow.Author.Tests.{eq-eqb, ne_eqb}
use Rattle.nll_spec.specs.Cases.{same_list}
use Rattle.nll_spec.specs.Output.{overwrite}
use Rattle.nll.specs.Analysis.{AnalyseSays}
use Rattle.replay.specs.declared.file.Entry.{Entry}
use Rattle.replay.specs.File.{words_at, part_of, words_before, bytes_before, outcome_of, agrees}

module _ (s : List ℕ) (e : Entry) {n m : ℕ} {ws bs : List ℕ} (a : AnalyseSays (part_of s e.input e.number) words_before bytes_before n ws bs) (there : m ≡ get_or s e.number 0) where
  -- another number
  pub agree_no : (n ≡ m → ⊥) → false ≡ agrees s e
  unfolding agrees
  agree_no h =
      let o = outcome_of (part_of s e.input e.number) in
      ap
      (λ (t : Bool).
      t
      && same_list o.words (overwrite (words_at s e.words e.count) words_before)
      && same_list o.bytes (overwrite (part_of s e.bytes e.end) bytes_before))
      (sym (ne_eqb o.number (get_or s e.number 0) (λ q. h (a.number ∙ q ∙ sym there))))

  -- the same number
  pub agree_rest : {v w : Bool} → n ≡ m → v ≡ same_list ws (overwrite (words_at s e.words e.count) words_before) → w ≡ same_list bs (overwrite (part_of s e.bytes e.end) bytes_before) → (v && w) ≡ agrees s e
  unfolding agrees
  agree_rest q f g =
      let o = outcome_of (part_of s e.input e.number) in
      ap₂
      ◌&&◌
      (f ∙ ap (λ (x : List ℕ). same_list x (overwrite (words_at s e.words e.count) words_before)) a.words)
      (g ∙ ap (λ (x : List ℕ). same_list x (overwrite (part_of s e.bytes e.end) bytes_before)) a.bytes)
      ∙ ap
      (λ (t : Bool).
      t
      && same_list o.words (overwrite (words_at s e.words e.count) words_before)
      && same_list o.bytes (overwrite (part_of s e.bytes e.end) bytes_before))
      (sym (eq-eqb o.number (get_or s e.number 0) (sym a.number ∙ q ∙ there)))

  -- other words
  pub agree_not : {v : Bool} → n ≡ m → v ≡ same_list ws (overwrite (words_at s e.words e.count) words_before) → v ≡ false → v ≡ agrees s e
  agree_not {v} q f z = z ∙ ap (λ (b : Bool). b && same_list bs (overwrite (part_of s e.bytes e.end) bytes_before)) (sym z) ∙ agree_rest q f refl
