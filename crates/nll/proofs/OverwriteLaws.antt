-- Buffers that are overwritten. Assumes nothing.
use mathlib.Core.Path.{◌≡◌, sym, ap, ◌∙◌}
use mathlib.Core.List.{List, ◌++◌}
use Prim.Native.Nat.{ℕ, ◌+◌, ◌-◌, ◌≤◌}
use native.Mathlib.Omega.{arith}
use lib.ListN.{length, get_or, take, drop, length-append, length-drop}
use lib.Seq.{paste, ext_get_or, get_or-drop, take-append_seam, drop-append-add, drop-drop}
use Rattle.nll_spec.specs.Output.{overwrite}

-- what is overwritten in two buffers that agree from there on
pub same-tail : (new a b : List ℕ) → length a ≡ length b → ((i : ℕ) → length new ≤ i → get_or a i 0 ≡ get_or b i 0) → overwrite new a ≡ overwrite new b
same-tail new a b e same =
    ap (λ (x : List ℕ). new ++ x)
    (ext_get_or 0 (drop (length new) a) (drop (length new) b) (length-drop (length new) a ∙ ap (λ (n : ℕ). n - length new) e ∙ sym (length-drop (length new) b)) λ i h.
    get_or-drop (length new) a i 0 ∙ same (length new + i) (omega arith) ∙ sym (get_or-drop (length new) b i 0))

-- a second part after the first
pub pasted : (a b old src : List ℕ) → take (length b) src ≡ b → paste (overwrite a old) (length a) src (length b) ≡ overwrite (a ++ b) old
pasted a b old src e =
    ap (λ (x : List ℕ). x ++ take (length b) src ++ drop (length a + length b) (overwrite a old)) (take-append_seam a rest)
    ∙ ap (λ (x : List ℕ). a ++ x ++ drop (length a + length b) (overwrite a old)) e
    ∙ ap (λ (x : List ℕ). a ++ b ++ x) (drop-append-add a rest (length b) ∙ drop-drop (length b) (length a) old ∙ ap (λ (k : ℕ). drop k old) (sym (length-append a b)))
  where
    rest : List ℕ
    rest = drop (length a) old
