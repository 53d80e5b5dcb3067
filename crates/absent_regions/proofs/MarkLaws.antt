-- Sets of regions: all of them, those that are inner regions of no constraint, and those of two sets. Assumes nothing.
use mathlib.Core.Path.{◌≡◌, refl, sym, ap, ◌∙◌, subst}
use mathlib.Core.Logic.{◌⊎◌, inl, inr, ⊎_elim}
use mathlib.Core.Bool.{Bool, true, false, not, ◌&&◌, ◌||◌, and-true, and-false, or-true, true≢false}
use mathlib.Core.List.{List, replicate}
use Prim.Native.Nat.{ℕ, ◌+◌, ◌*◌, ◌/◌, ◌%◌, ◌<◌}
use native.Mathlib.Omega.{arith}
use native.Mathlib.Decide.{ℕ_discrete, dec_lt}
use native.Mathlib.Numerals.{add-one}
use lib.ListN.{length, get_or, get_or-replicate}
use lib.Dec.{eqb}
use borrow.Author.Tests.{eq-eqb, ne_eqb}
use Rattle.nll_spec.specs.Lists.{below}
use Rattle.nll_spec.specs.Syntax.{RegionName}
use Rattle.nll_spec.specs.Output.{word_bits}
use Rattle.nll_spec.specs.Constraints.{Outlives}
use Rattle.nll_spec.proofs.Tests.{is_true, contains-below}
use Rattle.nll_spec.proofs.Lookup.{every-contains}
use Rattle.bit_set.specs.Bits.{has, joined, without_bit}
use Rattle.bit_set.proofs.BitLaws.{digit, has_out, length_without, has_without, has_without_other}
use Rattle.bit_set.proofs.SetLaws.{length-joined, has-joined}
use Rattle.constraint_list.specs.Listed.{outlives_of, outlives_from}
use Rattle.constraint_list.specs.declared.Constraint.{Constraint}
use Rattle.absent_regions.specs.Absent.{inner_at, is_absent, AbsentBelow, Marks}

pub one_of : (a b : Bool) → (a || b) ≡ true → (a ≡ true) ⊎ (b ≡ true)
one_of true b e = inl refl
one_of false b e = inr e

-- ---- All regions

ones : (i : ℕ) → i < word_bits → eqb (digit 4294967295 i) 1 ≡ true
ones i l = is_true _ (every-contains (λ (k : ℕ). eqb (digit 4294967295 k) 1) (below word_bits) i tt (contains-below word_bits i l))

-- the set of the regions below 128
abbrev pub all_regions : List ℕ
all_regions = replicate 4 4294967295

pub has-all : (x : RegionName) → x < 128 → has all_regions x ≡ true
has-all x l = ap (λ (w : ℕ). eqb (digit w (x % word_bits)) 1) (get_or-replicate 4 (x / word_bits) 4294967295 0 (omega (arith, l))) ∙ ones (x % word_bits) (omega arith)

-- ---- Regions that are inner regions of no constraint

module _ {ls : List ℕ} where
  pub absent_none : AbsentBelow ls 0 all_regions
  unfolding is_absent
  absent_none = record { sized = refl; is = has-all }

  absent_without : {set : List ℕ} (i : ℕ) {c : Constraint} → AbsentBelow ls i set → outlives_of c ≡ outlives_from (get_or ls (i + 1) 0) → AbsentBelow ls (i + 1) (without_bit set c.sub)
  unfolding is_absent
  absent_without {set} i {c} a e = record { sized = length_without set c.sub ∙ a.sized; is = λ x l. go x l (ℕ_discrete x c.sub) }
    where
      here : inner_at ls i ≡ c.sub
      here = ap (λ (k : ℕ). (outlives_from (get_or ls k 0)).sub) (sym (add-one i)) ∙ sym (ap (λ (o : Outlives). o.sub) e)

      test : (x : RegionName) (b : Bool) → eqb (inner_at ls i) x ≡ b → (is_absent ls i x && not b) ≡ is_absent ls (i + 1) x
      test x b f = rw (add-one, ← f)

      go : (x : RegionName) → x < 128 → Dec (x ≡ c.sub) → has (without_bit set c.sub) x ≡ is_absent ls (i + 1) x
      go x l (yes q) = rw (q, has_without set c.sub) (sym (and-false (is_absent ls i c.sub)) ∙ test c.sub true (eq-eqb _ _ here))
      go x l (no q) = has_without_other set c.sub x q ∙ a.is x l ∙ sym (and-true (is_absent ls i x)) ∙ test x false (ne_eqb _ _ (λ w. q (sym w ∙ here)))

  pub absent_more : {set set' : List ℕ} (i : ℕ) {c : Constraint} {region : ℕ} → AbsentBelow ls i set → outlives_of c ≡ outlives_from (get_or ls (i + 1) 0) → region ≡ c.sub
      → set' ≡ without_bit set (word_bits * 0 + region) → AbsentBelow ls (i + 1) set'
  absent_more {set} i {c} a e r s =
      let z : word_bits * 0 + c.sub ≡ c.sub = omega arith in
      rw (s, r, z) (absent_without i {c = c} a e)

-- ---- The regions of two sets

module _ (last grew : List ℕ) (l : length last ≡ 4) (g : length grew ≡ 4) where
  abbrev both : List ℕ
  both = joined last 0 grew 0 4

  size : length both ≡ 4
  size = length-joined last 0 grew 0 4 ∙ l

  has-both : (x : RegionName) → has both x ≡ (has last x || has grew x)
  has-both x = go (dec_lt x 128)
    where
      go : Dec (x < 128) → has both x ≡ (has last x || has grew x)
      go (yes m) =
          let z : word_bits * 0 + x ≡ x = omega arith in
          subst (λ (k : ℕ). has both k ≡ (has last k || has grew k)) z (has-joined last 0 grew 0 4 (omega (arith, l)) (omega (arith, g)) x (omega (arith, m)))
      go (no m) = rw (has_out both x (omega (arith, m, size)), has_out last x (omega (arith, m, l)), has_out grew x (omega (arith, m, g))) refl

  pub marks-both : Marks last grew both
  marks-both =
      record {
        sized = size;
        all = λ x m. has-both x ∙ ⊎_elim (λ e. ap (λ (b : Bool). b || has grew x) e) (λ e. ap (λ (b : Bool). has last x || b) e ∙ or-true (has last x)) m;
        only = λ x h. (small x h (dec_lt x 128), one_of _ _ (sym (has-both x) ∙ h));
      }
    where
      small : (x : RegionName) → has both x ≡ true → Dec (x < 128) → x < 128
      small x h (yes m) = m
      small x h (no m) = absurd (true≢false (sym h ∙ has_out both x (omega (arith, m, size))))
