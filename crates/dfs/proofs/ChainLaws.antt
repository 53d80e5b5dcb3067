-- The laws of `Along`, `Stopped` and `Chained`. Assumes nothing.
use mathlib.Core.Path.{◌≡◌, refl, sym, ap, ◌∙◌}
use mathlib.Core.Logic.{inl, inr, ⊎_elim}
use mathlib.Core.Bool.{Bool, true, false, true≢false}
use mathlib.Core.List.{List}
use Prim.Native.Nat.{ℕ, ◌+◌, ◌*◌, ◌/◌, ◌%◌, ◌≤◌, ◌<◌}
use native.Mathlib.Decide.{ℕ_discrete, dec_lt}
use native.Mathlib.Omega.{arith}
use lib.ListN.{length, replicate}
use lib.Dec.{eqb, ltb}
use borrow.Author.Tests.{ltb-false}
use Rattle.nll_spec.specs.Output.{word_bits}
use Rattle.bit_set.specs.Bits.{has, with_bit}
use Rattle.bit_set.proofs.BitLaws.{digit, has_out, length_with, has_with, has_with_other, with_out}
use Rattle.graph.specs.Tables.{up_to}
use Rattle.graph.proofs.SearchLaws.{no_mark}
use Rattle.dfs.specs.Walk.{in_code, Follows, Chained, Along, Stopped}

-- ---- Bits

-- number x of the set that starts at word 0
pub at_zero : (l : List ℕ) (x : ℕ) → has l (word_bits * 0 + x) ≡ has l x
at_zero l x = let e : word_bits * 0 + x ≡ x = omega arith in ap (has l) e

zero_at : (x : ℕ) → word_bits * 0 + x ≡ x
zero_at x = omega arith

pub with_sized : (a m : List ℕ) (j : ℕ) → m ≡ with_bit a j → length a ≡ 32 → length m ≡ 32
with_sized a m j e l = ap length e ∙ length_with a j ∙ l

-- the empty set has no number
pub has-none : (n x : ℕ) → has (replicate n 0) x ≡ false
has-none n x = ap (λ (w : ℕ). eqb (digit w (x % word_bits)) 1) (no_mark n (x / word_bits)) ∙ has_out (replicate 0 0) x (omega arith)

-- what is in a set stays
pub with_kept : (ws : List ℕ) (j i : ℕ) → has ws i ≡ true → has (with_bit ws j) i ≡ true
with_kept ws j i h = go (ℕ_discrete i j) (dec_lt (j / word_bits) (length ws))
  where
    go : Dec (i ≡ j) → Dec (j / word_bits < length ws) → has (with_bit ws j) i ≡ true
    go (no n) d = has_with_other ws j i n ∙ h
    go (yes q) (yes l) = rw q (has_with ws j l)
    go (yes q) (no l) = ap (λ (u : List ℕ). has u i) (with_out ws j (omega (arith, l))) ∙ h

-- ---- Along the chain

module _ (chain : List ℕ) (h : ℕ → Bool) where
  pub along-none : (a : List ℕ) (q : ℕ) → length a ≡ 32 → q < 1024 → Along chain h a a q q
  along-none a q e l =
      record {
        sized = e;
        up = omega arith;
        below = l;
        linked = λ x u v. absurd (omega (arith, u, v));
        held = λ x u v. absurd (omega (arith, u, v));
        kept = λ x k. k;
        put = λ x u v. absurd (omega (arith, u, v));
        only = λ x k. inl k;
      }

  -- nothing is put
  pub stay : (a : List ℕ) (q : ℕ) → length a ≡ 32 → q < 1024 → (has chain q ≡ true → h (q + 1) ≡ true → has a (q + 1) ≡ true)
      → Along chain h a a q q × (q ≡ q → Stopped chain h a q)
  stay a q e l c = (along-none a q e l, λ z. record { closed = c })

  pub along_trans : {a b d : List ℕ} {p q e : ℕ} → Along chain h a b p q → Along chain h b d q e → Along chain h a d p e
  along_trans {a} {b} {d} {p} {q} {e} u v =
      record {
        sized = v.sized;
        up = omega (arith, u.up, v.up);
        below = v.below;
        linked = λ x l r. elim (dec_lt x q) [ yes i ↦ u.linked x l i | no i ↦ v.linked x (omega (arith, i)) r ];
        held = λ x l r. elim (dec_lt q x) [ yes i ↦ v.held x i r | no i ↦ u.held x l (omega (arith, i)) ];
        kept = λ x m. v.kept x (u.kept x m);
        put = λ x l r. elim (dec_lt q x) [ yes i ↦ v.put x i r | no i ↦ v.kept x (u.put x l (omega (arith, i))) ];
        only = λ x m. ⊎_elim (λ k. ⊎_elim (λ j. inl j) (λ j. inr (j.0, omega (arith, j.1, v.up))) (u.only x k)) (λ k. inr (omega (arith, k.0, u.up), k.1)) (v.only x m);
      }

-- ---- As the code of `advance` goes

module _ (chain ws : List ℕ) (from code : ℕ) (a : List ℕ) (q : ℕ) (sized : length a ≡ 32) (small : code ≤ 1024) (lq : q < 1024) where
  abbrev Advanced : List ℕ → ℕ → Type 0
  Advanced b e = Along chain (in_code ws from code) a b q e × (e ≡ q → Stopped chain (in_code ws from code) b q)

-- ---- Which points are of the chain

pub up_to_le : (e : ℕ) → up_to e ≤ e
up_to_le e = go (ltb e 1536) refl
  where
    go : (b : Bool) → ltb e 1536 ≡ b → up_to e ≤ e
    go true q = rw q (omega arith)
    go false q = let l : 1536 ≤ e = ltb-false e 1536 q in rw q l

pub chained_none : (first succ : List ℕ) → Chained (replicate 32 0) first succ
chained_none first succ = record { links = λ q e. absurd (true≢false (sym e ∙ has-none 32 q)) }

pub chained_more : (chain first succ : List ℕ) (q : ℕ) (chain' : List ℕ) → chain' ≡ with_bit chain (word_bits * 0 + q) → Chained chain first succ → Follows first succ q → Chained chain' first succ
chained_more chain first succ q chain' e c f =
    rw (e, zero_at q) record { links = λ x e. elim (ℕ_discrete x q) [ yes i ↦ rw i f | no i ↦ c.links x (sym (has_with_other chain q x i) ∙ e) ] }
