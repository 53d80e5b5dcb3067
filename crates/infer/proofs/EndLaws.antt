-- The laws of `with_run`, and what the outer set gets. Assumes nothing.
use mathlib.Core.Path.{◌≡◌, refl, sym, ap, ◌∙◌}
use mathlib.Core.Logic.{◌⊎◌, inl, inr, ⊎_elim}
use mathlib.Core.Bool.{Bool, true, false, cond, true≢false}
use mathlib.Core.List.{List}
use Prim.Native.Nat.{ℕ, zero, suc, ◌+◌, ◌-◌, ◌*◌, ◌≤◌, ◌<◌}
use native.Mathlib.Decide.{ℕ_discrete}
use native.Mathlib.Omega.{arith}
use lib.ListN.{length}
use Rattle.std.proofs.lemmas.Bool.{cond_both}
use Rattle.nll_spec.specs.Output.{word_bits}
use Rattle.bit_set.specs.Bits.{has, with_bit}
use Rattle.bit_set.proofs.BitLaws.{length_with, has_with, has_with_other}
use Rattle.graph.specs.Tables.{Edge}
use Rattle.dfs.specs.Walk.{in_code, Reach, Reaches}
use Rattle.infer.specs.Search.{passes, with_run, with_ends, Gets}
use Rattle.infer.specs.declared.Setup.{Setup}
use Rattle.dfs.proofs.ChainLaws.{with_kept}
use Rattle.dfs.proofs.SearchLaws.{reach_held, code_below}

module _ (f : ℕ → Bool) (ps : List ℕ) (a : ℕ) where
  -- what one number more does, where it is put and where it is not
  more : (P : List ℕ → Type 0) (n : ℕ) → (f (a + n) ≡ true → P (with_bit (with_run f ps a n) (a + n))) → P (with_run f ps a n) → P (with_run f ps a (suc n))
  unfolding with_run
  more P n y z = cond_both (f (a + n)) _ _ P y (λ e. z)

  run_length : (n : ℕ) → length (with_run f ps a n) ≡ length ps
  unfolding with_run
  run_length zero = refl
  run_length (suc n) = let r = run_length n in more (λ (l : List ℕ). length l ≡ length ps) n (λ e. length_with (with_run f ps a n) (a + n) ∙ r) r

  run_kept : (n x : ℕ) → has ps x ≡ true → has (with_run f ps a n) x ≡ true
  unfolding with_run
  run_kept zero x m = m
  run_kept (suc n) x m = let r = run_kept n x m in more (λ (l : List ℕ). has l x ≡ true) n (λ e. with_kept (with_run f ps a n) (a + n) x r) r

  run_only : (n x : ℕ) → has (with_run f ps a n) x ≡ true → (has ps x ≡ true) ⊎ ((a ≤ x) × (x < a + n) × (f x ≡ true))
  unfolding with_run
  run_only zero x m = inl m
  run_only (suc n) x m = go (f (a + n)) refl m (run_only n x)
    where
      Was : ℕ → Type 0
      Was i = (has ps x ≡ true) ⊎ ((a ≤ x) × (x < i) × (f x ≡ true))

      up : Was (a + n) → Was (a + suc n)
      up w = ⊎_elim (λ i. inl i) (λ i. inr (i.0, omega (arith, i.1), i.2)) w

      go : (b : Bool) → f (a + n) ≡ b → has (cond b (with_bit (with_run f ps a n) (a + n)) (with_run f ps a n)) x ≡ true → (has (with_run f ps a n) x ≡ true → Was (a + n)) → Was (a + suc n)
      go true e k was = elim (ℕ_discrete x (a + n)) [ yes i ↦ inr (omega arith, omega arith, ap f i ∙ e) | no i ↦ up (was (sym (has_with_other (with_run f ps a n) (a + n) x i) ∙ k)) ]
      go false e k was = up (was k)

  run_put : (n x : ℕ) → a + n ≤ word_bits * length ps → a ≤ x → x < a + n → f x ≡ true → has (with_run f ps a n) x ≡ true
  unfolding with_run
  run_put zero x room l r e = absurd (omega (arith, l, r))
  run_put (suc n) x room l r e = go (f (a + n)) refl (ℕ_discrete x (a + n)) (λ i. run_put n x (omega (arith, room)) l i e)
    where
      u : List ℕ
      u = with_run f ps a n

      go : (b : Bool) → f (a + n) ≡ b → Dec (x ≡ a + n) → (x < a + n → has u x ≡ true) → has (cond b (with_bit u (a + n)) u) x ≡ true
      go true k (yes i) was = rw i (has_with u (a + n) (rw (run_length n) (omega (arith, room))))
      go false k (yes i) was = absurd (true≢false (sym e ∙ ap f i ∙ k))
      go true k (no i) was = with_kept u (a + n) x (was (omega (arith, r, i)))
      go false k (no i) was = was (omega (arith, r, i))

  pub run_none : ps ≡ with_run f ps a (a - a)
  unfolding with_run
  run_none = let e : a - a ≡ 0 = omega arith in rw e

  -- as the code goes: u is what v becomes
  pub run_yes : (u v : List ℕ) (i : ℕ) → a ≤ i → u ≡ with_bit v (word_bits * 0 + i) → v ≡ with_run f ps a (i - a) → f i ≡ true → u ≡ with_run f ps a (i + 1 - a)
  unfolding with_run
  run_yes u v i l eu ev y =
      let e : i + 1 - a ≡ suc (i - a) = omega arith in
      let q : a + (i - a) ≡ i = omega arith in
      let z : word_bits * 0 + i ≡ i = omega arith in
      eu ∙ rw (e, q, y, z, ev)

  pub run_no : (u v : List ℕ) (i : ℕ) → a ≤ i → u ≡ v → v ≡ with_run f ps a (i - a) → f i ≡ false → u ≡ with_run f ps a (i + 1 - a)
  unfolding with_run
  run_no u v i l eu ev y =
      let e : i + 1 - a ≡ suc (i - a) = omega arith in
      let q : a + (i - a) ≡ i = omega arith in
      eu ∙ ev ∙ rw (e, q, y)

-- the set has the numbers of A
pub record Holds (A : ℕ → Type 0) (ps : List ℕ) : Type 0 where
  pub sized : length ps ≡ 32
  pub sound : (x : ℕ) → has ps x ≡ true → A x
  pub complete : (x : ℕ) → A x → has ps x ≡ true

-- what p reaches, with the ends where a point of it has no point after it, is what the outer set gets
pub ends_hold : (g : Setup) (ws : List ℕ) (from p : ℕ) (ps : List ℕ) (b : Bool) → g.shape.code ≤ g.shape.points → g.shape.points ≤ 1024
    → Reaches (Reach (Edge g.graph.now.first g.graph.now.succ) (in_code ws from g.shape.code) p) g.graph.now.first ps b → Holds (Gets g ws from p) (cond b (with_ends g ws from ps) ps)
ends_hold g ws from p ps true lc lp m =
    record {
      sized = run_length f ps code n ∙ m.sized;
      sound = λ x k. ⊎_elim (λ i. inl (m.sound x i)) (λ i. inr (i.0, omega (arith, i.0, i.1), i.2, m.leaf refl)) (run_only f ps code n x k);
      complete = λ x k. ⊎_elim (λ r. run_kept f ps code n x (m.complete x r)) (λ r. run_put f ps code n x (omega (arith, m.sized)) r.0 (omega (arith, r.0, r.1)) r.2) k;
    }
  where
    f : ℕ → Bool
    f = passes g ws from

    code : ℕ
    code = g.shape.code

    n : ℕ
    n = g.shape.points - g.shape.code
ends_hold g ws from p ps false lc lp m =
    record {
      sized = m.sized;
      sound = λ x k. inl (m.sound x k);
      complete = λ x k. ⊎_elim (m.complete x) (λ r. absurd (true≢false (sym (m.exits r.3.0 r.3.1 r.3.2)))) k;
    }

pub gets_below : (g : Setup) (ws : List ℕ) (from p : ℕ) → g.shape.code ≤ g.shape.points → (q : ℕ) → Gets g ws from p q → q < g.shape.points
gets_below g ws from p lc q (inl r) = omega (arith, code_below ws from g.shape.code q (reach_held r))
gets_below g ws from p lc q (inr r) = r.1
