-- That the words of a set of points, joined to an outer set, are what `Spread` says. Assumes nothing.
use mathlib.Core.Path.{◌≡◌, refl, sym, ap, ◌∙◌}
use mathlib.Core.Logic.{◌⊎◌, inl, inr, ⊎_elim}
use mathlib.Core.Bool.{Bool, true, false, ◌||◌}
use mathlib.Core.List.{List}
use Prim.Native.Nat.{ℕ, ◌+◌, ◌-◌, ◌*◌, ◌/◌, ◌≤◌, ◌<◌}
use native.Mathlib.Decide.{dec_lt}
use native.Mathlib.Omega.{arith}
use lib.ListN.{length}
use Rattle.std.proofs.lemmas.Bool.{or_cases, or_right}
use Rattle.nll_spec.specs.Output.{word_bits}
use Rattle.bit_set.specs.Bits.{has, both_fit, joined, grows, or_grows}
use Rattle.bit_set.proofs.BitLaws.{Words}
use Rattle.bit_set.proofs.RunLaws.{and_true_left, both_into, joined_no}
use Rattle.bit_set.proofs.SetLaws.{length-joined, joined-fits, has-joined_other, has-joined, grows-not, grows-new}
use Rattle.infer.specs.Search.{In, Below, Spread}
use Rattle.dfs.proofs.ChainLaws.{at_zero}
use Rattle.infer.proofs.EndLaws.{Holds}

module _ (ws ps : List ℕ) (to n : ℕ) (few : n ≤ 1024) (m : Below ps n) where
  abbrev count : ℕ
  count = (n + 31) / 32

  abbrev ws' : List ℕ
  ws' = joined ws to ps 0 count

  src : 0 + count ≤ length ps
  src = omega (arith, m.sized)

  -- a number of the run is there where it was, or where it is of the points
  in_run : to + count ≤ length ws → (q : ℕ) → q < word_bits * count → has ws' (word_bits * to + q) ≡ (has ws (word_bits * to + q) || has ps q)
  in_run l q lq = has-joined ws to ps 0 count l src q lq ∙ ap (λ (b : Bool). has ws (word_bits * to + q) || b) (at_zero ps q)

  added' : word_bits * to + n ≤ word_bits * length ws → (q : ℕ) → In ps q → has ws' (word_bits * to + q) ≡ true
  added' room q a = in_run (omega (arith, room)) q (omega (arith, m.below q a)) ∙ or_right (has ws (word_bits * to + q)) (has ps q) a

  -- what a number of the words is afterwards
  changed : (j : ℕ) → (has ws' j ≡ has ws j) ⊎ ((to + count ≤ length ws) × ((q : ℕ) × (j ≡ word_bits * to + q) × (q < word_bits * count)))
  changed j = go (both_fit ws to ps 0 count) refl (dec_lt j (word_bits * to)) (dec_lt j (word_bits * (to + count)))
    where
      go : (b : Bool) → both_fit ws to ps 0 count ≡ b → Dec (j < word_bits * to) → Dec (j < word_bits * (to + count))
          → (has ws' j ≡ has ws j) ⊎ ((to + count ≤ length ws) × ((q : ℕ) × (j ≡ word_bits * to + q) × (q < word_bits * count)))
      go false e d k = inl (ap (λ (u : List ℕ). has u j) (sym (joined_no ws to ps 0 count e).0))
      go true e (yes l) k = inl (has-joined_other ws to ps 0 count j (inl l))
      go true e (no l) (no k) = inl (has-joined_other ws to ps 0 count j (inr (omega (arith, k))))
      go true e (no l) (yes k) = inr (both_into ws to ps 0 count e, (j - word_bits * to, omega (arith, l), omega (arith, l, k)))

  kept' : (j : ℕ) → has ws j ≡ true → has ws' j ≡ true
  kept' j e = go (changed j)
    where
      go : (has ws' j ≡ has ws j) ⊎ ((to + count ≤ length ws) × ((q : ℕ) × (j ≡ word_bits * to + q) × (q < word_bits * count))) → has ws' j ≡ true
      go (inl k) = k ∙ e
      go (inr w) = let q = w.1.0 in rw w.1.1 (in_run w.0 q w.1.2 ∙ ap (λ (b : Bool). b || has ps q) (rw w.1.1 at e))

  only' : (j : ℕ) → has ws' j ≡ true → (has ws j ≡ true) ⊎ ((q : ℕ) × (j ≡ word_bits * to + q) × (q < n) × In ps q)
  only' j e = go (changed j)
    where
      go : (has ws' j ≡ has ws j) ⊎ ((to + count ≤ length ws) × ((q : ℕ) × (j ≡ word_bits * to + q) × (q < word_bits * count)))
          → (has ws j ≡ true) ⊎ ((q : ℕ) × (j ≡ word_bits * to + q) × (q < n) × In ps q)
      go (inl k) = inl (sym k ∙ e)
      go (inr w) = pick (or_cases (has ws (word_bits * to + w.1.0)) (has ps w.1.0) (sym (in_run w.0 w.1.0 w.1.2) ∙ ap (has ws') (sym w.1.1) ∙ e))
        where
          pick : (has ws (word_bits * to + w.1.0) ≡ true) ⊎ (has ps w.1.0 ≡ true) → (has ws j ≡ true) ⊎ ((q : ℕ) × (j ≡ word_bits * to + q) × (q < n) × In ps q)
          pick (inl k) = inl (ap (has ws) w.1.1 ∙ k)
          pick (inr k) = inr (w.1.0, w.1.1, m.below w.1.0 k, k)

  pub spreads : Words ws → Words ps → Spread (In ps) n ws ws' to (grows ws to ps 0 count)
  spreads wf pf =
      record {
        as_long = length-joined ws to ps 0 count;
        fits = λ f. joined-fits ws to ps 0 count f pf;
        added = added';
        kept = kept';
        only = only';
        same = λ e j. ap (λ (u : List ℕ). has u j) (grows-not ws to ps 0 count e);
        grew = λ e.
            let w = grows-new ws to ps 0 count wf pf e in
            let q = w.0 in
            let y : has ps q ≡ true = sym (at_zero ps q) ∙ w.3 in
            let l : to + count ≤ length ws = both_into ws to ps 0 count (and_true_left (both_fit ws to ps 0 count) (or_grows ws to ps 0 count) e) in
            (q, m.below q y, y, w.2, in_run l q w.1 ∙ or_right (has ws (word_bits * to + q)) (has ps q) y);
      }

-- the same of a set that has the numbers of A
pub spread_holds : (A : ℕ → Type 0) (ws ws' ps : List ℕ) (to n : ℕ) (r : Bool) → Holds A ps → ((q : ℕ) → A q → q < n) → (Below ps n → Spread (In ps) n ws ws' to r) → Spread A n ws ws' to r
spread_holds A ws ws' ps to n r m below f =
    record {
      as_long = x.as_long;
      fits = x.fits;
      added = λ room q a. x.added room q (m.complete q a);
      kept = x.kept;
      only = λ j e. ⊎_elim (λ k. inl k) (λ k. inr (k.0, k.1, k.2, m.sound k.0 k.3)) (x.only j e);
      same = x.same;
      grew = λ e. let w = x.grew e in (w.0, w.1, m.sound w.0 w.2, w.3, w.4);
    }
  where
    x : Spread (In ps) n ws ws' to r
    x = f (record { sized = m.sized; below = λ q h. below q (m.sound q h) })
