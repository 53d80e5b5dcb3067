-- The rows of declared regions are closed: row k is put into each row that has k, for each k. Assumes nothing.
use mathlib.Core.Path.{◌≡◌, refl, sym, ap, ap₂, subst, ◌∙◌}
use mathlib.Core.Logic.{◌⊎◌, inl, inr}
use mathlib.Core.Bool.{Bool, true, false, ◌&&◌, ◌||◌, cond, or-true, or-false}
use mathlib.Core.List.{List, [], ◌∷◌}
use Prim.Native.Nat.{ℕ, zero, suc, ◌+◌, ◌*◌, ◌≤◌, ◌<◌}
use native.Mathlib.Omega.{arith}
use native.Mathlib.Numerals.{add-one}
use native.Mathlib.Decide.{ℕ_discrete, dec_lt}
use lib.ListN.{length, get_or, take, drop}
use lib.Dec.{T, leb, leb→le, eqb, eqb→eq, eqb_refl, ltb, ltb→lt, lt→ltb}
use borrow.Author.Tests.{eq-eqb, ne_eqb, le-leb, lt-ltb, le-ltb}
use Rattle.nll_spec.specs.Lists.{any, every, contains}
use Rattle.nll_spec.specs.Output.{word_bits}
use Rattle.nll_spec.specs.Syntax.{RegionName, Job}
use Rattle.nll_spec.specs.Fixpoint.{holds}
use Rattle.nll_spec.specs.WellFormed.{structs_named, outlived_named, variables_named, successors_named, actions_named, named}
use Rattle.nll_spec.specs.Regions.{outlives_table}
use Rattle.nll_spec.specs.Meaning.{DeclaredOutlives, itself, through}
use Rattle.bit_set.specs.Bits.{has, with_bit, joined_within, cleared, read_first}
use Rattle.bit_set.proofs.SetLaws.{length-within, has_within, has-within_other, has-cleared, length-cleared}
use Rattle.bit_set.proofs.BitLaws.{length_with, has_with_other}
use Rattle.seeds.specs.Chosen.{add_all}
use Rattle.seeds.specs.Closure.{linked, passed, closed, Listed, Listing, Ends}
use Rattle.seeds.proofs.AddLaws.{length_add, has_add, has-added, has_one, bytes-are}
use Rattle.nll_spec.specs.Decode.{byte, count, counted, max_outlived}
use Rattle.nll_spec.proofs.Tests.{or_left, or_right, or_cases, and_intro, and_left, and_right}
use Rattle.nll_spec.proofs.Lookup.{every-at}
use Rattle.nll_spec.proofs.Least.{same_bool}
use Rattle.nll_spec.proofs.SeedLaws.{outlives_table_lem, outlived_declared, table_outlives}
use Rattle.repr.specs.Reading as reading
use Rattle.repr.specs.Reading.{rest, says}
use Rattle.repr.specs.declared.refusal.Refusal.{Refusal}
use Rattle.std.specs.Prelude.{Result, Ok, Err}
use Rattle.repr.specs.declared.Cursor.{Cursor}
use Rattle.repr.proofs.ReadLaws.{step}
use Rattle.repr.specs.Stands.{Stands}
use Rattle.record.specs.Layout.{Holds}
use Rattle.record.specs.declared.Record.{Record}
use Rattle.record.proofs.AccessLaws.{outlives-at}
use Rattle.repr.proofs.SpellLaws.{clash, then}

-- ---- The loop

pub pass-more : (n k : ℕ) (ws us : List ℕ) {vs : List ℕ} → us ≡ passed n k ws → vs ≡ linked us n k → vs ≡ passed (n + 1) k ws
pass-more n k ws us e f = rw (add-one, ← e) f

pub close_more : (n m : ℕ) (ws us : List ℕ) {vs : List ℕ} → us ≡ closed n m ws → vs ≡ passed n m us → vs ≡ closed n (m + 1) ws
close_more n m ws us e f = rw (add-one, ← e) f

-- ---- One row, and all

cond_list : (P : List ℕ → Type 0) (b : Bool) (x y : List ℕ) → P x → P y → P (cond b x y)
cond_list P true x y px py = px
cond_list P false x y px py = py

length-linked : (ws : List ℕ) (r k : ℕ) → length (linked ws r k) ≡ length ws
length-linked ws r k = cond_list (λ (l : List ℕ). length l ≡ length ws) (has ws (word_bits * r + k)) (joined_within ws r k 1) ws (length-within ws r k 1) refl

length-passed : (n k : ℕ) (ws : List ℕ) → length (passed n k ws) ≡ length ws
length-passed zero k ws = refl
length-passed (suc n) k ws = length-linked (passed n k ws) n k ∙ length-passed n k ws

-- of two words, each is read first
words-first : (r k : ℕ) → read_first r k 1 ≡ true
words-first r k = go (dec_lt k r)
  where
    go : Dec (k < r) → read_first r k 1 ≡ true
    go (yes l) = rw (le-leb (k + 1) r (omega arith)) (or-true (leb r k))
    go (no l) = rw (le-leb r k (omega arith))

module _ (ws : List ℕ) (r k : ℕ) where
  linked-has : r < length ws → k < length ws → (e : ℕ) → e < word_bits → has (linked ws r k) (word_bits * r + e) ≡ (has ws (word_bits * r + e) || has ws (word_bits * r + k) && has ws (word_bits * k + e))
  linked-has hr hk e he = go (has ws (word_bits * r + k))
    where
      go : (b : Bool) → has (cond b (joined_within ws r k 1) ws) (word_bits * r + e) ≡ (has ws (word_bits * r + e) || b && has ws (word_bits * k + e))
      go true = has_within ws r k 1 (words-first r k) (omega arith) (omega arith) e (omega arith)
      go false = sym (or-false (has ws (word_bits * r + e)))

  linked_other : (m e : ℕ) → (m ≡ r → ⊥) → e < word_bits → has (linked ws r k) (word_bits * m + e) ≡ has ws (word_bits * m + e)
  linked_other m e ne he = cond_list (λ (l : List ℕ). has l (word_bits * m + e) ≡ has ws (word_bits * m + e)) (has ws (word_bits * r + k)) (joined_within ws r k 1) ws
      (has-within_other ws r k 1 (word_bits * m + e) (apart (dec_lt m r))) refl
    where
      apart : Dec (m < r) → (word_bits * m + e < word_bits * r) ⊎ (word_bits * (r + 1) ≤ word_bits * m + e)
      apart (yes l) = inl (omega arith)
      apart (no l) = inr (omega (arith, ne))

absorb : (a b : Bool) → (a || b && a) ≡ a
absorb true b = refl
absorb false true = refl
absorb false false = refl

-- what row r has after the rows below n
record Row (ws : List ℕ) (k n r e : ℕ) : Type 0 where
  before : r < n → has (passed n k ws) (word_bits * r + e) ≡ (has ws (word_bits * r + e) || has ws (word_bits * r + k) && has ws (word_bits * k + e))
  after : n ≤ r → has (passed n k ws) (word_bits * r + e) ≡ has ws (word_bits * r + e)

module _ (ws : List ℕ) (k : ℕ) (hk : k < length ws) (small : k < word_bits) where
  -- row k is as it was
  row_kept : (n e : ℕ) → Row ws k n k e → has (passed n k ws) (word_bits * k + e) ≡ has ws (word_bits * k + e)
  row_kept n e w = go (dec_lt k n)
    where
      go : Dec (k < n) → has (passed n k ws) (word_bits * k + e) ≡ has ws (word_bits * k + e)
      go (yes l) = w.before l ∙ absorb (has ws (word_bits * k + e)) (has ws (word_bits * k + k))
      go (no l) = w.after (omega arith)

  row_more : (n r e : ℕ) → n < length ws → r < length ws → e < word_bits → Row ws k n r e → Row ws k n r k → Row ws k n k e → Row ws k (suc n) r e
  row_more n r e hn hr he w wk kw = record { before = λ l. go (ℕ_discrete r n) l; after = λ l. linked_other (passed n k ws) n k r e (λ q. omega arith) he ∙ w.after (omega arith) }
    where
      go : Dec (r ≡ n) → r < suc n → has (passed (suc n) k ws) (word_bits * r + e) ≡ (has ws (word_bits * r + e) || has ws (word_bits * r + k) && has ws (word_bits * k + e))
      go (no q) l = linked_other (passed n k ws) n k r e q he ∙ w.before (omega (arith, q))
      go (yes q) l =
          ap (λ (i : ℕ). has (linked (passed n k ws) i k) (word_bits * r + e)) (sym q)
          ∙ linked-has (passed n k ws) r k (rw length-passed hr) (rw length-passed hk) e he
          ∙ ap₂ (λ (x y : Bool). x || y) (w.after (omega arith)) (ap₂ (λ (x y : Bool). x && y) (wk.after (omega arith)) (row_kept n e kw))

  passed-row : (n r e : ℕ) → n ≤ length ws → r < length ws → e < word_bits → Row ws k n r e
  passed-row zero r e hn hr he = record { before = λ l. absurd (omega arith); after = λ l. refl }
  passed-row (suc n) r e hn hr he = row_more n r e hn hr he (passed-row n r e (omega arith) hr he) (passed-row n r k (omega arith) hr small) (passed-row n k e (omega arith) hk he)

-- ---- What is listed

module _ (input : Record) (at r : ℕ) (i : at ≡ get_or input.layout.now.outlives r 0) where
  row-stands : {j : Job} → Holds input j → r < length j.outlives → Stands (counted max_outlived byte) (get_or j.outlives r []) (drop at input.bytes.now)
  row-stands w l = rw i (outlives-at w r [] l)

  module _ (d : Result (ℕ × Cursor) Refusal) (m : says reading.itself input.bytes.now d ≡ count 0 16 (drop at input.bytes.now)) where
    pub listed_refused : {k : Refusal} (ws vs : List ℕ) → d ≡ Err k → (j : Job) → Holds input j → r < length j.outlives → vs ≡ add_all ws r (get_or j.outlives r [])
    unfolding counted
    listed_refused ws vs e j w l = absurd (let y = then (count 0 max_outlived) _ (drop at input.bytes.now) (row-stands w l).reads in clash (sym (ap (says reading.itself input.bytes.now) e) ∙ m ∙ y.first))

    pub listed_row : {n : ℕ} {c : Cursor} (row : ℕ) (ws us : List ℕ) {vs : List ℕ} → d ≡ Ok (n, c) → row ≡ r → us ≡ with_bit ws (word_bits * row + row)
        → vs ≡ add_all us row (take n (rest input.bytes.now c))
        → (j : Job) → Holds input j → r < length j.outlives → vs ≡ add_all (with_bit ws (word_bits * r + r)) r (get_or j.outlives r [])
    unfolding counted
    listed_row {n = n} {c = c} row ws us e k f g j w l =
        let y = row-stands w l in
        g
        ∙ ap (add_all us row) (bytes-are n (rest input.bytes.now c) (sym (step (count 0 max_outlived) _ (drop at input.bytes.now) (sym m ∙ ap (says reading.itself input.bytes.now) e)) ∙ y.reads))
        ∙ rw (f, k)

-- none of some small numbers is put into another row
none_other : (r i e : ℕ) (xs : List ℕ) → (r ≡ i → ⊥) → e < word_bits → T (every (λ x. ltb x word_bits) xs) → any (λ x. eqb (word_bits * r + e) (word_bits * i + x)) xs ≡ false
none_other r i e [] ne he a = refl
none_other r i e (x ∷ xs) ne he a =
    let l : x < word_bits = ltb→lt x word_bits (and_left (ltb x word_bits) (every (λ x. ltb x word_bits) xs) a) in
    ap₂ (λ (p q : Bool). p || q) (ne_eqb (word_bits * r + e) (word_bits * i + x) (λ q. ne (omega arith))) (none_other r i e xs ne he (and_right (ltb x word_bits) (every (λ x. ltb x word_bits) xs) a))

every-less : (n m : ℕ) (xs : List ℕ) → n ≤ m → T (every (λ x. ltb x n) xs) → T (every (λ x. ltb x m) xs)
every-less n m [] h a = tt
every-less n m (x ∷ xs) h a =
    let l : x < n = ltb→lt x n (and_left (ltb x n) (every (λ x. ltb x n) xs) a) in
    and_intro (ltb x m) (every (λ x. ltb x m) xs) (lt→ltb x m (omega arith)) (every-less n m xs h (and_right (ltb x n) (every (λ x. ltb x n) xs) a))

module _ (j : Job) (valid : T (outlived_named j)) (few : length j.outlives ≤ 16) where
  -- the numbers of a list are small
  small : (i : ℕ) → i < length j.outlives → T (every (λ x. ltb x word_bits) (get_or j.outlives i []))
  unfolding outlived_named
  small i l = every-less (length j.outlives) word_bits (get_or j.outlives i []) (omega arith) (every-at (every (λ x. ltb x (length j.outlives))) j.outlives i [] valid l)

  listed_more : (i : ℕ) (ws vs : List ℕ) → i < length j.outlives → Listed j i ws → vs ≡ add_all (with_bit ws (word_bits * i + i)) i (get_or j.outlives i []) → Listed j (i + 1) vs
  listed_more i ws vs l w f = record {
    size = ap length f ∙ length_add (with_bit ws (word_bits * i + i)) i xs ∙ length_with ws (word_bits * i + i) ∙ w.size;
    bits = λ r e hr he. ap (λ (u : List ℕ). has u (word_bits * r + e)) f ∙ go r e hr he (ℕ_discrete r i);
  }
    where
      xs : List ℕ
      xs = get_or j.outlives i []

      room : length (with_bit ws (word_bits * i + i)) ≡ 16
      room = length_with ws (word_bits * i + i) ∙ w.size

      less : (r : ℕ) → (r ≡ i → ⊥) → Dec (r < i) → ltb r i ≡ ltb r (i + 1)
      less r ne (yes k) = lt-ltb r i k ∙ sym (lt-ltb r (i + 1) (omega arith))
      less r ne (no k) = le-ltb r i (omega arith) ∙ sym (le-ltb r (i + 1) (omega (arith, ne)))

      same : (e : ℕ) → Dec (e ≡ i) → eqb (word_bits * i + e) (word_bits * i + i) ≡ eqb e i
      same e (yes q) = eq-eqb (word_bits * i + e) (word_bits * i + i) (omega arith) ∙ sym (eq-eqb e i q)
      same e (no q) = ne_eqb (word_bits * i + e) (word_bits * i + i) (λ k. q (omega arith)) ∙ sym (ne_eqb e i q)

      own : (e : ℕ) → e < word_bits → has (add_all (with_bit ws (word_bits * i + i)) i xs) (word_bits * i + e) ≡ (eqb e i || contains xs e)
      own e he =
          has-added (with_bit ws (word_bits * i + i)) i xs e (omega (arith, room))
          ∙ ap (λ (b : Bool). b || contains xs e)
          (has_one ws (word_bits * i + i) (word_bits * i + e) (omega (arith, w.size))
          ∙ ap₂ (λ (a b : Bool). a || b) (w.bits i e (omega arith) he ∙ ap (λ (b : Bool). b && (eqb e i || contains (get_or j.outlives i []) e)) (le-ltb i i (omega arith))) (same e (ℕ_discrete e i)))

      go : (r e : ℕ) → r < 16 → e < word_bits → Dec (r ≡ i) → has (add_all (with_bit ws (word_bits * i + i)) i xs) (word_bits * r + e) ≡ (ltb r (i + 1) && (eqb e r || contains (get_or j.outlives r []) e))
      go r e hr he (yes q) = rw (q, lt-ltb i (i + 1) (omega arith)) (own e he)
      go r e hr he (no q) =
          has_add (with_bit ws (word_bits * i + i)) i xs (word_bits * r + e) (omega (arith, room))
          ∙ ap₂ (λ (a b : Bool). a || b) (has_with_other ws (word_bits * i + i) (word_bits * r + e) (λ k. q (omega arith)) ∙ w.bits r e hr he) (none_other r i e xs q he (small i l))
          ∙ or-false (ltb r i && (eqb e r || contains (get_or j.outlives r []) e))
          ∙ ap (λ (b : Bool). b && (eqb e r || contains (get_or j.outlives r []) e)) (less r q (dec_lt r i))

  -- ---- The closure

  -- The rows say no more than what is outlived, have what is listed, and lead through each number below k.
  record Closing (k : ℕ) (ws : List ℕ) : Type 0 where
    size : length ws ≡ 16
    sound : (r e : ℕ) → r < length j.outlives → e < length j.outlives → T (has ws (word_bits * r + e)) → DeclaredOutlives j r e
    own : (r : ℕ) → r < length j.outlives → T (has ws (word_bits * r + r))
    listed : (r e : ℕ) → r < length j.outlives → e < length j.outlives → T (contains (get_or j.outlives r []) e) → T (has ws (word_bits * r + e))
    trans : (m r e : ℕ) → m < k → r < length j.outlives → e < length j.outlives → T (has ws (word_bits * r + m)) → T (has ws (word_bits * m + e)) → T (has ws (word_bits * r + e))

  outlives_trans : (r m e : RegionName) → DeclaredOutlives j r m → DeclaredOutlives j m e → DeclaredOutlives j r e
  outlives_trans r m e d itself = d
  outlives_trans r m e d (through {m = n} f c) = through (outlives_trans r m n d f) c

  closing_start : (ws : List ℕ) → Listed j (length j.outlives) ws → Closing 0 ws
  closing_start ws w = record {
    size = w.size;
    sound = λ r e hr he a. go r e (or_cases (eqb e r) (contains (get_or j.outlives r []) e) (subst T (is r e hr he) a));
    own = λ r hr. subst T (sym (is r r hr hr)) (or_left (eqb r r) (contains (get_or j.outlives r []) r) (eqb_refl r));
    listed = λ r e hr he a. subst T (sym (is r e hr he)) (or_right (eqb e r) (contains (get_or j.outlives r []) e) a);
    trans = λ m r e l hr he a b. absurd (omega arith);
  }
    where
      is : (r e : ℕ) → r < length j.outlives → e < length j.outlives → has ws (word_bits * r + e) ≡ (eqb e r || contains (get_or j.outlives r []) e)
      is r e hr he = w.bits r e (omega arith) (omega arith) ∙ ap (λ (b : Bool). b && (eqb e r || contains (get_or j.outlives r []) e)) (lt-ltb r (length j.outlives) hr)

      go : (r e : ℕ) → T (eqb e r) ⊎ T (contains (get_or j.outlives r []) e) → DeclaredOutlives j r e
      go r e (inl q) = subst (DeclaredOutlives j r) (sym (eqb→eq e r q)) itself
      go r e (inr c) = through itself c

  closing_more : (k : ℕ) (ws : List ℕ) → k < length j.outlives → Closing k ws → Closing (suc k) (passed (length j.outlives) k ws)
  closing_more k ws hk w = record {
    size = length-passed n k ws ∙ w.size;
    sound = λ r e hr he a. elim (from r e hr he a) [ inl q ↦ w.sound r e hr he q | inr q ↦ outlives_trans r k e (w.sound r k hr hk q.0) (w.sound k e hk he q.1) ];
    own = λ r hr. to r r hr hr (inl (w.own r hr));
    listed = λ r e hr he a. to r e hr he (inl (w.listed r e hr he a));
    trans = λ m r e l hr he a b. led m r e (ℕ_discrete m k) l hr he a b;
  }
    where
      n : ℕ
      n = length j.outlives

      is : (r e : ℕ) → r < n → e < n → has (passed n k ws) (word_bits * r + e) ≡ (has ws (word_bits * r + e) || has ws (word_bits * r + k) && has ws (word_bits * k + e))
      is r e hr he = (passed-row ws k (omega (arith, w.size)) (omega arith) n r e (omega (arith, w.size)) (omega (arith, w.size)) (omega arith)).before hr

      from : (r e : ℕ) → r < n → e < n → T (has (passed n k ws) (word_bits * r + e)) → T (has ws (word_bits * r + e)) ⊎ (T (has ws (word_bits * r + k)) × T (has ws (word_bits * k + e)))
      from r e hr he a = go (or_cases (has ws (word_bits * r + e)) (has ws (word_bits * r + k) && has ws (word_bits * k + e)) (subst T (is r e hr he) a))
        where
          go : T (has ws (word_bits * r + e)) ⊎ T (has ws (word_bits * r + k) && has ws (word_bits * k + e)) → T (has ws (word_bits * r + e)) ⊎ (T (has ws (word_bits * r + k)) × T (has ws (word_bits * k + e)))
          go (inl q) = inl q
          go (inr q) = inr (and_left (has ws (word_bits * r + k)) (has ws (word_bits * k + e)) q, and_right (has ws (word_bits * r + k)) (has ws (word_bits * k + e)) q)

      to : (r e : ℕ) → r < n → e < n → T (has ws (word_bits * r + e)) ⊎ (T (has ws (word_bits * r + k)) × T (has ws (word_bits * k + e))) → T (has (passed n k ws) (word_bits * r + e))
      to r e hr he (inl q) = subst T (sym (is r e hr he)) (or_left (has ws (word_bits * r + e)) (has ws (word_bits * r + k) && has ws (word_bits * k + e)) q)
      to r e hr he (inr q) =
          subst T (sym (is r e hr he))
          (or_right (has ws (word_bits * r + e)) (has ws (word_bits * r + k) && has ws (word_bits * k + e)) (and_intro (has ws (word_bits * r + k)) (has ws (word_bits * k + e)) q.0 q.1))

      led : (m r e : ℕ) → Dec (m ≡ k) → m < suc k → r < n → e < n → T (has (passed n k ws) (word_bits * r + m)) → T (has (passed n k ws) (word_bits * m + e)) → T (has (passed n k ws) (word_bits * r + e))
      led m r e (yes q) l hr he a b =
          let hm : m < n = omega arith in
          to r e hr he (inr (into (from r m hr hm a), onto (from m e hm he b)))
        where
          into : T (has ws (word_bits * r + m)) ⊎ (T (has ws (word_bits * r + k)) × T (has ws (word_bits * k + m))) → T (has ws (word_bits * r + k))
          into (inl x) = subst (λ (i : ℕ). T (has ws (word_bits * r + i))) q x
          into (inr x) = x.0

          onto : T (has ws (word_bits * m + e)) ⊎ (T (has ws (word_bits * m + k)) × T (has ws (word_bits * k + e))) → T (has ws (word_bits * k + e))
          onto (inl x) = subst (λ (i : ℕ). T (has ws (word_bits * i + e))) q x
          onto (inr x) = x.1
      led m r e (no q) l hr he a b =
          let hm : m < n = omega arith in
          to r e hr he (join (from r m hr hm a) (from m e hm he b))
        where
          lm : m < k
          lm = omega (arith, q)

          join : T (has ws (word_bits * r + m)) ⊎ (T (has ws (word_bits * r + k)) × T (has ws (word_bits * k + m))) → T (has ws (word_bits * m + e)) ⊎ (T (has ws (word_bits * m + k)) × T (has ws (word_bits * k + e)))
              → T (has ws (word_bits * r + e)) ⊎ (T (has ws (word_bits * r + k)) × T (has ws (word_bits * k + e)))
          join (inl x) (inl y) = inl (w.trans m r e lm hr he x y)
          join (inl x) (inr y) = inr (w.trans m r k lm hr hk x y.0, y.1)
          join (inr x) (inl y) = inr (x.0, w.trans m k e lm hk he x.1 y)
          join (inr x) (inr y) = inr (x.0, y.1)

  closing_all : (ws : List ℕ) → Closing 0 ws → (k : ℕ) → k ≤ length j.outlives → Closing k (closed (length j.outlives) k ws)
  closing_all ws w zero h = w
  closing_all ws w (suc k) h = closing_more k (closed (length j.outlives) k ws) h (closing_all ws w k (omega arith))

  complete : (ws : List ℕ) → Closing (length j.outlives) ws → (r e : ℕ) → r < length j.outlives → DeclaredOutlives j r e → T (has ws (word_bits * r + e))
  complete ws w r e hr itself = w.own r hr
  complete ws w r e hr (through {m = m} d c) =
      let hm = outlived_declared j valid r m hr d in
      let he = outlived_declared j valid r e hr (through d c) in
      w.trans m r e hm hr he (complete ws w r m hr d) (w.listed m e hm he c)

  closed_is : (ws : List ℕ) → Listed j (length j.outlives) ws → (r e : ℕ) → r < length j.outlives → e < length j.outlives
      → has (closed (length j.outlives) (length j.outlives) ws) (word_bits * r + e) ≡ holds (outlives_table j) r e
  closed_is ws l r e hr he =
      let w = closing_all ws (closing_start ws l) (length j.outlives) (omega arith) in
      same_bool (has (closed (length j.outlives) (length j.outlives) ws) (word_bits * r + e)) (holds (outlives_table j) r e)
      (λ a. table_outlives j valid r e hr (w.sound r e hr he a)) (λ a. complete _ w r e hr (outlives_table_lem j r e a))

-- what is needed of refusal 6
named_parts : (j : Job) → T (named j) → T (leb (length j.outlives) j.regions) × T (outlived_named j)
unfolding named
named_parts j a = go (leb (length j.outlives) j.regions) (structs_named j) (outlived_named j) (variables_named j) (successors_named j) (ltb j.start (length j.blocks)) (actions_named j) a
  where
    go : (a b c d e f g : Bool) → T (a && b && c && d && e && f && g) → T a × T c
    go true true true d e f g x = (tt, tt)
    go true true false true e f g x = absurd x
    go true true false false e f g x = absurd x
    go true false c d e f g x = absurd x
    go false b c d e f g x = absurd x

pub declared-named : (j : Job) → T (named j) → length j.outlives ≤ j.regions
declared-named j a = leb→le (length j.outlives) j.regions (named_parts j a).0

module _ {input : Record} where
  pub listing_start : (ws : List ℕ) {us : List ℕ} → length ws ≡ 16 → us ≡ cleared ws 0 16 → Listing input 0 us
  listing_start ws e f = record {
    turns = omega arith;
    says = λ j w a. record {
      size = ap length f ∙ length-cleared ws 0 16 ∙ e;
      bits = λ r x hr hx.
          ap (λ (u : List ℕ). has u (word_bits * r + x)) f
          ∙ ap (has (cleared ws 0 16)) (let q : word_bits * r + x ≡ word_bits * 0 + (word_bits * r + x) = omega arith in q)
          ∙ has-cleared ws 0 16 (omega arith) (word_bits * r + x) (omega arith)
          ∙ sym (ap (λ (b : Bool). b && (eqb x r || contains (get_or j.outlives r []) x)) (le-ltb r 0 (omega arith)));
    };
  }

  pub listing-more : {i : ℕ} {ws vs : List ℕ} → Listing input i ws → i < input.head.declared
      → ((j : Job) → Holds input j → i < length j.outlives → vs ≡ add_all (with_bit ws (word_bits * i + i)) i (get_or j.outlives i [])) → Listing input (i + 1) vs
  listing-more {i} {ws} {vs} l k f = record {
    turns = omega arith;
    says = λ j w a.
        let hi : i < length j.outlives = omega (arith, w.declared_count) in
        listed_more j (named_parts j a).1 (omega (arith, w.declared_count, w.declared_limit)) i ws vs hi (l.says j w a) (f j w hi);
  }

  pub ends-are : {ws vs : List ℕ} (n : ℕ) → Listing input input.head.declared ws → n ≡ input.head.declared → vs ≡ closed n n ws → Ends input vs
  ends-are {ws} n l e f = record {
    bits = λ j w a r x hr hx.
        let k : n ≡ length j.outlives = e ∙ sym w.declared_count in
        ap (λ (u : List ℕ). has u (word_bits * r + x)) (f ∙ ap (λ (i : ℕ). closed i i ws) k)
        ∙ closed_is j (named_parts j a).1 (omega (arith, w.declared_count, w.declared_limit)) ws (subst (λ (i : ℕ). Listed j i ws) (sym w.declared_count) (l.says j w a)) r x hr hx;
  }
