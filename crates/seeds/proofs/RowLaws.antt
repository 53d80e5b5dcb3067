-- Points that are put into rows of words, step by step. Assumes nothing.
use mathlib.Core.Path.{◌≡◌, refl, sym, ap, subst, ◌∙◌}
use mathlib.Core.Logic.{inr, ⊎_elim}
use mathlib.Core.Bool.{Bool, true, false, ◌&&◌, ◌||◌, cond, or-false, or_assoc}
use mathlib.Core.List.{List}
use Prim.Native.Nat.{ℕ, ◌+◌, ◌-◌, ◌*◌, ◌/◌, ◌≤◌, ◌<◌}
use native.Mathlib.Nat.{suc-mul, mul-le-mul_right}
use native.Mathlib.Omega.{arith}
use native.Mathlib.Decide.{ℕ_discrete, dec_lt}
use lib.ListN.{length}
use lib.Seq.{get_or-set_other}
use lib.Dec.{eqb, ltb, leb}
use borrow.Author.Tests.{eq-eqb, ne_eqb, lt-ltb, le-ltb, le-leb, lt-leb}
use Rattle.nll_spec.specs.Output.{word_bits}
use Rattle.bit_set.specs.Bits.{has, with_bit, joined}
use Rattle.bit_set.proofs.BitLaws.{length_with}
use Rattle.bit_set.proofs.SetLaws.{length-joined, joined_outside, has-joined, has-joined_other}
use Rattle.bit_set.proofs.TableLaws.{outside}
use Rattle.record.specs.declared.Head.{Head}
use Rattle.seeds.specs.Seeded.{Room, Adds, end_seed, declared_seed, spreads}
use Rattle.seeds.proofs.AddLaws.{has_one}

pub and_no : (b : Bool) → (b && false) ≡ false
and_no true = refl
and_no false = refl

-- ---- Rows

-- row r's words are among those of n rows
row_inside : (w n r : ℕ) → r < n → r * w + w ≤ n * w
row_inside w n r h = omega (arith, mul-le-mul_right w h, suc-mul r w)

-- ---- Steps

pub adds_none : (w n : ℕ) (g : ℕ → ℕ → Bool) (ws : List ℕ) → ((r p : ℕ) → r < n → p < word_bits * w → g r p ≡ false) → Adds w n g ws ws
adds_none w n g ws h = record { size = refl; others = λ k l. refl; bits = λ r p hr hp. sym (rw (h r p hr hp) (or-false (has ws (word_bits * (r * w) + p)))) }

module _ {w n : ℕ} {g : ℕ → ℕ → Bool} {a b : List ℕ} (x : Adds w n g a b) where
  pub adds_same : (h : ℕ → ℕ → Bool) → ((r p : ℕ) → r < n → p < word_bits * w → g r p ≡ h r p) → Adds w n h a b
  adds_same h e = record { size = x.size; others = x.others; bits = λ r p hr hp. x.bits r p hr hp ∙ ap (λ (q : Bool). has a (word_bits * (r * w) + p) || q) (e r p hr hp) }

  pub adds_then : {h : ℕ → ℕ → Bool} {c : List ℕ} → Adds w n h b c → Adds w n (λ r p. g r p || h r p) a c
  adds_then {h} y = record {
    size = y.size ∙ x.size;
    others = λ k l. y.others k l ∙ x.others k l;
    bits = λ r p hr hp. y.bits r p hr hp ∙ ap (λ (q : Bool). q || h r p) (x.bits r p hr hp) ∙ or_assoc (has a (word_bits * (r * w) + p)) (g r p) (h r p);
  }

-- the union of a run with row r
adds-joined : (w n r : ℕ) (ws fs : List ℕ) (s : ℕ) → r < n → n * w ≤ length ws → s + w ≤ length fs → Adds w n (λ k p. eqb k r && has fs (word_bits * s + p)) ws (joined ws (r * w) fs s w)
adds-joined w n r ws fs s hr hn hs = record {
  size = length-joined ws (r * w) fs s w;
  others = λ k l. joined_outside ws (r * w) fs s w k (inr (omega (arith, l, row_inside w n r hr)));
  bits = λ k p hk hp. go k p hp (ℕ_discrete k r);
}
  where
    go : (k p : ℕ) → p < word_bits * w → Dec (k ≡ r) → has (joined ws (r * w) fs s w) (word_bits * (k * w) + p) ≡ (has ws (word_bits * (k * w) + p) || eqb k r && has fs (word_bits * s + p))
    go k p hp (yes e) = rw (eq-eqb k r e, e) (has-joined ws (r * w) fs s w (omega (arith, hn, row_inside w n r hr)) hs p hp)
    go k p hp (no e) = has-joined_other ws (r * w) fs s w (word_bits * (k * w) + p) (outside w r k p e hp) ∙ sym (rw (ne_eqb k r e) (or-false (has ws (word_bits * (k * w) + p))))

-- a point put into row r
adds-point : (w n r c : ℕ) (ws : List ℕ) → r < n → n * w ≤ length ws → c < word_bits * w → Adds w n (λ k p. eqb k r && eqb p c) ws (with_bit ws (word_bits * (r * w) + c))
adds-point w n r c ws hr hn hc = record {
  size = length_with ws (word_bits * (r * w) + c);
  others = λ k l. get_or-set_other ws ((word_bits * (r * w) + c) / word_bits) k _ 0 (λ e. omega (arith, l, row_inside w n r hr));
  bits = λ k p hk hp. has_one ws (word_bits * (r * w) + c) (word_bits * (k * w) + p) (omega (arith, hn, row_inside w n k hk)) ∙ ap (λ (b : Bool). has ws (word_bits * (k * w) + p) || b) (go k p hp (ℕ_discrete k r));
}
  where
    go : (k p : ℕ) → p < word_bits * w → Dec (k ≡ r) → eqb (word_bits * (k * w) + p) (word_bits * (r * w) + c) ≡ (eqb k r && eqb p c)
    go k p hp (no e) = rw (ne_eqb k r e) (ne_eqb (word_bits * (k * w) + p) (word_bits * (r * w) + c) (λ q. ⊎_elim (λ z. omega arith) (λ z. omega arith) (outside w r k p e hp)))
    go k p hp (yes e) = rw (eq-eqb k r e, e) (same (ℕ_discrete p c))
      where
        same : Dec (p ≡ c) → eqb (word_bits * (r * w) + p) (word_bits * (r * w) + c) ≡ eqb p c
        same (yes q) = eq-eqb (word_bits * (r * w) + p) (word_bits * (r * w) + c) (omega arith) ∙ sym (eq-eqb p c q)
        same (no q) = ne_eqb (word_bits * (r * w) + p) (word_bits * (r * w) + c) (λ z. q (omega arith)) ∙ sym (ne_eqb p c q)

-- what is put in under a condition
adds_if : (w n : ℕ) (g : ℕ → ℕ → Bool) (b : Bool) (ws vs : List ℕ) → Adds w n g ws vs → Adds w n (λ r p. b && g r p) ws (cond b vs ws)
adds_if w n g true ws vs x = x
adds_if w n g false ws vs x = adds_none w n (λ r p. false) ws (λ r p hr hp. refl)

-- ---- Tests

less-more : (k i : ℕ) (x : Bool) → (ltb k i && x || eqb k i && x) ≡ (ltb k (i + 1) && x)
less-more k i x = go (dec_lt k i) (ℕ_discrete k i)
  where
    go : Dec (k < i) → Dec (k ≡ i) → (ltb k i && x || eqb k i && x) ≡ (ltb k (i + 1) && x)
    go (yes l) d = rw (lt-ltb k i l, lt-ltb k (i + 1) (omega arith), ne_eqb k i (λ e. omega arith)) (or-false x)
    go (no l) (yes e) = rw (le-ltb k i (omega arith), lt-ltb k (i + 1) (omega arith), eq-eqb k i e)
    go (no l) (no e) = rw (le-ltb k i (omega arith), le-ltb k (i + 1) (omega (arith, e)), ne_eqb k i e)

-- where k is i, what holds of one holds of the other
at_same : (k i : ℕ) (f : ℕ → Bool) → (eqb k i && f i) ≡ (eqb k i && f k)
at_same k i f = go (ℕ_discrete k i)
  where
    go : Dec (k ≡ i) → (eqb k i && f i) ≡ (eqb k i && f k)
    go (yes e) = ap (λ (z : ℕ). eqb k i && f z) (sym e)
    go (no e) = rw (ne_eqb k i e)

-- ---- Rows one after the other

module _ {w n : ℕ} (i : ℕ) (x : ℕ → ℕ → Bool) {a b : List ℕ} (y : Adds w n (λ k p. ltb k i && x k p) a b) where
  rows_more : {c : List ℕ} → Adds w n (λ k p. eqb k i && x k p) b c → Adds w n (λ k p. ltb k (i + 1) && x k p) a c
  rows_more z = adds_same (adds_then y z) (λ k p. ltb k (i + 1) && x k p) (λ k p hk hp. less-more k i (x k p))

  rows_all : n ≤ i → Adds w n x a b
  rows_all h = adds_same y x (λ k p hk hp. ap (λ (q : Bool). q && x k p) (lt-ltb k i (omega arith)))

-- ---- The live points of a variable

-- The rows from that of the first region that is not declared on, and below i, have got the run that starts at word `from`.
pub record Spreading (h : Head) (names live : List ℕ) (from w i : ℕ) (before ws : List ℕ) : Type 0 where
  pub size : length ws ≡ length before
  pub adds : from + w ≤ length live → h.regions * w ≤ length before
      → Adds w h.regions (λ k p. ltb k i && (leb h.declared k && has names (word_bits * 0 + k) && has live (word_bits * from + p))) before ws

below_none : (k d : ℕ) (x y : Bool) → (ltb k d && (leb d k && x && y)) ≡ false
below_none k d x y = go (dec_lt k d)
  where
    go : Dec (k < d) → (ltb k d && (leb d k && x && y)) ≡ false
    go (yes l) = rw (lt-leb d k l) (and_no (ltb k d))
    go (no l) = rw (le-ltb k d (omega arith))

pub spreading_start : (h : Head) (names live : List ℕ) (from w : ℕ) (ws : List ℕ) → Spreading h names live from w h.declared ws ws
spreading_start h names live from w ws = record {
  size = refl;
  adds = λ e l. adds_none w h.regions _ ws (λ k p hk hp. below_none k h.declared (has names (word_bits * 0 + k)) (has live (word_bits * from + p)));
}

module _ {h : Head} {names live : List ℕ} {from w i : ℕ} {before ws : List ℕ} (x : Spreading h names live from w i before ws) where
  pub spreading_more : {b : Bool} {vs : List ℕ} → h.declared ≤ i → i < h.regions → b ≡ has names (word_bits * 0 + i) → vs ≡ cond b (joined ws (i * w) live from w) ws → Spreading h names live from w (i + 1) before vs
  spreading_more {b} {vs} low hi t e = record {
    size = ap length e ∙ kept b ∙ x.size;
    adds = λ m l.
        rows_more i (λ k p. leb h.declared k && has names (word_bits * 0 + k) && has live (word_bits * from + p)) (x.adds m l)
        (subst (λ (us : List ℕ). Adds w h.regions (λ k p. eqb k i && (leb h.declared k && has names (word_bits * 0 + k) && has live (word_bits * from + p))) ws us) (sym e)
        (adds_same (adds_if w h.regions (λ k p. eqb k i && has live (word_bits * from + p)) b ws (joined ws (i * w) live from w)
        (adds-joined w h.regions i ws live from hi (rw x.size l) m))
        (λ k p. eqb k i && (leb h.declared k && has names (word_bits * 0 + k) && has live (word_bits * from + p)))
        (λ k p hk hp. ap (λ (z : Bool). z && (eqb k i && has live (word_bits * from + p))) t ∙ turn k p (ℕ_discrete k i))));
  }
    where
      kept : (b : Bool) → length (cond b (joined ws (i * w) live from w) ws) ≡ length ws
      kept true = length-joined ws (i * w) live from w
      kept false = refl

      turn : (k p : ℕ) → Dec (k ≡ i) → (has names (word_bits * 0 + i) && (eqb k i && has live (word_bits * from + p))) ≡ (eqb k i && (leb h.declared k && has names (word_bits * 0 + k) && has live (word_bits * from + p)))
      turn k p (yes q) = rw (eq-eqb k i q, q, le-leb h.declared i low)
      turn k p (no q) = rw (ne_eqb k i q) (and_no (has names (word_bits * 0 + i)))

  pub spreading_end : (v : ℕ) → h.regions ≤ i → from ≡ v * w → v < 64 → 64 * w ≤ length live → Room h w before → Adds w h.regions (spreads h.declared names w live v) before ws
  spreading_end v l e hv hl room =
      let end : from + w ≤ length live = omega (arith, e, hl, row_inside w 64 v hv) in
      let y = rows_all i (λ k p. leb h.declared k && has names (word_bits * 0 + k) && has live (word_bits * from + p)) (x.adds end room.words) l in
      adds_same y (spreads h.declared names w live v) (λ k p hk hp. ap (λ (b : ℕ). leb h.declared k && has names (word_bits * 0 + k) && has live (word_bits * b + p)) e)

-- ---- The row of a declared region

-- The ends of the regions below i that region r outlives are put into its row.
pub record Ending (ends : List ℕ) (r w code start i : ℕ) (before ws : List ℕ) : Type 0 where
  pub size : length ws ≡ length before
  pub adds : (m n : ℕ) → r < m → m * w ≤ length before → code + n ≤ word_bits * w → i ≤ n → start ≡ r * w → Adds w m (λ k p. eqb k r && end_seed code i ends r p) before ws

pub ending_start : (ends : List ℕ) (r w code start : ℕ) (ws : List ℕ) → Ending ends r w code start 0 ws ws
ending_start ends r w code start ws = record {
  size = refl;
  adds = λ m n hr hm hn hi e. adds_none w m _ ws (λ k p hk hp. none k p);
}
  where
    none : (k p : ℕ) → (eqb k r && end_seed code 0 ends r p) ≡ false
    none k p = rw (le-ltb (p - code) 0 (omega arith), and_no (leb code p)) (and_no (eqb k r))

-- one end more
end_more : (code i : ℕ) (ends : List ℕ) (r p : ℕ) → (end_seed code i ends r p || has ends (word_bits * r + i) && eqb p (code + i)) ≡ end_seed code (i + 1) ends r p
end_more code i ends r p = go (dec_lt p code) (dec_lt (p - code) i) (ℕ_discrete p (code + i))
  where
    x : Bool
    x = has ends (word_bits * r + (p - code))

    y : Bool
    y = has ends (word_bits * r + i)

    and_yes : (b : Bool) → (b && true) ≡ b
    and_yes true = refl
    and_yes false = refl

    go : Dec (p < code) → Dec (p - code < i) → Dec (p ≡ code + i) → (end_seed code i ends r p || y && eqb p (code + i)) ≡ end_seed code (i + 1) ends r p
    go (yes l) d e = rw (lt-leb code p l, ne_eqb p (code + i) (λ q. omega arith)) (and_no y)
    go (no l) (yes d) e = rw (le-leb code p (omega arith), lt-ltb (p - code) i d, lt-ltb (p - code) (i + 1) (omega arith), ne_eqb p (code + i) (λ q. omega arith)) (ap (λ (b : Bool). x || b) (and_no y) ∙ or-false x)
    go (no l) (no d) (yes e) =
        let q : p - code ≡ i = omega arith in
        rw (le-leb code p (omega arith), le-ltb (p - code) i (omega arith), lt-ltb (p - code) (i + 1) (omega arith), eq-eqb p (code + i) e) (and_yes y ∙ ap (λ (z : ℕ). has ends (word_bits * r + z)) (sym q))
    go (no l) (no d) (no e) = rw (le-leb code p (omega arith), le-ltb (p - code) i (omega arith), le-ltb (p - code) (i + 1) (omega (arith, e)), ne_eqb p (code + i) e) (and_no y)

pub ending_more : {ends : List ℕ} {r w code start i : ℕ} {before ws vs : List ℕ} {b : Bool} → Ending ends r w code start i before ws → b ≡ has ends (word_bits * r + i) → vs ≡ cond b (with_bit ws (word_bits * start + (code + i))) ws → Ending ends r w code start (i + 1) before vs
ending_more {ends} {r} {w} {code} {start} {i} {before} {ws} {vs} {b} x t e = record {
  size = ap length e ∙ kept b ∙ x.size;
  adds = λ m n hr hm hn hi es.
      adds_same
      (adds_then (x.adds m n hr hm hn (omega arith) es)
      (subst (λ (us : List ℕ). Adds w m (λ k p. b && (eqb k r && eqb p (code + i))) ws us) (sym (e ∙ ap (λ (z : ℕ). cond b (with_bit ws (word_bits * z + (code + i))) ws) es))
      (adds_if w m (λ k p. eqb k r && eqb p (code + i)) b ws (with_bit ws (word_bits * (r * w) + (code + i)))
      (adds-point w m r (code + i) ws hr (rw x.size hm) (omega arith)))))
      (λ k p. eqb k r && end_seed code (i + 1) ends r p)
      (λ k p hk hp. ap (λ (z : Bool). eqb k r && end_seed code i ends r p || z && (eqb k r && eqb p (code + i))) t ∙ turn (eqb k r) p);
}
  where
    kept : (b : Bool) → length (cond b (with_bit ws (word_bits * start + (code + i))) ws) ≡ length ws
    kept true = length_with ws (word_bits * start + (code + i))
    kept false = refl

    turn : (b : Bool) (p : ℕ) → (b && end_seed code i ends r p || has ends (word_bits * r + i) && (b && eqb p (code + i))) ≡ (b && end_seed code (i + 1) ends r p)
    turn true p = end_more code i ends r p
    turn false p = and_no (has ends (word_bits * r + i))

pub declared-row : {ends : List ℕ} {r w code start i : ℕ} {mid after : List ℕ} (before walked : List ℕ) (h : Head) → Ending ends r w code start i mid after → mid ≡ joined before start walked 0 w → start ≡ r * w
    → i ≡ h.declared → code ≡ h.code → r < h.regions → length walked ≡ 32 → Room h w before
    → Adds w h.regions (λ k p. eqb k r && declared_seed h.code h.declared walked ends k p) before after
declared-row {ends} {r} {w} {code} {start} {i} {mid} {after} before walked h x f es ei ec hr hw room =
    let lw = room.width in
    let le = room.ends in
    let fit : r * w + w ≤ length before = omega (arith, room.words, row_inside w h.regions r hr) in
    let g : mid ≡ joined before (r * w) walked 0 w = f ∙ ap (λ (z : ℕ). joined before z walked 0 w) es in
    let size : length mid ≡ length before = ap length g ∙ length-joined before (r * w) walked 0 w in
    let one : Adds w h.regions (λ k p. eqb k r && has walked (word_bits * 0 + p)) before mid =
    subst (λ (us : List ℕ). Adds w h.regions (λ k p. eqb k r && has walked (word_bits * 0 + p)) before us) (sym g) (adds-joined w h.regions r before walked 0 hr room.words (omega arith)) in
    adds_same (adds_then one (x.adds h.regions h.declared hr (rw size room.words) (omega arith) (omega arith) es))
    (λ k p. eqb k r && declared_seed h.code h.declared walked ends k p)
    (λ k p hk hp. turn k p)
  where
    shared : (b x y : Bool) → (b && x || b && y) ≡ (b && (x || y))
    shared true x y = refl
    shared false x y = refl

    turn : (k p : ℕ) → (eqb k r && has walked (word_bits * 0 + p) || eqb k r && end_seed code i ends r p) ≡ (eqb k r && declared_seed h.code h.declared walked ends k p)
    turn k p =
        shared (eqb k r) (has walked (word_bits * 0 + p)) (end_seed code i ends r p)
        ∙ ap (λ (z : ℕ). eqb k r && (has walked z || end_seed code i ends r p)) (let q : word_bits * 0 + p ≡ p = omega arith in q)
        ∙ rw (ei, ec) (at_same k r (λ z. declared_seed h.code h.declared walked ends z p))

-- ---- All declared regions

pub room-kept : {h : Head} {w : ℕ} {a b : List ℕ} → length b ≡ length a → Room h w a → Room h w b
room-kept e x = record { declared = x.declared; width = x.width; words = rw e x.words; ends = x.ends }

pub record Filling (h : Head) (walked ends : List ℕ) (w i : ℕ) (before ws : List ℕ) : Type 0 where
  pub size : length ws ≡ length before
  pub adds : Room h w before → Adds w h.regions (λ k p. ltb k i && declared_seed h.code h.declared walked ends k p) before ws

pub filling_start : (h : Head) (walked ends : List ℕ) (w : ℕ) (ws : List ℕ) → Filling h walked ends w 0 ws ws
filling_start h walked ends w ws = record {
  size = refl;
  adds = λ room. adds_none w h.regions _ ws (λ k p hk hp. ap (λ (b : Bool). b && declared_seed h.code h.declared walked ends k p) (le-ltb k 0 (omega arith)));
}

module _ {h : Head} {walked ends : List ℕ} {w i : ℕ} {before ws : List ℕ} (x : Filling h walked ends w i before ws) where
  pub filling_more : {vs : List ℕ} → i < h.declared → length vs ≡ length ws
      → (i < h.regions → Room h w ws → Adds w h.regions (λ k p. eqb k i && declared_seed h.code h.declared walked ends k p) ws vs)
      → Filling h walked ends w (i + 1) before vs
  filling_more hi e f = record {
    size = e ∙ x.size;
    adds = λ room. let d = room.declared in rows_more i (λ k p. declared_seed h.code h.declared walked ends k p) (x.adds room) (f (omega arith) (room-kept x.size room));
  }

  pub filling_end : i ≡ h.declared → Room h w before → Adds w h.regions (λ r p. ltb r h.declared && declared_seed h.code h.declared walked ends r p) before ws
  filling_end e room = subst (λ (z : ℕ). Adds w h.regions (λ r p. ltb r z && declared_seed h.code h.declared walked ends r p) before ws) e (x.adds room)
