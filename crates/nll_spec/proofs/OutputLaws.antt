-- What a call leaves: a refusal both buffers as they were (demand 1, `refuses`), an accepting call the answer (`written`), and what the words and bytes of
-- the answer say: the sets, the verdicts, the grown regions, and no other bit.
-- Assumes nothing.
use mathlib.Core.Path.{◌≡◌, refl, sym, ◌∙◌, subst, ap}
use mathlib.Core.Bool.{Bool, true, false, ◌&&◌, cond}
use mathlib.Core.List.{List, [], ◌∷◌, ◌++◌, map, append_assoc}
use Prim.Native.Nat.{ℕ, zero, suc, ◌+◌, ◌-◌, ◌*◌, ◌<◌, ◌≤◌}
use native.Mathlib.Nat.{not-suc-le-zero, le_of_suc-le-suc}
use native.Mathlib.Omega.{arith}
use native.Mathlib.Decide.{dec_lt}
use lib.ListN.{length, get_or, drop, length-append, length-drop, length-map, get_or-append, get_or-eq_default, get_or-map}
use lib.Seq.{length-take-le, get_or-take, get_or-drop, get_or-append-add}
use lib.Dec.{leb, ltb, ltb→lt, eqb, lt→ltb}
use borrow.Author.Tests.{leb-true, leb-false}
use Rattle.nll_spec.specs.Lists.{gather, below}
use Rattle.nll_spec.specs.Fixpoint.{Table, holds, least}
use Rattle.nll_spec.specs.Syntax.{Job, Point, RegionName}
use Rattle.nll_spec.specs.Decode.{Decoded, rejected, decoded, decode, point_count}
use Rattle.nll_spec.specs.WellFormed.{named, types_fit, paths_fit, shapes_fit, refusal}
use Rattle.nll_spec.specs.Graph.{graph_of}
use Rattle.nll_spec.specs.Constraints.{constraints_of}
use Rattle.nll_spec.specs.Regions.{EndRule, seed_table, region_rule, solve, is_grown}
use Rattle.nll_spec.specs.Loans.{loans_of}
use Rattle.nll_spec.specs.Access.{Verdict, no_fault, verdict_at}
use Rattle.nll_spec.specs.Output.{Outcome, answer, word_bits, bit, word_count, words_of, verdict_bytes, bytes_of, words_needed, bytes_needed, overwrite, unchanged, write, judge_job, judge, analyse}
use Rattle.nll_spec.specs.Meaning.{Room, Refuses, bit_of, sets_in, verdict_in, Kept}
use Rattle.nll_spec.proofs.Tests.{is_true, is_false, length-count_from}
use Rattle.nll_spec.proofs.Lookup.{get_or-map-below}
use Rattle.nll_spec.proofs.Least.{Sized, sized-least}
use Rattle.nll_spec.proofs.WordLaws.{length-rows, row-bit}
use Rattle.nll_spec.proofs.DecodeLaws.{RefusedWithin, decode-refuses}
use Rattle.nll_spec.proofs.Names.{sets_of, scope_of}

-- ---- Lengths

pub points-of : (j : Job) → (graph_of j).points ≡ point_count j
unfolding graph_of
points-of j = refl

-- The sets' table has a row for each region and a column for each point.
pub sized-sets : (ends : EndRule) (j : Job) → Sized j.regions (graph_of j).points (sets_of ends j)
unfolding solve
sized-sets ends j =
    record {
      rows = length-take-le j.regions full (omega (arith, s.rows));
      columns = λ r h. ap (λ (row : List Bool). length row) (get_or-take j.regions full r [] h) ∙ s.columns r (omega arith) ∙ length-count_from 0 (graph_of j).points;
    }
  where
    rows : ℕ
    rows = j.regions + length (constraints_of j (graph_of j))

    full : Table
    full = least rows (below (graph_of j).points) (region_rule ends (graph_of j) j.regions (seed_table j (graph_of j)) (constraints_of j (graph_of j)))

    s : Sized rows (length (below (graph_of j).points)) full
    s = sized-least (region_rule ends (graph_of j) j.regions (seed_table j (graph_of j)) (constraints_of j (graph_of j))) rows (below (graph_of j).points)

pub length-words_of : (ends : EndRule) (j : Job) → length (words_of (answer ends j)) ≡ words_needed j
unfolding words_of answer words_needed graph_of
length-words_of ends j = length-rows (word_count (point_count j)) (sets_of ends j) ∙ ap (λ (n : ℕ). n * word_count (point_count j)) (sized-sets ends j).rows

-- the bytes of verdicts
abbrev pairs : List Verdict → List ℕ
pairs vs = gather (λ v. v.kind ∷ v.operand ∷ []) vs

length_pairs : (vs : List Verdict) → length (pairs vs) ≡ verdict_bytes * length vs
length_pairs [] = refl
length_pairs (v ∷ vs) = omega (arith, length_pairs vs)

abbrev verdicts_of : EndRule → Job → List Verdict
verdicts_of ends j = map (verdict_at j (graph_of j) (scope_of ends j) (loans_of (graph_of j))) (below (graph_of j).points)

abbrev grown_of : EndRule → Job → List Bool
grown_of ends j = map (is_grown (graph_of j) (seed_table j (graph_of j)) (sets_of ends j)) (below (length j.outlives))

length-verdicts : (ends : EndRule) (j : Job) → length (pairs (verdicts_of ends j)) ≡ verdict_bytes * point_count j
length-verdicts ends j = length_pairs (verdicts_of ends j) ∙ rw (length-map, length-count_from) (ap (λ (n : ℕ). verdict_bytes * n) (points-of j))

length-grown : (ends : EndRule) (j : Job) → length (map bit (grown_of ends j)) ≡ length j.outlives
length-grown ends j = rw (length-map, length-map, length-count_from)

pub length-bytes_of : (ends : EndRule) (j : Job) → length (bytes_of (answer ends j)) ≡ bytes_needed j
unfolding bytes_of answer bytes_needed
length-bytes_of ends j = length-append (pairs (verdicts_of ends j)) (map bit (grown_of ends j)) ∙ rw (length-verdicts, length-grown)

-- ---- Overwriting

length-overwrite : (new old : List ℕ) → length new ≤ length old → length (overwrite new old) ≡ length old
length-overwrite new old h = length-append new (drop (length new) old) ∙ rw length-drop (omega arith)

overwrite-tail : (new old : List ℕ) (i : ℕ) → length new ≤ i → get_or (overwrite new old) i 0 ≡ get_or old i 0
overwrite-tail new old i h =
    ap (λ (k : ℕ). get_or (overwrite new old) k 0) e ∙ get_or-append-add new (drop (length new) old) (i - length new) 0
    ∙ get_or-drop (length new) old (i - length new) 0 ∙ ap (λ (k : ℕ). get_or old k 0) (sym e)
  where
    e : i ≡ length new + (i - length new)
    e = omega arith

-- ---- The two outcomes of a call

refusal-within : (j : Job) → refusal j ≤ 9
unfolding refusal
refusal-within j = go (named j) (types_fit j) (paths_fit j) (shapes_fit j)
  where
    go : (a b c d : Bool) → cond a (cond b (cond c (cond d 0 9) 8) 7) 6 ≤ 9
    go true true true true = omega arith
    go true true true false = omega arith
    go true true false d = omega arith
    go true false c d = omega arith
    go false b c d = omega arith

-- What a call leaves: refusals 1 to 9, refusal 10 where the room is missing, or the answer to a job for which there is room.
pub data Leaves (ends : EndRule) (input ws bs : List ℕ) : Outcome → Type 0 where
  rejecting : (n : ℕ) → judge input ≡ rejected n → 0 < n → n ≤ 9 → Leaves ends input ws bs (unchanged n ws bs)
  overfull : (j : Job) → judge input ≡ decoded j → (Room j ws bs → ⊥) → Leaves ends input ws bs (unchanged 10 ws bs)
  accepting : (j : Job) → judge input ≡ decoded j → decode input ≡ decoded j → refusal j ≡ 0 → Room j ws bs
      → Leaves ends input ws bs (record { number = 0; words = overwrite (words_of (answer ends j)) ws; bytes = overwrite (bytes_of (answer ends j)) bs })

module _ (ends : EndRule) (input ws bs : List ℕ) where
  write-leaves : (j : Job) → judge input ≡ decoded j → decode input ≡ decoded j → refusal j ≡ 0 → Leaves ends input ws bs (write ends j ws bs)
  unfolding write
  write-leaves j q e r = go (leb (words_needed j) (length ws)) (leb (bytes_needed j) (length bs)) refl refl
    where
      go : (a b : Bool) → leb (words_needed j) (length ws) ≡ a → leb (bytes_needed j) (length bs) ≡ b → Leaves ends input ws bs
          (elim (a && b) as (λ x. Outcome) [
            | true ↦ record { number = 0; words = overwrite (words_of (answer ends j)) ws; bytes = overwrite (bytes_of (answer ends j)) bs }
            | false ↦ unchanged 10 ws bs
          ])
      go true true wf bf = accepting j q e r (leb-true _ _ wf, leb-true _ _ bf)
      go true false wf bf = overfull j q (λ room. let h = leb-false (bytes_needed j) (length bs) bf in omega (arith, h, room.1))
      go false b wf bf = overfull j q (λ room. let h = leb-false (words_needed j) (length ws) wf in omega (arith, h, room.0))

  judged : Decoded → Outcome
  judged d = elim d [ rejected n ↦ unchanged n ws bs | decoded j ↦ write ends j ws bs ]

  job-leaves : (j : Job) → judge input ≡ judge_job j → decode input ≡ decoded j → Leaves ends input ws bs (judged (judge_job j))
  unfolding judged judge_job
  job-leaves j q e = go (refusal j) refl q
    where
      by : ℕ → Decoded
      by n = elim n [ zero ↦ decoded j | suc m ↦ rejected (suc m) ]

      go : (n : ℕ) → refusal j ≡ n → judge input ≡ by n → Leaves ends input ws bs (judged (by n))
      go zero r q = write-leaves j q e r
      go (suc m) r q = rejecting (suc m) q (omega arith) (omega (arith, refusal-within j))

  pub analyse-leaves : Leaves ends input ws bs (analyse ends input ws bs)
  unfolding analyse judge judged
  analyse-leaves = go (decode input) refl (decode-refuses input) refl
    where
      by : Decoded → Decoded
      by d = elim d [ rejected n ↦ rejected n | decoded j ↦ judge_job j ]

      go : (d : Decoded) → decode input ≡ d → RefusedWithin 5 d → judge input ≡ by d → Leaves ends input ws bs (judged (by d))
      go (rejected n) e h q = rejecting n q h.0 (omega (arith, h.1))
      go (decoded j) e h q = job-leaves j q e

  -- Demand 1.
  pub refuses : Refuses ends input ws bs
  refuses = go (analyse ends input ws bs) refl analyse-leaves
    where
      go : (o : Outcome) → analyse ends input ws bs ≡ o → Leaves ends input ws bs o → Refuses ends input ws bs
      go o e (rejecting n q l h) =
          record {
            one_of_ten = omega (arith, number);
            accepted = (λ z. absurd (omega (arith, number)), λ a. absurd (clash a.0 a.1));
            too_short = (λ z. absurd (omega (arith, number)), λ a. absurd (clash a.0 a.1));
            refused = λ m f g. (λ z. q ∙ ap rejected (sym number ∙ z), λ z. number ∙ same m z);
            untouched = λ f. (ap (λ (x : Outcome). x.words) e, ap (λ (x : Outcome). x.bytes) e);
          }
        where
          number : (analyse ends input ws bs).number ≡ n
          number = ap (λ (x : Outcome). x.number) e

          clash : (j : Job) → judge input ≡ decoded j → ⊥
          clash j f = let z : ◌≡◌ {A = ℕ} 0 1 = cc in omega arith

          same : (m : ℕ) → judge input ≡ rejected m → n ≡ m
          same m f = cc
      go o e (overfull j q no_room) =
          record {
            one_of_ten = omega (arith, number);
            accepted = (λ z. absurd (omega (arith, number)), λ a. absurd (no_room (subst (λ (k : Job). Room k ws bs) (same a.0 a.1) a.2)));
            too_short = (λ z. (j, q, no_room), λ a. number);
            refused = λ m f g. (λ z. absurd (g (sym z ∙ number)), λ z. absurd (clash m z));
            untouched = λ f. (ap (λ (x : Outcome). x.words) e, ap (λ (x : Outcome). x.bytes) e);
          }
        where
          number : (analyse ends input ws bs).number ≡ 10
          number = ap (λ (x : Outcome). x.number) e

          same : (k : Job) → judge input ≡ decoded k → k ≡ j
          same k f = cc

          clash : (m : ℕ) → judge input ≡ rejected m → ⊥
          clash m f = let z : ◌≡◌ {A = ℕ} 0 1 = cc in omega arith
      go o e (accepting j q d r room) =
          record {
            one_of_ten = omega (arith, number);
            accepted = (λ z. (j, q, room), λ a. number);
            too_short = (λ z. absurd (omega (arith, number)), λ a. absurd (a.2 (subst (λ (k : Job). Room k ws bs) (sym (same a.0 a.1)) room)));
            refused = λ m f g. (λ z. absurd (f (sym z ∙ number)), λ z. absurd (clash m z));
            untouched = λ f. absurd (f number);
          }
        where
          number : (analyse ends input ws bs).number ≡ 0
          number = ap (λ (x : Outcome). x.number) e

          same : (k : Job) → judge input ≡ decoded k → k ≡ j
          same k f = cc

          clash : (m : ℕ) → judge input ≡ rejected m → ⊥
          clash m f = let z : ◌≡◌ {A = ℕ} 0 1 = cc in omega arith

-- No call changes a buffer's length.
pub same_lengths : (ends : EndRule) (input ws bs : List ℕ) → (length (analyse ends input ws bs).words ≡ length ws) × (length (analyse ends input ws bs).bytes ≡ length bs)
same_lengths ends input ws bs = go (analyse ends input ws bs) (analyse-leaves ends input ws bs)
  where
    go : (o : Outcome) → Leaves ends input ws bs o → (length o.words ≡ length ws) × (length o.bytes ≡ length bs)
    go o (rejecting n q l h) = (refl, refl)
    go o (overfull j q no_room) = (refl, refl)
    go o (accepting j q e r room) =
        (length-overwrite (words_of (answer ends j)) ws (rw length-words_of room.0), length-overwrite (bytes_of (answer ends j)) bs (rw length-bytes_of room.1))

-- ---- What an accepting call leaves

pub record Written (ends : EndRule) (input ws bs : List ℕ) (j : Job) : Type 0 where
  pub not-refused : refusal j ≡ 0
  pub words : (analyse ends input ws bs).words ≡ overwrite (words_of (answer ends j)) ws
  pub bytes : (analyse ends input ws bs).bytes ≡ overwrite (bytes_of (answer ends j)) bs
  pub room : Room j ws bs

module _ (ends : EndRule) (input ws bs : List ℕ) where
  -- an accepting call's input is a job
  pub accepts_job : (analyse ends input ws bs).number ≡ 0 → (j : Job) × (decode input ≡ decoded j)
  accepts_job = go (analyse ends input ws bs) (analyse-leaves ends input ws bs)
    where
      go : (o : Outcome) → Leaves ends input ws bs o → o.number ≡ 0 → (j : Job) × (decode input ≡ decoded j)
      go o (rejecting n q l h) z = absurd (omega arith)
      go o (overfull j q no_room) z = absurd (omega arith)
      go o (accepting j q e r room) z = (j, e)

  pub written : (j : Job) → decode input ≡ decoded j → (analyse ends input ws bs).number ≡ 0 → Written ends input ws bs j
  written j e z = go (analyse ends input ws bs) refl (analyse-leaves ends input ws bs) z
    where
      same : (k : Job) → decode input ≡ decoded k → k ≡ j
      same k f = cc

      go : (o : Outcome) → analyse ends input ws bs ≡ o → Leaves ends input ws bs o → o.number ≡ 0 → Written ends input ws bs j
      go o q (rejecting n p l h) z = absurd (omega arith)
      go o q (overfull k p no_room) z = absurd (omega arith)
      go o q (accepting k p f r room) z =
          subst (λ (x : Job). Written ends input ws bs x) (same k f)
          (record {
            not-refused = r;
            words = ap (λ (x : Outcome). x.words) q;
            bytes = ap (λ (x : Outcome). x.bytes) q;
            room = room;
          })

  -- the buffers are as long as before, and what the answer does not take is as it was
  pub words-kept : (j : Job) → Written ends input ws bs j → Kept (words_needed j) ws (analyse ends input ws bs).words
  words-kept j w =
      record {
        room = w.room.0;
        as_long = (same_lengths ends input ws bs).0;
        tail = λ i h. ap (λ (l : List ℕ). get_or l i 0) w.words ∙ overwrite-tail (words_of (answer ends j)) ws i (rw length-words_of h);
      }

  pub bytes-kept : (j : Job) → Written ends input ws bs j → Kept (bytes_needed j) bs (analyse ends input ws bs).bytes
  bytes-kept j w =
      record {
        room = w.room.1;
        as_long = (same_lengths ends input ws bs).1;
        tail = λ i h. ap (λ (l : List ℕ). get_or l i 0) w.bytes ∙ overwrite-tail (bytes_of (answer ends j)) bs i (rw length-bytes_of h);
      }

-- ---- What the words say

-- a word's bit says whether its region's set has its point
pub bit_written : (ends : EndRule) (j : Job) (ws : List ℕ) (r p : ℕ) → r < j.regions → p < word_bits * word_count (point_count j)
    → bit_of (overwrite (words_of (answer ends j)) ws) (word_bits * (r * word_count (point_count j)) + p) ≡ bit (holds (sets_of ends j) r p)
unfolding words_of answer graph_of
bit_written ends j ws r p h l =
    row-bit (word_count (point_count j)) (sets_of ends j) (drop (length (words_of (answer ends j))) ws) r p (rw (sized-sets ends j).rows h) l

-- no point from the number of points on is in a set
outside : (ends : EndRule) (j : Job) (r p : ℕ) → r < j.regions → point_count j ≤ p → holds (sets_of ends j) r p ≡ false
outside ends j r p h l = get_or-eq_default (get_or (sets_of ends j) r []) false (omega (arith, (sized-sets ends j).columns r h, points-of j))

-- The words say the sets.
pub sets_written : (ends : EndRule) (j : Job) (ws : List ℕ) (r : RegionName) (p : Point) → r < j.regions
    → sets_in (point_count j) (overwrite (words_of (answer ends j)) ws) r p ≡ holds (sets_of ends j) r p
sets_written ends j ws r p h = go (dec_lt p (point_count j))
  where
    at : ℕ
    at = bit_of (overwrite (words_of (answer ends j)) ws) (word_bits * (r * word_count (point_count j)) + p)

    is-bit : (b : Bool) → eqb (bit b) 1 ≡ b
    is-bit true = refl
    is-bit false = refl

    go : Dec (p < point_count j) → ltb p (point_count j) && eqb at 1 ≡ holds (sets_of ends j) r p
    go (yes l) =
        ap (λ (b : Bool). b && eqb at 1) (is_true (ltb p (point_count j)) (lt→ltb p (point_count j) l))
        ∙ ap (λ (n : ℕ). eqb n 1) (bit_written ends j ws r p h (omega arith)) ∙ is-bit (holds (sets_of ends j) r p)
    go (no l) =
        ap (λ (b : Bool). b && eqb at 1) (is_false (ltb p (point_count j)) (λ t. l (ltb→lt p (point_count j) t)))
        ∙ sym (outside ends j r p h (omega arith))

-- And have no other bit.
pub unused_zero : (ends : EndRule) (j : Job) (ws : List ℕ) (r : RegionName) (p : Point) → r < j.regions → point_count j ≤ p → p < word_bits * word_count (point_count j)
    → bit_of (overwrite (words_of (answer ends j)) ws) (word_bits * (r * word_count (point_count j)) + p) ≡ 0
unused_zero ends j ws r p h l k = bit_written ends j ws r p h k ∙ ap bit (outside ends j r p h l)

-- ---- What the bytes say

bytes_apart : (ends : EndRule) (j : Job) (bs : List ℕ)
    → overwrite (bytes_of (answer ends j)) bs ≡ pairs (verdicts_of ends j) ++ (map bit (grown_of ends j) ++ drop (length (bytes_of (answer ends j))) bs)
unfolding bytes_of answer
bytes_apart ends j bs = append_assoc (pairs (verdicts_of ends j)) (map bit (grown_of ends j)) (drop (length (bytes_of (answer ends j))) bs)

pair_at : (vs : List Verdict) (rest : List ℕ) (i : ℕ) → i < length vs → verdict_in (pairs vs ++ rest) i ≡ get_or vs i no_fault
pair_at [] rest i h = absurd (not-suc-le-zero h)
pair_at (v ∷ vs) rest zero h = refl
pair_at (v ∷ vs) rest (suc i) h = ap from e ∙ pair_at vs rest i (le_of_suc-le-suc h)
  where
    e : verdict_bytes * suc i ≡ suc (suc (verdict_bytes * i))
    e = omega arith

    from : ℕ → Verdict
    from n = record { kind = get_or (pairs (v ∷ vs) ++ rest) n 0; operand = get_or (pairs (v ∷ vs) ++ rest) (suc n) 0 }

-- The bytes say the verdicts.
pub verdict_written : (ends : EndRule) (j : Job) (bs : List ℕ) (p : Point) → p < point_count j
    → verdict_in (overwrite (bytes_of (answer ends j)) bs) p ≡ verdict_at j (graph_of j) (scope_of ends j) (loans_of (graph_of j)) p
verdict_written ends j bs p h =
    ap (λ (l : List ℕ). verdict_in l p) (bytes_apart ends j bs)
    ∙ pair_at (verdicts_of ends j) _ p (rw (length-map, length-count_from) inside)
    ∙ get_or-map-below (verdict_at j (graph_of j) (scope_of ends j) (loans_of (graph_of j))) no_fault (graph_of j).points p inside
  where
    inside : p < (graph_of j).points
    inside = omega (arith, points-of j)

-- And, after the verdicts, which declared regions are grown.
pub grown_written : (ends : EndRule) (j : Job) (bs : List ℕ) (r : RegionName) → r < length j.outlives
    → get_or (overwrite (bytes_of (answer ends j)) bs) (verdict_bytes * point_count j + r) 0 ≡ bit (is_grown (graph_of j) (seed_table j (graph_of j)) (sets_of ends j) r)
grown_written ends j bs r h =
    ap (λ (l : List ℕ). get_or l (verdict_bytes * point_count j + r) 0) (bytes_apart ends j bs)
    ∙ ap (λ (n : ℕ). get_or (pairs (verdicts_of ends j) ++ (marks ++ rest)) (n + r) 0) (sym (length-verdicts ends j))
    ∙ get_or-append-add (pairs (verdicts_of ends j)) (marks ++ rest) r 0
    ∙ get_or-append marks rest 0 r (rw length-grown h)
    ∙ get_or-map bit (grown_of ends j) r false
    ∙ ap bit (get_or-map-below (is_grown (graph_of j) (seed_table j (graph_of j)) (sets_of ends j)) false (length j.outlives) r h)
  where
    marks : List ℕ
    marks = map bit (grown_of ends j)

    rest : List ℕ
    rest = drop (length (bytes_of (answer ends j))) bs
