-- Reading blocks and their actions, with their entries. Assumes nothing.
use mathlib.Core.Path.{◌≡◌, refl, sym, ap, ◌∙◌}
use mathlib.Core.Bool.{Bool, true, false, cond}
use mathlib.Core.List.{List, [], ◌∷◌, ◌++◌, append_assoc, append-nil}
use Prim.Native.Nat.{ℕ, suc, ◌+◌, ◌*◌, ◌≤◌, ◌<◌, min}
use native.Mathlib.Omega.{arith}
use native.Mathlib.Nat.{add-zero, zero-add}
use lib.ListN.{length, take, drop, set, length-set, length-append, length-drop}
use lib.Seq.{take-set-le, drop-set-add, take-add}
use Rattle.std.proofs.lemmas.List.{take_more_set}
use Rattle.nll_spec.specs.Lists.{select, gather}
use Rattle.nll_spec.specs.Syntax as syntax
use Rattle.nll_spec.specs.Decode.{Reading, refused, read, done, ◌>>=◌, items, action, path, block, is_borrow, code_count}
use Rattle.repr.specs.Reading.{ended, rest, path_of}
use Rattle.repr.specs.Parts.{action_read, sources_of, loans_of, block_of}
use Rattle.repr.specs.declared.Cursor.{Cursor}
use Rattle.repr.specs.declared.Action.{Action}
use Rattle.repr.specs.declared.Action.TheVariants.{Noop, Init, Borrow, Assign, Constraint, Use, Drop, StorageDead}
use Rattle.repr.specs.declared.BasicBlockData.{BasicBlockData}
use Rattle.repr.proofs.ReadLaws.{step, stop}
use Rattle.repr.proofs.PartLaws.{end_readable, end_refused, end-over, action-rest}
use Rattle.record.specs.Rows.{Standing}
use Rattle.record.specs.Rows as rows
use Rattle.record.specs.Blocks.{block_end, loan_count, firsts, ActionAt, Actions, ActionsSay}
use Rattle.record.specs.Blocks.{Coded, none, more, Placed, BlocksSay}
use Rattle.record.proofs.RowLaws.{Going, going_start, going_more, going_stop, going_end, offset_drop, standing_more}
use Rattle.repr.specs.declared.refusal.Refusal.{Refusal}
use Rattle.repr.specs.Refusals.{number_of}
use Rattle.record.specs.declared.Offsets.{Offsets}
use Rattle.std.specs.Prelude.{Ok, Err}

-- ---- An action

abbrev lending : Reading syntax.Action → ℕ
lending (refused k) = 0
lending (read x over) = loan_count (x ∷ [])

lending-is : (s : List ℕ) (a : Action) (next : Cursor) → lending (action_read s a next) ≡ loans_of a
unfolding ◌>>=◌ done
lending-is s Noop next = refl
lending-is s (Init dest n) next = go (items n path (rest s next))
  where
    go : (r : Reading (List syntax.Path)) → lending (elim r as (λ y. Reading syntax.Action) [ refused k ↦ refused k | read qs o ↦ read (syntax.Init (path_of s dest) qs) o ]) ≡ 0
    go (refused k) = refl
    go (read qs o) = refl
lending-is s (Borrow dest r k source) next = refl
lending-is s (Assign dest source) next = refl
lending-is s (Constraint sup sub) next = refl
lending-is s (Use p) next = refl
lending-is s (Drop p) next = refl
lending-is s (StorageDead v) next = refl

module _ (s : List ℕ) (at : ℕ) (a : Action) (next : Cursor) (e : action (drop at s) ≡ action_read s a next) where
  pub action-refused : {n k : ℕ} → n ≡ sources_of a → refused k ≡ ended (items n path (rest s next)) → action (drop at s) ≡ refused k
  action-refused i h = end_refused action (drop at s) (ap ended e ∙ action-rest s a next ∙ sym (rw i at h))

  pub action-ended : {n loans : ℕ} (end : Cursor) → n ≡ sources_of a → loans ≡ loans_of a → read tt (drop end.at s) ≡ ended (items n path (rest s next)) → ActionAt s at end.at loans
  action-ended {n} {loans} end i l h =
      let f : ended (action (drop at s)) ≡ read tt (drop end.at s) = ap ended e ∙ action-rest s a next ∙ sym (rw i at h) in
      let r = end_readable action (drop at s) f in
      record {
        item = r.item;
        reads = r.reads ∙ rw (end-over action (drop at s) r.reads f);
        lends = l ∙ sym (lending-is s a next) ∙ sym (ap lending e) ∙ ap lending r.reads;
      }

-- ---- Loans

loans-append : (xs ys : List syntax.Action) → loan_count (xs ++ ys) ≡ loan_count xs + loan_count ys
loans-append [] ys = omega arith
loans-append (x ∷ xs) ys = go (loans-append xs ys) (is_borrow x)
  where
    go : loan_count (xs ++ ys) ≡ loan_count xs + loan_count ys → (b : Bool) → length (cond b (x ∷ select is_borrow (xs ++ ys)) (select is_borrow (xs ++ ys))) ≡ length (cond b (x ∷ select is_borrow xs) (select is_borrow xs)) + loan_count ys
    go h true = omega arith
    go h false = h

one_loan : (x : syntax.Action) → loan_count (x ∷ []) ≤ 1
one_loan x = go (is_borrow x)
  where
    go : (b : Bool) → length (cond b (x ∷ []) []) ≤ 1
    go true = omega arith
    go false = omega arith

gathered : (bs : List syntax.Block) (b : syntax.Block) → gather (λ d. d.actions) (bs ++ b ∷ []) ≡ gather (λ d. d.actions) bs ++ b.actions
gathered [] b = append-nil b.actions
gathered (d ∷ ds) b = rw (gathered ds b, append_assoc)

-- ---- Entries

-- one entry more of the points from `first` on
point-more : (t : List ℕ) (first i o : ℕ) → first + i < length t → take (i + 1) (drop first (set t (first + i) o)) ≡ take i (drop first t) ++ o ∷ []
point-more t first i o h = let l : i < length (drop first t) = simp length-drop (omega arith) in rw drop-set-add (take_more_set (drop first t) i o l)

-- ---- The actions of a block

-- i of n actions were read up to c.
pub record Coding (s : List ℕ) (from c : Cursor) (n i first loans : ℕ) (old t : List ℕ) : Type 0 where
  pub found : List syntax.Action
  pub offsets : List ℕ
  pub going : Going action s from c n i found
  pub many : length found ≡ i
  pub lends : loans ≡ loan_count found
  pub few : loans ≤ i
  pub stands : Standing action s offsets found
  pub entries : first + i ≤ 1024 → take i (drop first t) ≡ offsets
  pub size : length t ≡ 1024
  pub kept : take first t ≡ take first old

pub coding_start : (s : List ℕ) (c : Cursor) (n first : ℕ) (t : List ℕ) → length t ≡ 1024 → Coding s c c n 0 first 0 t t
coding_start s c n first t h = record {
  found = [];
  offsets = [];
  going = going_start action s c n;
  many = refl;
  lends = refl;
  few = omega arith;
  stands = rows.none;
  entries = λ k. refl;
  size = h;
  kept = refl;
}

module _ {s : List ℕ} {from c : Cursor} {n i first loans : ℕ} {old t u : List ℕ} (w : Coding s from c n i first loans old t) (h : i < n) (o : ℕ) (p : u ≡ set t (first + i) o) where
  coding_size : length u ≡ 1024
  coding_size = ap length p ∙ length-set t (first + i) o ∙ w.size

  coding_kept : take first u ≡ take first old
  coding_kept = ap (take first) p ∙ take-set-le first t (first + i) o (omega arith) ∙ w.kept

  pub coding_more : {next : Cursor} {more : ℕ} → length s ≤ 65535 → o ≡ min c.at 65535 → ActionAt s c.at next.at more → Coding s from next n (i + 1) first (loans + more) old u
  coding_more {next} {more} l e a =
      let one = one_loan a.item in
      record {
        found = w.found ++ a.item ∷ [];
        offsets = w.offsets ++ o ∷ [];
        going = going_more w.going h a.reads;
        many = simp length-append (omega (arith, w.many));
        lends = omega (arith, w.lends, a.lends, loans-append w.found (a.item ∷ []));
        few = omega (arith, w.few, a.lends);
        stands = standing_more o w.stands (record { over = drop next.at s; reads = rw (e, offset_drop s c.at l) a.reads });
        entries = λ k. ap (λ (x : List ℕ). take (i + 1) (drop first x)) p ∙ point-more t first i o (omega (arith, w.size)) ∙ ap (λ (x : List ℕ). x ++ o ∷ []) (w.entries (omega arith));
        size = coding_size;
        kept = coding_kept;
      }

  pub coding_stop : {k : Refusal} → action (drop c.at s) ≡ refused (number_of k) → ActionsSay s from n first old u (Err k)
  coding_stop e = record { kept = coding_kept; result = going_stop w.going h e }

pub coding_end : {s : List ℕ} {from c : Cursor} {n i first loans : ℕ} {old t u : List ℕ} → Coding s from c n i first loans old t → n ≤ i → {m : ℕ} → m ≡ n → u ≡ set t (first + m) block_end → ActionsSay s from n first old u (Ok (loans, c))
coding_end {s} {from} {c} {n} {i} {first} {loans} {old} {t} {u} w h e p₀ =
    let p : u ≡ set t (first + n) block_end = rw e at p₀ in
    let q : i ≡ n = (let l = w.going.within in omega arith) in
    record {
      kept = ap (take first) p ∙ take-set-le first t (first + n) block_end (omega arith) ∙ w.kept;
      result = record {
        found = w.found;
        offsets = w.offsets;
        reads = going_end w.going h;
        many = w.many ∙ q;
        lends = w.lends;
        few = omega (arith, w.few);
        stands = w.stands;
        entries = λ k. (let f : take n (drop first t) ≡ w.offsets = rw (← q) (w.entries (omega arith)) in ap (λ (x : List ℕ). take (n + 1) (drop first x)) p ∙ point-more t first n block_end (omega (arith, w.size)) ∙ ap (λ (x : List ℕ). x ++ block_end ∷ []) f);
      };
    }

-- ---- Blocks

code-more : (bs : List syntax.Block) (b : syntax.Block) → code_count (bs ++ b ∷ []) ≡ code_count bs + suc (length b.actions)
unfolding code_count
code-more [] b = omega arith
code-more (d ∷ ds) b = let h = code-more ds b in omega arith

firsts_more : (p : ℕ) (bs : List syntax.Block) (b : syntax.Block) → firsts p (bs ++ b ∷ []) ≡ firsts p bs ++ (p + code_count bs) ∷ []
unfolding code_count
firsts_more p [] b = rw add-zero
firsts_more p (d ∷ ds) b =
    let j : p + suc (length d.actions) + code_count ds ≡ p + (suc (length d.actions) + code_count ds) = omega arith in
    rw (firsts_more (p + suc (length d.actions)) ds b, j)

coded-more : {s es os : List ℕ} {bs : List syntax.Block} (b : syntax.Block) → Coded s es bs → Standing action s os b.actions → Coded s (es ++ (os ++ block_end ∷ [])) (bs ++ b ∷ [])
coded-more b none h = more h none
coded-more b (more {offsets = o} {entries = e} k r) h = rw (append_assoc o (block_end ∷ e)) (more k (coded-more b r h))

-- b of n blocks were read up to c.
pub record Blocking (s : List ℕ) (from c : Cursor) (n b points loans : ℕ) (old t : Offsets) : Type 0 where
  pub found : List syntax.Block
  pub going : Going block s from c n b found
  pub placed : Placed s b found t
  pub counts : points ≡ code_count found
  pub most : points ≤ 256 * b
  pub lends : loans ≡ loan_count (gather (λ d. d.actions) found)
  pub few : loans ≤ 256 * b
  pub structs : t.structs ≡ old.structs
  pub outlives : t.outlives ≡ old.outlives
  pub variables : t.variables ≡ old.variables

pub blocking_start : (s : List ℕ) (c : Cursor) (n : ℕ) (t : Offsets) → Blocking s c c n 0 0 0 t t
unfolding code_count
blocking_start s c n t = record {
  found = [];
  going = going_start block s c n;
  placed = record { stands = rows.none; first = refl; entries = []; coded = none; points = λ k. refl };
  counts = refl;
  most = omega arith;
  lends = refl;
  few = omega arith;
  structs = refl;
  outlives = refl;
  variables = refl;
}

-- The entries of block b, and those of its points after them.
module _ {s : List ℕ} {from c : Cursor} {n b points loans : ℕ} {old t : Offsets} (w : Blocking s from c n b points loans old t) (h : b < n) (fits : n ≤ 64) (o : ℕ) where
  abbrev marked : List ℕ → Offsets
  marked u = record { structs = t.structs; outlives = t.outlives; variables = t.variables; blocks = set t.blocks b o; first = set t.first b points; points = u }

  pub blocking_missing : {k : Refusal} → block (drop c.at s) ≡ refused (number_of k) → BlocksSay s from n old (marked t.points) (Err k)
  blocking_missing e = record { structs = w.structs; outlives = w.outlives; variables = w.variables; result = going_stop w.going h e }

  module _ (u : List ℕ) where
    pub blocking_stop : (d : BasicBlockData) {k : Refusal} → block (drop c.at s) ≡ block_of s d → items d.actions.count action (drop d.actions.from.at s) ≡ refused (number_of k) → BlocksSay s from n old (marked u) (Err k)
    unfolding block_of
    blocking_stop d e f = record { structs = w.structs; outlives = w.outlives; variables = w.variables; result = going_stop w.going h (e ∙ stop _ _ _ f) }

    pub blocking_more : (kept : take points u ≡ take points t.points) (d : BasicBlockData) (next : Cursor) {more many : ℕ} → length t.blocks ≡ 64 → length t.first ≡ 64 → length s ≤ 65535 → o ≡ min c.at 65535 → block (drop c.at s) ≡ block_of s d → Actions s d.actions.from.at next.at d.actions.count points more u → (many ≡ d.actions.count) × (many ≤ 255) → Blocking s from next n (b + 1) (points + (many + 1)) (loans + more) old (marked u)
    unfolding block_of done
    blocking_more kept d next {more} {many} room firsts-room l q e a m =
        let y : syntax.Block = record { successors = take d.successors.count (rest s d.successors.from); actions = a.found } in
        let reads : block (drop c.at s) ≡ read y (drop next.at s) = e ∙ step _ _ _ a.reads in
        let count : code_count (w.found ++ y ∷ []) ≡ code_count w.found + suc (length a.found) = code-more w.found y in
        let total : code_count (w.found ++ y ∷ []) ≡ points + (d.actions.count + 1) = omega (arith, w.counts, a.many) in
        record {
          found = w.found ++ y ∷ [];
          going = going_more w.going h reads;
          placed = record {
            stands = rw (take_more_set t.blocks b o (omega arith)) (standing_more o w.placed.stands (record { over = drop next.at s; reads = rw (q, offset_drop s c.at l) reads }));
            first = take_more_set t.first b points (omega arith) ∙ ap (λ (x : List ℕ). x ++ points ∷ []) w.placed.first ∙ rw w.counts (sym (rw zero-add at (firsts_more 0 w.found y)));
            entries = w.placed.entries ++ (a.offsets ++ block_end ∷ []);
            coded = coded-more y w.placed.coded a.stands;
            points = λ k.
                let old-points : take points t.points ≡ w.placed.entries = rw w.counts (w.placed.points (omega (arith, w.counts))) in
                rw (total, take-add points (d.actions.count + 1) u, a.entries (omega arith)) (ap (λ (x : List ℕ). x ++ (a.offsets ++ block_end ∷ [])) (kept ∙ old-points));
          };
          counts = omega (arith, total, m.0);
          most = omega (arith, w.most, m.1);
          lends = rw (gathered w.found y) (omega (arith, w.lends, a.lends, loans-append (gather (λ d. d.actions) w.found) a.found));
          few = omega (arith, w.few, a.few, m.0, m.1);
          structs = w.structs;
          outlives = w.outlives;
          variables = w.variables;
        }

pub blocking_end : {s : List ℕ} {from c : Cursor} {n b points loans : ℕ} {old t : Offsets} → Blocking s from c n b points loans old t → n ≤ b → n ≤ 64 → BlocksSay s from n old t (Ok (record { next = c; points = points; loans = loans }))
blocking_end {n = n} {b} w h fits =
    let q : n ≡ b = (let l = w.going.within in omega arith) in
    record {
      structs = w.structs;
      outlives = w.outlives;
      variables = w.variables;
      result = record { found = w.found; reads = going_end w.going h; placed = rw q w.placed; counts = w.counts; most = omega (arith, w.most); lends = w.lends };
    }
