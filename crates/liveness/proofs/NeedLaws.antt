-- What one action puts into its point's set, and takes out. Assumes nothing.
use mathlib.Core.Path.{◌≡◌, refl, sym, ap, ap₂, subst, ◌∙◌}
use mathlib.Core.Logic.{◌⊎◌, inl, inr}
use mathlib.Core.Bool.{Bool, true, false, ◌||◌, or-false}
use mathlib.Core.List.{List, [], ◌∷◌, map}
use Prim.Native.Nat.{ℕ, zero, suc, ◌+◌, ◌-◌, ◌<◌}
use native.Mathlib.Omega.{arith}
use native.Mathlib.Nat.{sub-zero}
use native.Mathlib.Decide.{dec_lt}
use lib.ListN.{length, take, drop, drop_of_length-le}
use lib.Seq.{drop-cons}
use lib.Dec.{leb}
use borrow.Author.Tests.{le-leb, lt-leb}
use Rattle.nll_spec.specs.Syntax as syntax
use Rattle.nll_spec.specs.Syntax.{Variable}
use Rattle.nll_spec.specs.Decode.{read, done, items, path}
use Rattle.nll_spec.specs.Liveness.{is_plain, write_def, write_use, defs, uses, drops}
use Rattle.repr.specs.Reading.{rest, says, borrow_kind_of, path_of}
use Rattle.repr.specs.declared.Cursor.{Cursor}
use Rattle.repr.specs.declared.Path.{Path}
use Rattle.repr.specs.declared.refusal.Refusal.{Refusal}
use Rattle.std.specs.Prelude.{Result, Ok, Err}
use Rattle.repr.specs.declared.BorrowKind.{BorrowKind}
use Rattle.repr.specs.declared.RegionName.{RegionName}
use Rattle.repr.specs.declared.Variable as variables
use Rattle.repr.specs.declared.Action.{Action}
use Rattle.repr.specs.declared.Action.TheVariants as actions
use Rattle.repr.proofs.ReadLaws.{told}
use Rattle.repr.proofs.SpellLaws.{clash, carry, then}
use Rattle.repr.proofs.ItemLaws.{FirstOf, first_of, none_of}
use Rattle.liveness.specs.Needs.{in_half, in_either, needed_by, Added, Removed, Sourced, Needed, Defined}
use Rattle.liveness.proofs.HalfLaws.{half_append, half_none, added_as, added_none, added_then, removed-none}

-- ---- A path without steps

pub plain_none : (s : List ℕ) (b : ℕ) {n : ℕ} (at : ℕ) → n ≡ 0 → true ≡ is_plain (record { base = b; steps = take n (drop at s) })
plain_none s b at e = rw e

pub plain_some : (s : List ℕ) (b n at : ℕ) → (n ≡ 0 → ⊥) → leb (length s) at ≡ is_plain (record { base = b; steps = take n (drop at s) })
plain_some s b zero at z = absurd (z refl)
plain_some s b (suc n) at z = go (dec_lt at (length s))
  where
    go : Dec (at < length s) → leb (length s) at ≡ is_plain (record { base = b; steps = take (suc n) (drop at s) })
    go (yes l) = lt-leb (length s) at l ∙ sym (ap (λ (l : List ℕ). is_plain (record { base = b; steps = take (suc n) l })) (drop-cons s at 0 l))
    go (no l) = le-leb (length s) at (omega (arith, l)) ∙ sym (ap (λ (l : List ℕ). is_plain (record { base = b; steps = take (suc n) l })) (drop_of_length-le s {i = at} (omega (arith, l))))

module _ (x : ℕ) (p : syntax.Path) (ws : List ℕ) {b : Bool} (is : b ≡ is_plain p) where
  pub use_plain : b ≡ true → Added x (in_half 0 (write_use p)) ws ws
  use_plain e = added_none x ws (λ n. rw (← is, e) (half_none 0 n))

  pub use_stepped : {u : List ℕ} → b ≡ false → Added x (in_half 0 (p.base ∷ [])) ws u → Added x (in_half 0 (write_use p)) ws u
  use_stepped e a = rw (← is, e) a

  pub def_plain : {u : List ℕ} → b ≡ true → Removed x (in_either (p.base ∷ [])) ws u → Removed x (in_either (write_def p)) ws u
  def_plain e a = rw (← is, e) a

  pub def_stepped : b ≡ false → Removed x (in_either (write_def p)) ws ws
  def_stepped e = removed-none x ws (λ n. rw (← is, e) (ap₂ (λ (c d : Bool). c || d) (half_none 0 n) (half_none 64 n)))

-- ---- Sources

abbrev bases : List syntax.Path → List Variable
bases qs = map (λ q. q.base) qs

-- Sources that are still to be read from a place on: what they use is what is left to put in.
pub record ToRead (s : List ℕ) (at left x : ℕ) (ws₀ ws : List ℕ) (qs : List syntax.Path) (over : List ℕ) : Type 0 where
  pub others : List syntax.Path
  pub reads : items left path (drop at s) ≡ read others over
  pub onward : (u : List ℕ) → Added x (in_half 0 (map (λ q. q.base) others)) ws u → Added x (in_half 0 (map (λ q. q.base) qs)) ws₀ u

-- Of n sources from one place on, `over` are put in, and the others are still to be read from another on.
pub record Sourcing (s : List ℕ) (from : Cursor) (n : ℕ) (c : Cursor) (over x : ℕ) (ws₀ ws : List ℕ) : Type 0 where
  pub size : length ws ≡ length ws₀
  pub goes : (qs : List syntax.Path) (past : List ℕ) → items n path (drop from.at s) ≡ read qs past → ToRead s c.at (n - over) x ws₀ ws qs past

pub sourcing_none : (s : List ℕ) (from : Cursor) (n x : ℕ) {ws : List ℕ} → Sourcing s from n from 0 x ws ws
sourcing_none s from n x = record { size = refl; goes = λ qs past e. record { others = qs; reads = rw sub-zero e; onward = λ u a. a } }

module _ {s : List ℕ} {from : Cursor} {n : ℕ} {c : Cursor} {over x : ℕ} {ws₀ ws : List ℕ} (g : Sourcing s from n c over x ws₀ ws) where
  pub sourcing_all : over ≡ n → Sourced s from n x ws₀ ws
  sourcing_all z =
      record {
        added = λ qs past e.
            let w = g.goes qs past e in
            let k : w.others ≡ [] = (none_of path (n - over) (drop c.at s) (omega arith) w.reads).0 in
            w.onward ws (subst (λ (l : List syntax.Path). Added x (in_half 0 (bases l)) ws ws) (sym k) (added_none x ws (λ b. half_none 0 b)));
      }

  module _ (z : over < n) {r : Result (Path × Cursor) Refusal} (found : says (path_of s) s r ≡ path (drop c.at s)) where
    pub sourcing_stop : {k : Refusal} → r ≡ Err k → Sourced s from n x ws₀ ws
    sourcing_stop i =
        record {
          added = λ qs past e. absurd (clash (sym (told (says (path_of s) s) found i) ∙ (first_of path (n - over) (drop c.at s) (omega arith) (g.goes qs past e).reads).first));
        }

    pub sourcing_more : {q : Path} {next : Cursor} {u : List ℕ} → r ≡ Ok (q, next) → length u ≡ length ws → Added x (in_half 0 (q.base.0 ∷ [])) ws u → Sourcing s from n next (over + 1) x ws₀ u
    sourcing_more {q} {next} {u} i l a = record { size = l ∙ g.size; goes = λ qs past e. more qs past (g.goes qs past e) }
      where
        less : n - over - 1 ≡ n - (over + 1)
        less = omega arith

        more : (qs : List syntax.Path) (past : List ℕ) → ToRead s c.at (n - over) x ws₀ ws qs past → ToRead s next.at (n - (over + 1)) x ws₀ u qs past
        more qs past w = record { others = f.others; reads = rw (← less) k.0; onward = λ v b. w.onward v (subst (λ (l : List syntax.Path). Added x (in_half 0 (bases l)) ws v) (sym k.1) (added_as x (added_then x a b) (half_append 0 (q.base.0 ∷ []) (bases f.others)))) }
          where
            f : FirstOf path (n - over) (drop c.at s) w.others past
            f = first_of path (n - over) (drop c.at s) (omega arith) w.reads

            k : (items (n - over - 1) path (rest s next) ≡ read f.others past) × (w.others ≡ path_of s q ∷ f.others)
            k = carry (λ y o. (items (n - over - 1) path o ≡ read f.others past) × (w.others ≡ y ∷ f.others)) (sym f.first ∙ told (says (path_of s) s) found i) (f.reads, f.same)

-- ---- What an action needs

module _ (x : ℕ) (b : syntax.Action) {ws : List ℕ} where
  quiet : uses b ≡ [] → drops b ≡ [] → Added x (needed_by b) ws ws
  quiet e f = added_none x ws (λ n. rw (e, f) (ap₂ (λ (c d : Bool). c || d) (half_none 0 n) (half_none 64 n)))

  spending : {u vs : List ℕ} → uses b ≡ vs → drops b ≡ [] → Added x (in_half 0 vs) ws u → Added x (needed_by b) ws u
  spending {u} {vs} e f a = added_as x a (λ n. rw (e, f) (sym (or-false (in_half 0 vs n)) ∙ ap (λ (c : Bool). in_half 0 vs n || c) (half_none 64 n)))

  disposing : {u vs : List ℕ} → uses b ≡ [] → drops b ≡ vs → Added x (in_half 64 vs) ws u → Added x (needed_by b) ws u
  disposing {u} {vs} e f a = added_as x a (λ n. rw (e, f) (ap (λ (c : Bool). c || in_half 64 vs n) (half_none 0 n)))

module _ (s : List ℕ) (next : Cursor) (x : ℕ) (ws : List ℕ) where
  needs_noop : Needed s actions.Noop next x ws ws
  unfolding uses drops
  needs_noop = record { added = λ b over e. carry (λ y o. Added x (needed_by y) ws ws) e (quiet x (syntax.Noop) refl refl) }

  needs_constraint : (r q : RegionName) → Needed s (actions.Constraint r q) next x ws ws
  unfolding uses drops
  needs_constraint r q = record { added = λ b over e. carry (λ y o. Added x (needed_by y) ws ws) e (quiet x (syntax.Constraint r.0 q.0) refl refl) }

  needs_dead : (v : variables.Variable) → Needed s (actions.StorageDead v) next x ws ws
  unfolding uses drops
  needs_dead v = record { added = λ b over e. carry (λ y o. Added x (needed_by y) ws ws) e (quiet x (syntax.StorageDead v.0) refl refl) }

  pub needs_init : {u w : List ℕ} (dest : Path) (n : ℕ) → Sourced s next n x ws u → Added x (in_half 0 (write_use (path_of s dest))) u w → Needed s (actions.Init dest n) next x ws w
  unfolding uses drops done
  needs_init {u} {w} dest n a c =
      record {
        added = λ b over e.
            let t = then (items n path) _ (rest s next) e in
            carry (λ y o. Added x (needed_by y) ws w) t.last
            (spending x (syntax.Init (path_of s dest) t.got) refl refl (added_as x (added_then x (a.added t.got t.mid t.first) c) (half_append 0 (bases t.got) (write_use (path_of s dest)))));
      }

  pub needs_borrow : {u : List ℕ} (dest : Path) (r : RegionName) (k : BorrowKind) (source : Path) → Added x (in_half 0 (source.base.0 ∷ [])) ws u → Needed s (actions.Borrow dest r k source) next x ws u
  unfolding uses drops
  needs_borrow {u} dest r k source a = record { added = λ b over e. carry (λ y o. Added x (needed_by y) ws u) e (spending x (syntax.Borrow (path_of s dest) r.0 (borrow_kind_of k) (path_of s source)) refl refl a) }

  pub needs_assign : {u w : List ℕ} (dest source : Path) → Added x (in_half 0 (source.base.0 ∷ [])) ws u → Added x (in_half 0 (write_use (path_of s dest))) u w → Needed s (actions.Assign dest source) next x ws w
  unfolding uses drops
  needs_assign {u} {w} dest source a c =
      record {
        added = λ b over e. carry (λ y o. Added x (needed_by y) ws w) e
            (spending x (syntax.Assign (path_of s dest) (path_of s source)) refl refl (added_as x (added_then x a c) (half_append 0 (source.base.0 ∷ []) (write_use (path_of s dest)))));
      }

  pub needs_use : {u : List ℕ} (q : Path) → Added x (in_half 0 (q.base.0 ∷ [])) ws u → Needed s (actions.Use q) next x ws u
  unfolding uses drops
  needs_use {u} q a = record { added = λ b over e. carry (λ y o. Added x (needed_by y) ws u) e (spending x (syntax.Use (path_of s q)) refl refl a) }

  pub needs_drop : {u : List ℕ} (q : Path) → Added x (in_half 64 (q.base.0 ∷ [])) ws u → Needed s (actions.Drop q) next x ws u
  unfolding uses drops
  needs_drop {u} q a = record { added = λ b over e. carry (λ y o. Added x (needed_by y) ws u) e (disposing x (syntax.Drop (path_of s q)) refl refl a) }

  -- an action that uses and drops nothing
  pub needs_quiet : {a : Action} → (a ≡ actions.Noop) ⊎ (((r q : RegionName) × (a ≡ actions.Constraint r q)) ⊎ ((v : variables.Variable) × (a ≡ actions.StorageDead v))) → Needed s a next x ws ws
  needs_quiet (inl e) = rw e needs_noop
  needs_quiet (inr (inl (r, q, e))) = rw e (needs_constraint r q)
  needs_quiet (inr (inr (v, e))) = rw e (needs_dead v)

  -- ---- What an action defines

  still : Removed x (in_either []) ws ws
  still = removed-none x ws (λ n. ap₂ (λ (c d : Bool). c || d) (half_none 0 n) (half_none 64 n))

  defines_noop : Defined s actions.Noop next x ws ws
  unfolding defs
  defines_noop = record { removed = λ b over e. carry (λ y o. Removed x (in_either (defs y)) ws ws) e still }

  defines_constraint : (r q : RegionName) → Defined s (actions.Constraint r q) next x ws ws
  unfolding defs
  defines_constraint r q = record { removed = λ b over e. carry (λ y o. Removed x (in_either (defs y)) ws ws) e still }

  defines_use : (q : Path) → Defined s (actions.Use q) next x ws ws
  unfolding defs
  defines_use q = record { removed = λ b over e. carry (λ y o. Removed x (in_either (defs y)) ws ws) e still }

  defines_drop : (q : Path) → Defined s (actions.Drop q) next x ws ws
  unfolding defs
  defines_drop q = record { removed = λ b over e. carry (λ y o. Removed x (in_either (defs y)) ws ws) e still }

  defines_dead : (v : variables.Variable) → Defined s (actions.StorageDead v) next x ws ws
  unfolding defs
  defines_dead v = record { removed = λ b over e. carry (λ y o. Removed x (in_either (defs y)) ws ws) e still }

  defines_init : {u : List ℕ} (dest : Path) (n : ℕ) → Removed x (in_either (write_def (path_of s dest))) ws u → Defined s (actions.Init dest n) next x ws u
  unfolding defs done
  defines_init {u} dest n a = record { removed = λ b over e. let t = then (items n path) _ (rest s next) e in carry (λ y o. Removed x (in_either (defs y)) ws u) t.last a }

  pub defines_borrow : {u : List ℕ} (dest : Path) (r : RegionName) (k : BorrowKind) (source : Path) → Removed x (in_either (dest.base.0 ∷ [])) ws u → Defined s (actions.Borrow dest r k source) next x ws u
  unfolding defs
  defines_borrow {u} dest r k source a = record { removed = λ b over e. carry (λ y o. Removed x (in_either (defs y)) ws u) e a }

  defines_assign : {u : List ℕ} (dest source : Path) → Removed x (in_either (write_def (path_of s dest))) ws u → Defined s (actions.Assign dest source) next x ws u
  unfolding defs
  defines_assign {u} dest source a = record { removed = λ b over e. carry (λ y o. Removed x (in_either (defs y)) ws u) e a }

  -- an action that defines nothing
  pub defines_quiet : {a : Action} → (a ≡ actions.Noop) ⊎ (((r q : RegionName) × (a ≡ actions.Constraint r q)) ⊎ (((p : Path) × (a ≡ actions.Use p)) ⊎ (((p : Path) × (a ≡ actions.Drop p)) ⊎ ((v : variables.Variable) × (a ≡ actions.StorageDead v))))) → Defined s a next x ws ws
  defines_quiet (inl e) = rw e defines_noop
  defines_quiet (inr (inl (r, q, e))) = rw e (defines_constraint r q)
  defines_quiet (inr (inr (inl (p, e)))) = rw e (defines_use p)
  defines_quiet (inr (inr (inr (inl (p, e))))) = rw e (defines_drop p)
  defines_quiet (inr (inr (inr (inr (v, e))))) = rw e (defines_dead v)

  -- an action that writes to its destination
  pub defines_written : {a : Action} {u : List ℕ} (dest : Path) → ((n : ℕ) × (a ≡ actions.Init dest n)) ⊎ ((source : Path) × (a ≡ actions.Assign dest source)) → Removed x (in_either (write_def (path_of s dest))) ws u → Defined s a next x ws u
  defines_written dest (inl (n, e)) r = rw e (defines_init dest n r)
  defines_written dest (inr (source, e)) r = rw e (defines_assign dest source r)
