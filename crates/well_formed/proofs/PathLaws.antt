-- Paths, their types, and the paths of an action. Assumes nothing.
use mathlib.Core.Path.{◌≡◌, refl, sym, ap, ◌∙◌}
use mathlib.Core.Bool.{Bool, true, false, ◌&&◌, and-true, and-false, and_comm}
use mathlib.Core.List.{List, []}
use Prim.Native.Nat.{ℕ, ◌<◌}
use native.Mathlib.Omega.{arith}
use lib.ListN.{get_or, length}
use borrow.Author.Tests.{lt-ltb}
use Rattle.nll_spec.specs.Lists.{every}
use Rattle.nll_spec.specs.Syntax as syntax
use Rattle.nll_spec.specs.Syntax.{Job}
use Rattle.nll_spec.specs.Decode.{read, done, items, path}
use Rattle.nll_spec.specs.Types.{path_type}
use Rattle.nll_spec.specs.WellFormed.{path_fits, paths_of, same_shape, shape_fits}
use Rattle.repr.specs.Reading.{rest, path_of}
use Rattle.repr.specs.Parts.{action_says, action_read, sources_of}
use Rattle.repr.specs.declared.Cursor.{Cursor}
use Rattle.repr.specs.declared.Path.{Path}
use Rattle.repr.specs.declared.Action.{Action}
use Rattle.repr.specs.declared.Action.TheVariants.{Noop, Init, Borrow, Assign, Constraint, Use, Drop, StorageDead}
use Rattle.record.specs.Layout.{Layout, Holds}
use Rattle.record.specs.declared.Head.{Head}
use Rattle.record.specs.Access.{Acts}
use Rattle.record.specs.declared.Record.{Record}
use Rattle.record.specs.declared.Offsets.{Offsets}
use Rattle.repr.proofs.SpellLaws.{carry, then}
use Rattle.refusals.specs.Tests.{Tested}
use Rattle.env.specs.Paths.{PathIs}
use Rattle.env.proofs.PathLaws.{no_entries, stepless}
use Rattle.well_formed.specs.Tests.{refusal_of, path_taken, action_taken, own_taken, own_shape, TypesFit, SecondSays, PairSays}
use Rattle.well_formed.specs.declared.shapes.Wanted.{Wanted}
use Rattle.well_formed.specs.declared.shapes.Wanted.TheVariants as wanted
use Rattle.repr.specs.declared.refusal.Refusal.{Refusal}
use Rattle.std.specs.Prelude.{Result, Ok}

-- ---- A path

-- it may be taken, and its type stands there
pub record Typed (input : Record) (p : Path) (bytes : List ℕ) (at : ℕ) : Type 0 where
  pub named : p.base.0 < input.head.variables
  pub kinds : List ℕ
  pub names : List ℕ
  pub is : (j : Job) → Holds input j → PathIs j (path_of input.bytes.now p) bytes at kinds names

in_job : {s : List ℕ} {t : Offsets} {h : Head} {j : Job} {v : ℕ} → Layout s t h j → v < h.variables → v < length j.variables
in_job w l = let n = w.variable_count in omega arith

named-is : {s : List ℕ} {t : Offsets} {h : Head} {j : Job} {b : Bool} (p : Path) → Layout s t h j → p.base.0 < h.variables → path_fits j (path_of s p) ≡ b → path_taken j (path_of s p) ≡ b
named-is {j = j} p w l e = rw (lt-ltb p.base.0 (length j.variables) (in_job w l), e)

module _ {input : Record} {p : Path} where
  pub typed_taken : {bytes : List ℕ} {at : ℕ} → Typed input p bytes at → (j : Job) → Holds input j → path_taken j (path_of input.bytes.now p) ≡ true
  typed_taken v j w = named-is p w v.named (v.is j w).fits

pub stepless_typed : {input : Record} (p : Path) → p.base.0 < input.head.variables → (c : Cursor) → p.steps ≡ 0 → c.at ≡ get_or input.layout.now.variables p.base.0 0 → Typed input p input.bytes.now c.at
stepless_typed {input} p l c z e = record { named = l; kinds = no_entries; names = no_entries; is = λ j w. (stepless {input = input} p c z e).says j w (in_job w l) }

pub stepless_taken : (input : Record) (p : Path) → p.base.0 < input.head.variables → p.steps ≡ 0 → (j : Job) → Holds input j → true ≡ path_taken j (path_of input.bytes.now p)
stepless_taken input p l z j w = sym (typed_taken (stepless_typed {input = input} p l (record { at = get_or input.layout.now.variables p.base.0 0 }) z refl) j w)

-- ---- The paths of an action

-- The action that stands there: its sources, and the test of its paths.
record ActionIs (j : Job) (s : List ℕ) (a : Action) (c : Cursor) (x : syntax.Action) (bs : List ℕ) : Type 0 where
  sources : List syntax.Path
  reads : items (sources_of a) path (rest s c) ≡ read sources bs
  same : action_taken j x ≡ own_taken j s a && every (path_taken j) sources
  shape : shape_fits j x ≡ own_shape j s a

module _ (j : Job) (s : List ℕ) where
  -- one that has no sources
  alone : {a : Action} {c : Cursor} {y x : syntax.Action} {bs : List ℕ} → sources_of a ≡ 0 → action_taken j y ≡ own_taken j s a → shape_fits j y ≡ own_shape j s a → read y (rest s c) ≡ read x bs → ActionIs j s a c x bs
  unfolding items done
  alone {a} {c} n k l e = carry (λ x o. ActionIs j s a c x o) e (record { sources = []; reads = rw n; same = k ∙ sym (and-true (own_taken j s a)); shape = l })

  one : (p : Path) → path_taken j (path_of s p) && true ≡ path_taken j (path_of s p)
  one p = and-true (path_taken j (path_of s p))

  two : (p q : Path) → path_taken j (path_of s p) && (path_taken j (path_of s q) && true) ≡ path_taken j (path_of s p) && path_taken j (path_of s q)
  two p q = ap (λ (z : Bool). path_taken j (path_of s p) && z) (one q)

  action-is : (a : Action) (c : Cursor) {x : syntax.Action} {bs : List ℕ} → action_read s a c ≡ read x bs → ActionIs j s a c x bs
  unfolding paths_of shape_fits done
  action-is Noop c e = alone refl refl refl e
  action-is (Init dest n) c e =
      let w = then (items n path) _ (rest s c) e in
      carry (λ x o. ActionIs j s (Init dest n) c x o) w.last (record { sources = w.got; reads = w.first; same = refl; shape = refl })
  action-is (Borrow dest r k source) c e = alone refl (two dest source) refl e
  action-is (Assign dest source) c e = alone refl (two dest source) refl e
  action-is (Constraint sup sub) c e = alone refl refl refl e
  action-is (Use p) c e = alone refl (one p) refl e
  action-is (Drop p) c e = alone refl (one p) refl e
  action-is (StorageDead v) c e = alone refl refl refl e

-- ---- The refusal of an action

pub assign_is : {input : Record} {dest source : Path} {r : ℕ} → PairSays wanted.Same input source dest r → (j : Job) → Holds input j → r ≡ refusal_of (own_taken j input.bytes.now (Assign dest source)) (own_shape j input.bytes.now (Assign dest source))
assign_is {input} {dest} {source} v j w =
    v.says j w (syntax.Free 0) ∙ ap (λ (x : Bool). refusal_of x (same_shape (path_type j (path_of input.bytes.now source)) (path_type j (path_of input.bytes.now dest)))) (and_comm (path_taken j (path_of input.bytes.now source)) (path_taken j (path_of input.bytes.now dest)))

module _ {s : List ℕ} {x : syntax.Action} {d : Result (Action × Cursor) Refusal} (m : Acts s x d) where
  module _ (j : Job) {a : Action} {c : Cursor} {z : Bool} {n : ℕ} (e : d ≡ Ok (a, c)) (l : n ≡ sources_of a) (v : Tested (items n path) (every (path_taken j)) s c.at z) where
    tested : refusal_of (action_taken j x) (shape_fits j x) ≡ refusal_of (own_taken j s a && z) (own_shape j s a)
    tested = let w = action-is j s a c (sym (ap (action_says s) e) ∙ m.reads) in rw (w.same, w.shape, v.says w.sources m.over (rw l w.reads))

    pub sources_refused : z ≡ false → 8 ≡ refusal_of (action_taken j x) (shape_fits j x)
    sources_refused k = sym (tested ∙ rw (k, and-false (own_taken j s a)))

    pub own-refused : {r : ℕ} → z ≡ true → r ≡ refusal_of (own_taken j s a) (own_shape j s a) → r ≡ refusal_of (action_taken j x) (shape_fits j x)
    own-refused k o = o ∙ sym (tested ∙ rw (k, and-true (own_taken j s a)))

-- ---- Two types, and two paths

module _ {d : Wanted} {input : Record} {a : List ℕ} {x : ℕ} {q : Path} where
  pub second_typed : {b : List ℕ} {y r : ℕ} → Typed input q b y → TypesFit d a x b y r → SecondSays d input a x q r
  second_typed v k = record { says = λ j w u o p m. let i = v.is j w in k.says u _ o p i.stands m i.few ∙ sym (rw (typed_taken v j w)) }

module _ {d : Wanted} {input : Record} {p q : Path} where
  pub pair_typed : {a : List ℕ} {x r : ℕ} → Typed input p a x → SecondSays d input a x q r → PairSays d input p q r
  pair_typed v k = record { says = λ j w o. let i = v.is j w in k.says j w _ o i.stands i.few ∙ sym (rw (typed_taken v j w)) }
