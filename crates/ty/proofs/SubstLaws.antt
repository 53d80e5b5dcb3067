-- What each way through a substitution writes. Assumes nothing.
use mathlib.Core.Path.{◌≡◌, refl, sym, ap, subst as transport, ◌∙◌}
use mathlib.Core.List.{List, [], ◌∷◌, ◌++◌, append-nil}
use Prim.Native.Nat.{ℕ, zero, suc, ◌+◌, ◌-◌, ◌*◌, ◌≤◌, ◌<◌}
use native.Mathlib.Omega.{arith}
use lib.ListN.{take, drop, take-append-drop}
use Rattle.nll_spec.specs.Syntax.{BorrowKind, Ty, UnitTy, RefTy, StructTy, BoundTy, Args, NoArgs, RegionArg, TypeArg}
use Rattle.nll_spec.specs.Syntax as syntax
use Rattle.nll_spec.specs.Types.{head_type, arg_count, drop_args, bound_args, subst_region, subst, subst_args, type_nodes, arg_nodes}
use Rattle.repr.specs.Reading.{rest, borrow_kind_of, region_of}
use Rattle.repr.specs.Types.{node, NodeSays, ArgumentSays}
use Rattle.repr.specs.declared.Cursor.{Cursor}
use Rattle.repr.specs.declared.Row.{Row}
use Rattle.repr.specs.declared.BorrowKind.{BorrowKind as Kind}
use Rattle.repr.specs.declared.Region.{Region}
use Rattle.repr.specs.declared.StructName.{StructName}
use Rattle.repr.specs.declared.Node.{Node}
use Rattle.repr.specs.declared.Node.TheVariants as nodes
use Rattle.repr.specs.declared.Argument.{Argument}
use Rattle.repr.specs.declared.Argument.TheVariants as arguments
use Rattle.repr.specs.declared.refusal.Refusal.{Refusal}
use Rattle.std.specs.Prelude.{Option, Some, None, Result, Ok, Err}
use Rattle.repr.specs.Stands.{TypeTo, ArgsTo, TypeAt}
use Rattle.repr.specs.Spelling.{kind_byte, region_tag, region_number, spell, spell_args, Fine, FineArgs}
use Rattle.ty.specs.Written.{Given, RegionSays, Stood, WholeSays, CopiedSays}
use Rattle.ty.specs.Writing.{Puts, Writes, Keeps, Room, CopySays, BoundSays, SubstSays, ArgumentsSay}
use Rattle.ty.specs.declared.write.Arguments.{Arguments}
use Rattle.ty.specs.declared.write.Writer.{Writer}
use Rattle.repr.proofs.StandLaws.{type-bytes, args-bytes, type_to, on-node, on_argument, none_is}
use Rattle.repr.proofs.NodeLaws.{type-nodes}
use Rattle.ty.proofs.WriteLaws.{writes_more, keeps_put, room-more, room-then, unit_writes}

-- ---- Trees

pub count_same : (h g : Args) → arg_count (subst_args h g) ≡ arg_count h
unfolding arg_count subst_args
count_same NoArgs g = refl
count_same (RegionArg r h) g = ap suc (count_same h g)
count_same (TypeArg t h) g = ap suc (count_same h g)

drop_fine : (k : ℕ) (g : Args) → FineArgs g → FineArgs (drop_args k g)
unfolding drop_args
drop_fine zero g f = f
drop_fine (suc k) NoArgs f = drop_fine k NoArgs f
drop_fine (suc k) (RegionArg r g) f = drop_fine k g f
drop_fine (suc k) (TypeArg t g) f = drop_fine k g f.1

head_fine : (g : Args) → FineArgs g → Fine (head_type g)
head_fine NoArgs f = tt
head_fine (RegionArg r g) f = tt
head_fine (TypeArg t g) f = f.0

mutual
  unfolding subst

  pub subst_fine : (t : Ty) (g : Args) → FineArgs g → Fine t → Fine (subst t g)
  subst_fine UnitTy g h f = tt
  subst_fine (RefTy k r t) g h f = subst_fine t g h f
  subst_fine (StructTy s given) g h f = (rw (count_same given g) f.0, substs_fine given g h f.1)
  subst_fine (BoundTy b) g h f = head_fine (bound_args g b) (drop_fine (arg_count g - suc b) g h)

  substs_fine : (given g : Args) → FineArgs g → FineArgs given → FineArgs (subst_args given g)
  substs_fine NoArgs g h f = tt
  substs_fine (RegionArg r given) g h f = substs_fine given g h f
  substs_fine (TypeArg t given) g h f = (subst_fine t g h f.0, substs_fine given g h f.1)

-- ---- A node, and what follows it

module _ (f over : List ℕ) {w w₁ : Writer} (w₂ : Writer) (r : Option Cursor) where
  ref_writes : (k : BorrowKind) (x y : syntax.Region) (u : Ty) → y ≡ x → Puts 1 (1 ∷ kind_byte k ∷ region_tag y ∷ region_number y ∷ []) w w₁ → Writes f over (type_nodes u) (spell u) w₁ w₂ r → Writes f over (type_nodes (RefTy k x u)) (spell (RefTy k x u)) w w₂ r
  unfolding type_nodes
  ref_writes k x y u e p q = rw (← e) (writes_more p f over w₂ (type_nodes u) (suc (type_nodes u)) (spell u) (omega arith) r q)

  struct_writes : (name n : ℕ) (h : Args) → arg_count h ≡ n → Puts 1 (2 ∷ name ∷ n ∷ []) w w₁ → Writes f over (arg_nodes h) (spell_args h) w₁ w₂ r → Writes f over (type_nodes (StructTy name h)) (spell (StructTy name h)) w w₂ r
  unfolding type_nodes
  struct_writes name n h e p q = rw e (writes_more p f over w₂ (arg_nodes h) (suc (arg_nodes h)) (spell_args h) (omega arith) r q)

  region_writes : (x y : syntax.Region) (h : Args) → y ≡ x → Puts 0 (0 ∷ region_tag y ∷ region_number y ∷ []) w w₁ → Writes f over (arg_nodes h) (spell_args h) w₁ w₂ r → Writes f over (arg_nodes (RegionArg x h)) (spell_args (RegionArg x h)) w w₂ r
  unfolding arg_nodes
  region_writes x y h e p q = rw (← e) (writes_more p f over w₂ (arg_nodes h) (arg_nodes h) (spell_args h) (omega arith) r q)

  type_writes : {w₀ : Writer} (u : Ty) (h : Args) → Puts 0 (1 ∷ []) w w₀ → Puts (type_nodes u) (spell u) w₀ w₁ → Writes f over (arg_nodes h) (spell_args h) w₁ w₂ r → Writes f over (arg_nodes (TypeArg u h)) (spell_args (TypeArg u h)) w w₂ r
  unfolding arg_nodes
  type_writes u h i p q = writes_more i f over w₂ (type_nodes u + arg_nodes h) (type_nodes u + arg_nodes h) (spell u ++ spell_args h) (omega arith) r (writes_more p f over w₂ (arg_nodes h) (type_nodes u + arg_nodes h) (spell_args h) refl r q)

-- ---- A type

module _ {f : List ℕ} {c : ℕ} {a : Arguments} {w w₁ : Writer} where
  pub subst-none : w.left ≡ 0 → SubstSays f c a w w₁ None
  subst-none z = record { says = λ t over g p q. let k = type-nodes (subst t g) in omega arith; room = tt }

module _ {f : List ℕ} {c : ℕ} {a : Arguments} {w w₁ : Writer} {d : Result Node Refusal} (m : NodeSays node f c d) where
  pub subst-refused : {k : Refusal} → d ≡ Err k → SubstSays f c a w w₁ None
  subst-refused e = record { says = λ t over g p q. absurd (on-node m e p); room = tt }

  pub subst-wide : {name : StructName} {row : Row} → d ≡ Ok (nodes.Struct name row) → 4 < row.count → SubstSays f c a w w₁ None
  subst-wide {name = name} e h = record {
    says = λ t over g p q.
        let x = on-node m e p in
        let k = (args-bytes x.stands).count in
        let z : Fine (StructTy name.0 x.given) = transport (λ (u : Ty). Fine u) x.same (type-bytes p).fine in
        let y = z.0 in
        absurd (omega arith);
    room = tt;
  }

  pub subst-unit : {next : Cursor} → d ≡ Ok (nodes.Unit next) → Puts 1 (0 ∷ []) w w₁ → SubstSays f c a w w₁ (Some next)
  unfolding subst
  subst-unit {next} e u = record { says = λ t over g p q. let x = on-node m e p in rw x.same (unit_writes f over next UnitTy refl x.ends u); room = keeps_put u 0 (omega arith) }

  module _ {r : Option Cursor} where
    pub subst_bound : {b : ℕ} {next : Cursor} → d ≡ Ok (nodes.Bound b next) → BoundSays a b next w w₁ r → SubstSays f c a w w₁ r
    unfolding subst
    subst_bound e u = record { says = λ t over g p q. let x = on-node m e p in rw (← x.ends, x.same) (u.says f g q); room = u.room }

    pub subst_ref : {k : Kind} {x y : Region} {i : Cursor} {w₀ : Writer} → d ≡ Ok (nodes.Ref k x i) → RegionSays a x y → Puts 1 (1 ∷ kind_byte (borrow_kind_of k) ∷ region_tag (region_of y) ∷ region_number (region_of y) ∷ []) w w₀ → SubstSays f i.at a w₀ w₁ r → SubstSays f c a w w₁ r
    unfolding subst
    subst_ref {k = k} {x = x} {y = y} e v h u = record {
      says = λ t over g p q.
          let n = on-node m e p in
          transport (λ (o : Ty). Writes f over (type_nodes (subst o g)) (spell (subst o g)) w w₁ r) (sym n.same)
          (ref_writes f over w₁ r (borrow_kind_of k) (subst_region g (region_of x)) (region_of y) (subst n.referent g) (v.says g q) h (u.says n.referent over g n.stands q));
      room = room-more h 0 0 w₁ (omega arith) r u.room;
    }

    pub subst_struct : {name : StructName} {row : Row} {w₀ : Writer} → d ≡ Ok (nodes.Struct name row) → row.count ≤ 4 → Puts 1 (2 ∷ name.0 ∷ row.count ∷ []) w w₀ → ArgumentsSay f row.from.at row.count a w₀ w₁ r → SubstSays f c a w w₁ r
    unfolding subst
    subst_struct {name = name} {row = row} e i h u = record {
      says = λ t over g p q.
          let x = on-node m e p in
          transport (λ (o : Ty). Writes f over (type_nodes (subst o g)) (spell (subst o g)) w w₁ r) (sym x.same)
          (struct_writes f over w₁ r name.0 row.count (subst_args x.given g) (count_same x.given g ∙ (args-bytes x.stands).count) h (u.says x.given over g x.stands q));
      room = room-more h 0 (3 * row.count) w₁ (omega arith) r u.room;
    }

-- ---- Arguments

pub arguments_none : {f : List ℕ} {n : ℕ} {a : Arguments} {w : Writer} (c : Cursor) → n ≡ 0 → ArgumentsSay f c.at n a w w (Some c)
unfolding subst_args arg_nodes
arguments_none c z = record {
  says = λ h over g p q. let x = none_is z p in (x.ends, rw x.same (record { took = omega arith; ends = omega arith; same = refl; stand = sym (append-nil _) }));
  room = record { same = refl; fewer = omega arith; room = omega arith };
}

-- what is kept where a type ended
pub room_there : {more : ℕ} {w w₁ : Writer} {x : Option Cursor} {y : Cursor} → Room more w w₁ x → x ≡ Some y → Keeps more w w₁
room_there {more} {w} {w₁} o i = transport (λ (y : Option Cursor). Room more w w₁ y) i o

module _ {f : List ℕ} {c n : ℕ} {a : Arguments} {w w₁ : Writer} {d : Result Argument Refusal} (m : ArgumentSays f c d) (z : n ≡ 0 → ⊥) where
  pub arguments_refused : {k : Refusal} → d ≡ Err k → ArgumentsSay f c n a w w₁ None
  arguments_refused e = record { says = λ h over g p q. absurd (on_argument m z e p); room = tt }

  pub arguments_region : {x y : Region} {i : Cursor} {w₀ : Writer} {r : Option Cursor} → d ≡ Ok (arguments.Region x i) → RegionSays a x y → Puts 0 (0 ∷ region_tag (region_of y) ∷ region_number (region_of y) ∷ []) w w₀ → ArgumentsSay f i.at (n - 1) a w₀ w₁ r → ArgumentsSay f c n a w w₁ r
  unfolding subst_args
  arguments_region {x = x} {y = y} {r = r} e v h u = record {
    says = λ k over g p q.
        let b = on_argument m z e p in
        transport (λ (o : Args). Writes f over (arg_nodes (subst_args o g)) (spell_args (subst_args o g)) w w₁ r) (sym b.same)
        (region_writes f over w₁ r (subst_region g (region_of x)) (region_of y) (subst_args b.more g) (v.says g q) h (u.says b.more over g b.others q));
    room = room-more h (3 * n) (3 * (n - 1)) w₁ (omega arith) r u.room;
  }

  module _ {i : Cursor} {w₀ w₂ : Writer} {x : Option Cursor} (e : d ≡ Ok (arguments.Type i)) (l : Puts 0 (1 ∷ []) w w₀) (v : SubstSays f i.at a w₀ w₂ x) where
    pub arguments_over : x ≡ None → ArgumentsSay f c n a w w₁ None
    unfolding subst_args arg_nodes
    arguments_over j = record {
      says = λ k over g p q.
          let b = on_argument m z e p in
          let y = transport (λ (o : Option Cursor). Writes f b.mid (type_nodes (subst b.item g)) (spell (subst b.item g)) w₀ w₂ o) j (v.says b.item b.mid g b.first q) in
          transport (λ (o : Args). w.left < arg_nodes (subst_args o g)) (sym b.same) (omega (arith, l.took, y));
      room = tt;
    }

    pub arguments_type : {y : Cursor} {r : Option Cursor} → x ≡ Some y → ArgumentsSay f y.at (n - 1) a w₂ w₁ r → ArgumentsSay f c n a w w₁ r
    unfolding subst_args
    arguments_type {y} {r = r} j u = record {
      says = λ k over g p q.
          let b = on_argument m z e p in
          let t = transport (λ (o : Option Cursor). Writes f b.mid (type_nodes (subst b.item g)) (spell (subst b.item g)) w₀ w₂ o) j (v.says b.item b.mid g b.first q) in
          let s : ArgsTo (rest f y) (n - 1) b.more over = transport (λ (o : List ℕ). ArgsTo o (n - 1) b.more over) (sym t.0) b.others in
          transport (λ (o : Args). Writes f over (arg_nodes (subst_args o g)) (spell_args (subst_args o g)) w w₁ r) (sym b.same)
          (type_writes f over w₁ r (subst b.item g) (subst_args b.more g) l t.1 (u.says b.more over g s q));
      room = room-more l (3 * n) (3 * (n - 1)) w₁ (omega arith) r (room-then (3 * (n - 1)) w₁ (room_there v.room j) r u.room);
    }

-- ---- Whole types

stood : (u : Ty) (w w₁ : Writer) → w.at ≡ 0 → w.left ≡ 32 → Fine u → Puts (type_nodes u) (spell u) w w₁ → Stood w₁.out.now u w₁.at
stood u w w₁ z n f p =
    let e : take w₁.at w₁.out.now ≡ spell u = rw z at p.stand in
    record { few = omega (arith, p.took); stands = transport (λ (o : List ℕ). TypeTo o u (drop w₁.at w₁.out.now)) (ap (λ (l : List ℕ). l ++ drop w₁.at w₁.out.now) (sym e) ∙ take-append-drop w₁.at w₁.out.now) (type_to u f) }

by_writes : (g over : List ℕ) (w w₁ : Writer) (u : Ty) {x y : Option Cursor} → x ≡ y → Writes g over (type_nodes u) (spell u) w w₁ x → Writes g over (type_nodes u) (spell u) w w₁ y
by_writes g over w w₁ u e q = transport (λ (z : Option Cursor). Writes g over (type_nodes u) (spell u) w w₁ z) e q

module _ {field : List ℕ} {x : ℕ} {a : Arguments} {w w₁ : Writer} {r : Option Cursor} (z : w.at ≡ 0) (n : w.left ≡ 32) (v : SubstSays field x a w w₁ r) where
  all : {y : Option Cursor} → r ≡ y → (t : Ty) (g : Args) (p : TypeAt field x t) → Given a g → Fine (subst t g) × Writes field p.over (type_nodes (subst t g)) (spell (subst t g)) w w₁ y
  all e t g p q =
      let f = subst_fine t g (args-bytes q.stand).fine (type-bytes p.stands).fine in
      (f, by_writes field p.over w w₁ (subst t g) e (v.says t p.over g p.stands q))

  pub whole-over : {out : List ℕ} → r ≡ None → WholeSays field x a out None
  whole-over e = record { says = λ t g p q. let k = (all e t g p q).1 in omega arith }

  pub whole_written : {y : Cursor} → r ≡ Some y → WholeSays field x a w₁.out.now (Some w₁.at)
  whole_written e = record { says = λ t g p q. let k = all e t g p q in stood (subst t g) w w₁ z n k.0 k.1.1 }

module _ {field : List ℕ} {x : ℕ} {next : Cursor} {w w₁ : Writer} {r : Option Cursor} (z : w.at ≡ 0) (n : w.left ≡ 32) (v : CopySays field x next w w₁ r) where
  pub copied_over : {out : List ℕ} → r ≡ None → CopiedSays field x out None
  copied_over e = record { says = λ t p. let k = by_writes field (rest field next) w w₁ t e (v.says field t p.over p.stands) in omega arith }

  pub copied_written : {y : Cursor} → r ≡ Some y → CopiedSays field x w₁.out.now (Some w₁.at)
  copied_written e = record { says = λ t p. stood t w w₁ z n (type-bytes p.stands).fine (by_writes field (rest field next) w w₁ t e (v.says field t p.over p.stands)).1 }
