-- What each way through the comparison of two types says of them. Assumes nothing.
use mathlib.Core.Path.{◌≡◌, refl, sym, ap, subst, ◌∙◌}
use mathlib.Core.Bool.{Bool, true, false}
use mathlib.Core.List.{List}
use Prim.Native.Nat.{ℕ, suc, ◌-◌, ◌≤◌}
use native.Mathlib.Omega.{arith}
use native.Mathlib.Nat.{le_refl, sub-zero}
use lib.ListN.{drop}
use Rattle.nll_spec.specs.Syntax.{Ty, UnitTy, RefTy, Args, RegionArg, TypeArg, BorrowKind as Kind, Region as SomeRegion}
use Rattle.nll_spec.specs.Decode.{max_nodes}
use Rattle.nll_spec.specs.Types.{same_kind, head_type, tail_args, type_nodes, arg_nodes}
use Rattle.nll_spec.specs.WellFormed.{same_shape, same_shapes}
use Rattle.repr.specs.Reading.{rest, borrow_kind_of}
use Rattle.repr.specs.Types.{node, NodeSays, nodes_says}
use Rattle.repr.specs.Types as repr_types
use Rattle.repr.specs.Stands.{ArgsTo}
use Rattle.repr.specs.declared.Cursor.{Cursor}
use denote.Enum.Bare.{sameb}
use Rattle.repr.specs.contracts.BorrowKind.{the_type}
use Rattle.repr.specs.declared.BorrowKind.{BorrowKind}
use Rattle.repr.specs.declared.BorrowKind.TheVariants.{Mut, Shared}
use Rattle.repr.specs.declared.Region.{Region}
use Rattle.repr.specs.declared.StructName.{StructName}
use Rattle.repr.specs.declared.Node.{Node}
use Rattle.repr.specs.declared.Node.TheVariants as nodes
use Rattle.repr.specs.declared.Rest.{Rest}
use Rattle.repr.specs.declared.refusal.Refusal.{Refusal}
use Rattle.std.proofs.Common.{rules}
use Rattle.std.specs.Prelude.{Option, Some, None, Result, Ok, Err}
use Rattle.std.specs.Option.{is_some}
use Rattle.repr.proofs.SpellLaws.{clash}
use Rattle.repr.proofs.StandLaws.{NodeIs, on-node, none_is, args-passed}
use Rattle.repr.proofs.NodeLaws.{type-nodes, unit-nodes, ref_nodes, struct_nodes, region-nodes, first-nodes, tail-nodes}
use Rattle.beside.specs.Beside.{heads_of, TypesFirst, PairIs, FirstsSay}
use Rattle.repr.specs.declared.Row.{Row}
use Rattle.beside.specs.declared.Heads.{Heads}
use Rattle.beside.specs.declared.Heads.TheVariants as heads
use Rattle.beside.specs.declared.Pair.{Pair}
use Rattle.beside.specs.declared.Pair.TheVariants as pairs
use Rattle.beside.proofs.BesideLaws.{heads_by}
use Rattle.ty.specs.Shape.{same, differ, shapes, shape_says, Fewer, TypesSay, FirstIs, FirstSays, ArgumentsSay, SameShape, SameAsRef}
use Rattle.beside.specs.declared.Both.{Both}

-- ---- Nodes that are left

pub fewer-still : {l left : ℕ} (r : Option Both) → Fewer l r → l ≤ left → Fewer left r
fewer-still (Some s) h g = omega arith
fewer-still None h g = tt

-- what was found so far leaves no more nodes than there were
pub rest-fewer : {left : ℕ} {s : Both} (r : Option Both) → Fewer left r → r ≡ Some s → s.left ≤ left
rest-fewer {left} r h e = subst (λ (x : Option Both). Fewer left x) e h

-- ---- Two types

pub types_none : {a : List ℕ} {x : ℕ} {b : List ℕ} {y left : ℕ} → left ≡ 0 → TypesSay a x b y left None
types_none z = record { says = λ t u p q s o h i. absurd (let k = type-nodes t in omega arith); fewer = tt }

module _ {a : List ℕ} {x : ℕ} {b : List ℕ} {y left : ℕ} {j k : Result Node Refusal} {h : Option Heads} (m : NodeSays node a x j) (n : NodeSays node b y k) (e : h ≡ heads_of j k) where
  pub types_differ : h ≡ None → TypesSay a x b y left None
  types_differ f = record { says = λ t u p q s o g i. rw (heads_by m n e f s o); fewer = tt }

  pub types_units : {c d : Cursor} → h ≡ Some (heads.Units c d) → TypesSay a x b y left (Some (record { left = left - 1; a = c; b = d }))
  types_units f = record { says = λ t u p q s o g i. let w = heads_by m n e f s o in rw (w.alike, unit-nodes w.a_same, w.a_ends, w.b_ends); fewer = omega arith }

  pub types_refs : {k' : BorrowKind} {r' o' : Region} {c d : Cursor} {r : Option Both} → h ≡ Some (heads.Refs k' r' c o' d) → (left ≡ 0 → ⊥) → TypesSay a c.at b d.at (left - 1) r → TypesSay a x b y left r
  types_refs {r = r} f z v = record {
    says = λ t u p q s o g i.
        let w = heads_by m n e f s o in
        let ka = ref_nodes w.a_same in
        let kb = ref_nodes w.b_same in
        let l : left - 1 - type_nodes w.first ≡ left - type_nodes t = omega arith in
        v.says w.first w.second p q w.a_stands w.b_stands (omega arith) (omega arith) ∙ rw (← w.alike, l);
    fewer = fewer-still r v.fewer (omega arith);
  }

  pub types_structs : {name : StructName} {c d : Row} {r : Option Both} → h ≡ Some (heads.Structs name c d) → (left ≡ 0 → ⊥) → ArgumentsSay a c b d (left - 1) r → TypesSay a x b y left r
  types_structs {r = r} f z v = record {
    says = λ t u p q s o g i.
        let w = heads_by m n e f s o in
        let ka = struct_nodes w.a_same in
        let kb = struct_nodes w.b_same in
        let l : left - 1 - arg_nodes w.first ≡ left - type_nodes t = omega arith in
        v.says w.first w.second p q w.a_stand w.b_stand (omega arith) (omega arith) ∙ rw (← w.alike, l);
    fewer = fewer-still r v.fewer (omega arith);
  }

-- what the answer tells of the shapes
pub told_differ : (z : Bool) (l : ℕ) (p q : List ℕ) → differ ≡ shapes z l p q → z ≡ false
told_differ true l p q e = absurd (search rules)
told_differ false l p q e = refl

pub record Alike (z : Bool) (k l : ℕ) (p q p' q' : List ℕ) : Type 0 where
  pub alike : z ≡ true
  pub nodes : k ≡ l
  pub a_ends : p ≡ p'
  pub b_ends : q ≡ q'

pub told_same : (z : Bool) {k : ℕ} (l : ℕ) {p q : List ℕ} (p' q' : List ℕ) → same k p q ≡ shapes z l p' q' → Alike z k l p q p' q'
told_same true l p' q' e = record { alike = refl; nodes = cc; a_ends = cc; b_ends = cc }
told_same false l p' q' e = absurd (search rules)

-- ---- The first of two rows

region-shapes : {g : Args} {r : SomeRegion} {more : Args} (h : Args) → g ≡ RegionArg r more → same_shapes g h ≡ same_shapes more (tail_args h)
unfolding same_shapes
region-shapes h e = rw e

unit-shapes : {g more : Args} (h : Args) → g ≡ TypeArg UnitTy more → head_type h ≡ UnitTy → same_shapes g h ≡ same_shapes more (tail_args h)
unfolding same_shapes same_shape
unit-shapes h e f = rw (e, f)

-- two types beside each other
types_alike : {g h : Args} {t u : Ty} {more others : Args} → g ≡ TypeArg t more → h ≡ TypeArg u others → same_shape t u ≡ true → same_shapes g h ≡ same_shapes more others
unfolding same_shapes
types_alike e f i = rw (e, f, i)

types_unlike : {g h : Args} {t u : Ty} {more others : Args} → g ≡ TypeArg t more → h ≡ TypeArg u others → same_shape t u ≡ false → same_shapes g h ≡ false
unfolding same_shapes
types_unlike e f i = rw (e, f, i)

on_pair : {a : List ℕ} {x : ℕ} {b : List ℕ} {row : Row} {pair w : Option Pair} → FirstsSay a x b row pair → pair ≡ w → (m : ℕ) (g h : Args) (p q : List ℕ) → (m ≡ 0 → ⊥)
    → ArgsTo (drop x a) m g p → ArgsTo (rest b row.from) row.count h q → arg_nodes h ≤ max_nodes → PairIs a b m row.count g h p q w
on_pair {a} {b = b} {row = row} v e m g h p q z s o i = subst (λ (u : Option Pair). PairIs a b m row.count g h p q u) e (v.says m g h p q z s o i)

module _ {a : List ℕ} {x : ℕ} {b : List ℕ} {row : Row} {left : ℕ} {pair : Option Pair} (v : FirstsSay a x b row pair) where
  pub first-differ : pair ≡ None → FirstSays a x b row left None
  first-differ e = record { says = λ m g h p q z s o i j. on_pair v e m g h p q z s o j; fewer = tt }

  pub first-regions : {r o : Region} {c d : Cursor} → pair ≡ Some (pairs.Regions r c o d) → FirstSays a x b row left (Some (record { left = left; a = c; b = d }))
  first-regions e = record {
    says = λ m g h p q z s o i j.
        let w = on_pair v e m g h p q z s o j in
        let k = region-nodes w.same in
        record { more = w.more; alike = region-shapes h w.same; nodes = omega arith; a_stand = w.others; b_stand = w.second.others };
    fewer = le_refl left;
  }

  module _ {c d : Cursor} (e : pair ≡ Some (pairs.Units c d)) where
    pub first_spent : left ≡ 0 → FirstSays a x b row left None
    first_spent f = record {
      says = λ m g h p q z s o i j.
          let w = on_pair v e m g h p q z s o j in
          let k = first-nodes w.same in
          let l = type-nodes UnitTy in
          absurd (omega arith);
      fewer = tt;
    }

    pub first_units : (left ≡ 0 → ⊥) → FirstSays a x b row left (Some (record { left = left - 1; a = c; b = d }))
    first_units f = record {
      says = λ m g h p q z s o i j.
          let w = on_pair v e m g h p q z s o j in
          let k = first-nodes w.same in
          let l = unit-nodes {t = UnitTy} refl in
          record { more = w.more; alike = unit-shapes h w.same w.second.unit; nodes = omega arith; a_stand = w.others; b_stand = w.second.others };
      fewer = omega arith;
    }

  module _ {c d : Cursor} (e : pair ≡ Some (pairs.Types c d)) where
    pub first_types : {r : Option Both} → TypesSay a c.at b d.at left r → FirstSays a x b row left r
    first_types {r} u = record {
      says = λ m g h p q z s o i j.
          let w = on_pair v e m g h p q z s o j in
          let ka = first-nodes w.first.same in
          let kb = first-nodes w.second.same in
          go r m g h p q i w (u.says w.first.item w.second.item w.first.mid w.second.mid w.first.first w.second.first (omega arith) (omega arith));
      fewer = u.fewer;
    }
      where
        go : (r : Option Both) (m : ℕ) (g h : Args) (p q : List ℕ) → arg_nodes g ≤ left → (w : TypesFirst (rest a c) (m - 1) (rest b d) (row.count - 1) g h p q)
            → shape_says a b r ≡ shapes (same_shape w.first.item w.second.item) (left - type_nodes w.first.item) w.first.mid w.second.mid → FirstIs a b m row.count left g h p q r
        go None m g h p q i w f = types_unlike w.first.same w.second.same (told_differ _ _ _ _ f)
        go (Some s') m g h p q i w f =
            let y = told_same (same_shape w.first.item w.second.item) _ _ _ f in
            let k = first-nodes w.first.same in
            let n = y.nodes in
            let tail : tail_args h ≡ w.second.more = rw w.second.same in
            record {
              more = w.first.more;
              alike = rw tail (types_alike w.first.same w.second.same y.alike);
              nodes = omega arith;
              a_stand = rw y.a_ends w.first.others;
              b_stand = rw (tail, y.b_ends) w.second.others;
            }

-- ---- Two rows of arguments

module _ {a : List ℕ} {x : Row} {b : List ℕ} {y : Row} {left : ℕ} where
  module _ {r : Result Rest Refusal} (v : repr_types.ArgumentsSay b y.from.at y.count 32 r) (z : x.count ≡ 0) where
    pub arguments_short : {k : Refusal} → r ≡ Err k → ArgumentsSay a x b y left None
    arguments_short e = record { says = λ g h p q s o i j. absurd (clash (sym (ap (nodes_says b) e) ∙ args-passed v o j)); fewer = tt }

    pub arguments_none : {d : Rest} → r ≡ Ok d → ArgumentsSay a x b y left (Some (record { left = left; a = x.from; b = d.next }))
    unfolding same_shapes arg_nodes
    arguments_none {d} e = record {
      says = λ g h p q s o i j.
          let w = none_is z s in
          let k = sym (ap (nodes_says b) e) ∙ args-passed v o j in
          let f : rest b d.next ≡ q = cc in
          rw (w.same, w.ends, f, sub-zero);
      fewer = le_refl left;
    }

  module _ (z : x.count ≡ 0 → ⊥) {w : Option Both} (v : FirstSays a x.from.at b y left w) where
    on-first : {r : Option Both} → w ≡ r → (g h : Args) (p q : List ℕ) → ArgsTo (rest a x.from) x.count g p → ArgsTo (rest b y.from) y.count h q → arg_nodes g ≤ left → arg_nodes h ≤ max_nodes → FirstIs a b x.count y.count left g h p q r
    on-first e g h p q s o i j = subst (λ (r : Option Both). FirstIs a b x.count y.count left g h p q r) e (v.says x.count g h p q z s o i j)

    pub arguments_differ : w ≡ None → ArgumentsSay a x b y left None
    arguments_differ e = record { says = λ g h p q s o i j. rw (on-first e g h p q s o i j); fewer = tt }

    pub arguments_more : {s : Both} → w ≡ Some s → {x' y' : Row} → (x'.from ≡ s.a) × (x'.count ≡ x.count - 1) → (y'.from ≡ s.b) × (y'.count ≡ y.count - 1)
        → {r : Option Both} → ArgumentsSay a x' b y' s.left r → ArgumentsSay a x b y left r
    arguments_more {s} e ex ey {r} u = record {
      says = λ g h p q v o i j.
          let k = on-first e g h p q v o i j in
          let n = k.nodes in
          let few = tail-nodes h in
          let f : s.left - arg_nodes k.more ≡ left - arg_nodes g = omega arith in
          u.says k.more (tail_args h) p q (rw (ex.0, ex.1) k.a_stand) (rw (ey.0, ey.1) k.b_stand) (omega arith) (omega arith) ∙ rw (← k.alike, f);
      fewer = fewer-still r u.fewer (rest-fewer w v.fewer e);
    }

-- ---- Whole types

pub whole : {a : List ℕ} {x : ℕ} {b : List ℕ} {y : ℕ} {r : Option Both} → TypesSay a x b y 32 r → SameShape a x b y (is_some r)
whole {r = Some s} v = record { says = λ t u p q h k. sym (told_same (same_shape t u) _ _ _ (v.says t u p.over q.over p.stands q.stands h k)).alike }
whole {r = None} v = record { says = λ t u p q h k. sym (told_differ (same_shape t u) _ _ _ (v.says t u p.over q.over p.stands q.stands h k)) }

-- ---- A type, against a Ref

-- the test of two kinds
pub kinds_alike : (j k : BorrowKind) → sameb the_type j k ≡ same_kind (borrow_kind_of j) (borrow_kind_of k)
kinds_alike Mut Mut = refl
kinds_alike Mut Shared = refl
kinds_alike Shared Mut = refl
kinds_alike Shared Shared = refl

module _ {a : List ℕ} {x : ℕ} {b : List ℕ} {y : ℕ} {d : Result Node Refusal} (m : NodeSays node a x d) (k : Kind) where
  pub ref_none : {r : Refusal} → d ≡ Err r → SameAsRef k a x b y false
  ref_none e = record { says = λ t u o p q h i. absurd (on-node m e p.stands) }

  pub ref_other : {n : Node} → d ≡ Ok n → ((j : BorrowKind) (r : Region) (c : Cursor) → n ≡ nodes.Ref j r c → ⊥) → SameAsRef k a x b y false
  unfolding same_shape
  ref_other {n} e f = record { says = λ t u o p q h i. go t u o p.over n f (on-node m e p.stands) }
    where
      go : (t u : Ty) (o : SomeRegion) (over : List ℕ) (n : Node) → ((j : BorrowKind) (r : Region) (c : Cursor) → n ≡ nodes.Ref j r c → ⊥) → NodeIs a t over (Ok n) → false ≡ same_shape t (RefTy k o u)
      go t u o over (nodes.Unit c) e w = rw w.same
      go t u o over (nodes.Ref j r c) e w = absurd (e j r c refl)
      go t u o over (nodes.Struct z g) e w = rw w.same
      go t u o over (nodes.Bound i c) e w = rw w.same

  module _ {j : BorrowKind} {o : Region} {c : Cursor} (e : d ≡ Ok (nodes.Ref j o c)) where
    pub ref_differ : same_kind (borrow_kind_of j) k ≡ false → SameAsRef k a x b y false
    unfolding same_shape
    ref_differ f = record { says = λ t u r p q h g. let w = on-node m e p.stands in rw (w.same, f) }

    pub ref_same : {r : Bool} → same_kind (borrow_kind_of j) k ≡ true → SameShape a c.at b y r → SameAsRef k a x b y r
    unfolding same_shape type_nodes
    ref_same f v = record {
      says = λ t u r p q h g.
          let w = on-node m e p.stands in
          let l : type_nodes t ≡ suc (type_nodes w.referent) = ref_nodes w.same in
          rw (w.same, f) (v.says w.referent u (record { over = p.over; stands = w.stands }) q (omega arith) g);
    }
