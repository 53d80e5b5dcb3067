-- A test of a type, and of arguments, node by node. Assumes nothing.
use mathlib.Core.Path.{◌≡◌, refl, sym, ap, subst, ◌∙◌}
use mathlib.Core.Bool.{Bool, true, false, ◌&&◌}
use mathlib.Core.List.{List}
use Prim.Native.Nat.{ℕ, ◌-◌, ◌≤◌}
use native.Mathlib.Omega.{arith}
use native.Mathlib.Nat.{le_refl, sub-zero}
use lib.ListN.{drop}
use Rattle.nll_spec.specs.Syntax.{Ty, UnitTy, RefTy, StructTy, BoundTy, Args, NoArgs, RegionArg, TypeArg}
use Rattle.nll_spec.specs.Decode.{type}
use Rattle.nll_spec.specs.Types.{arg_count, type_nodes, arg_nodes}
use Rattle.repr.specs.Reading.{borrow_kind_of, region_of}
use Rattle.repr.specs.Types.{node, NodeSays, ArgumentSays}
use Rattle.repr.specs.declared.Cursor.{Cursor}
use Rattle.repr.specs.declared.Row.{Row}
use Rattle.repr.specs.declared.BorrowKind.{BorrowKind}
use Rattle.repr.specs.declared.Region.{Region}
use Rattle.repr.specs.declared.StructName.{StructName}
use Rattle.repr.specs.Stands.{TypeTo, ArgsTo, FirstType}
use Rattle.repr.proofs.StandLaws.{LeafIs, on-node, on_argument, none_is, args-bytes, whole}
use Rattle.repr.proofs.NodeLaws.{type-nodes, ref_nodes, struct_nodes, first-nodes}
use Rattle.refusals.specs.Tests.{onto, stays, walk, walk_says, FewerNodes, TypeWalk, ArgsWalk, Passes}
use Rattle.std.proofs.Common.{rules}
use Rattle.std.specs.Prelude.{Result, Ok, Err}
use Rattle.repr.specs.declared.Node.{Node}
use Rattle.repr.specs.declared.Node.TheVariants as nodes
use Rattle.repr.specs.declared.Argument.{Argument}
use Rattle.repr.specs.declared.Argument.TheVariants as arguments
use Rattle.repr.specs.declared.Rest.{Rest}
use Rattle.repr.specs.declared.refusal.Refusal.{Refusal}

-- ---- What the answer tells of the test

pub told_stays : (z : Bool) (l : ℕ) (p : List ℕ) → stays ≡ walk z l p → z ≡ false
told_stays true l p e = absurd (search rules)
told_stays false l p e = refl

pub record Onto (z : Bool) (k l : ℕ) (p q : List ℕ) : Type 0 where
  pub passes : z ≡ true
  pub nodes : k ≡ l
  pub ends : p ≡ q

pub told_onto : (z : Bool) {k : ℕ} (l : ℕ) {p : List ℕ} (q : List ℕ) → onto k p ≡ walk z l q → Onto z k l p q
told_onto true l q e = record { passes = refl; nodes = cc; ends = cc }
told_onto false l q e = absurd (search rules)

pub fewer-still : {l left : ℕ} (r : Result Rest Refusal) → FewerNodes l r → l ≤ left → FewerNodes left r
fewer-still (Ok e) h g = omega arith
fewer-still (Err k) h g = tt

pub rest-fewer : {left : ℕ} {e : Rest} {r : Result Rest Refusal} → FewerNodes left r → r ≡ Ok e → e.left ≤ left
rest-fewer {left} h e = subst (λ (x : Result Rest Refusal). FewerNodes left x) e h

-- ---- A type

module _ {test : Ty → Bool} {s : List ℕ} {at left : ℕ} where
  pub type-none : {k : Refusal} → left ≡ 0 → TypeWalk test s at left (Err k)
  type-none z = record { says = λ t bs p h. absurd (let k = type-nodes t in omega arith) }

  -- a type with no parts
  leaf : {u : Ty} {c : Cursor} → type_nodes u ≡ 1 → test u ≡ true → ((t : Ty) (bs : List ℕ) → TypeTo (drop at s) t bs → LeafIs s t bs u c) → TypeWalk test s at left (Ok (record { left = left - 1; next = c }))
  leaf n g f = record { says = λ t bs p h. let w = f t bs p in rw (w.same, g, n, w.ends) }

  module _ {d : Result Node Refusal} (m : NodeSays node s at d) where
    pub type-refused : {k l : Refusal} → d ≡ Err k → TypeWalk test s at left (Err l)
    type-refused e = record { says = λ t bs p h. absurd (on-node m e p) }

    pub type-unit : {c : Cursor} → d ≡ Ok (nodes.Unit c) → test UnitTy ≡ true → TypeWalk test s at left (Ok (record { left = left - 1; next = c }))
    unfolding type_nodes
    type-unit e g = leaf refl g (λ t bs p. on-node m e p)

    pub type_bound : {b : ℕ} {c : Cursor} → d ≡ Ok (nodes.Bound b c) → test (BoundTy b) ≡ true → TypeWalk test s at left (Ok (record { left = left - 1; next = c }))
    unfolding type_nodes
    type_bound e g = leaf refl g (λ t bs p. on-node m e p)

    pub bound_fails : {b : ℕ} {k : Refusal} {c : Cursor} → d ≡ Ok (nodes.Bound b c) → test (BoundTy b) ≡ false → TypeWalk test s at left (Err k)
    bound_fails e g = record { says = λ t bs p h. let w = on-node m e p in rw (w.same, g) }

    module _ {q : BorrowKind} {o : Region} {c : Cursor} (e : d ≡ Ok (nodes.Ref q o c)) where
      pub type_ref : {r : Result Rest Refusal} → (left ≡ 0 → ⊥) → ((t : Ty) → test (RefTy (borrow_kind_of q) (region_of o) t) ≡ test t) → TypeWalk test s c.at (left - 1) r → TypeWalk test s at left r
      unfolding type_nodes
      type_ref z g v = record {
        says = λ t bs p h.
            let w = on-node m e p in
            let n = ref_nodes w.same in
            let l : left - 1 - type_nodes w.referent ≡ left - type_nodes t = omega arith in
            v.says w.referent bs w.stands (omega arith) ∙ rw (l, ap test w.same ∙ g w.referent);
      }

      pub ref_fails : {k : Refusal} → ((t : Ty) → test (RefTy (borrow_kind_of q) (region_of o) t) ≡ false) → TypeWalk test s at left (Err k)
      ref_fails g = record { says = λ t bs p h. let w = on-node m e p in rw (w.same, g w.referent) }

    module _ {name : StructName} {row : Row} (e : d ≡ Ok (nodes.Struct name row)) where
      pub type_struct : {tests : Args → Bool} {r : Result Rest Refusal} → (left ≡ 0 → ⊥) → ((g : Args) → test (StructTy name.0 g) ≡ tests g) → ArgsWalk tests s row.from.at row.count (left - 1) r → TypeWalk test s at left r
      unfolding type_nodes
      type_struct z f v = record {
        says = λ t bs p h.
            let w = on-node m e p in
            let i = struct_nodes w.same in
            let l : left - 1 - arg_nodes w.given ≡ left - type_nodes t = omega arith in
            v.says w.given bs w.stands (omega arith) ∙ rw (l, ap test w.same ∙ f w.given);
      }

      pub struct_fails : {k : Refusal} → ((g : Args) → arg_count g ≡ row.count → test (StructTy name.0 g) ≡ false) → TypeWalk test s at left (Err k)
      struct_fails f = record { says = λ t bs p h. let w = on-node m e p in rw (w.same, f w.given (args-bytes w.stands).count) }

-- ---- Arguments

-- the first of them, a type that was tested
on-first : {s : List ℕ} {at n left : ℕ} {g : Args} {bs : List ℕ} {first : Ty → Bool} {w : Result Rest Refusal} → TypeWalk first s at left w → (x : FirstType (drop at s) n g bs) → arg_nodes g ≤ left → walk_says s w ≡ walk (first x.item) (left - type_nodes x.item) x.mid
on-first v x h = let k = first-nodes x.same in v.says x.item x.mid x.first (omega arith)

module _ {test : Args → Bool} {s : List ℕ} {n left : ℕ} where
  pub args_none : (c : Cursor) → n ≡ 0 → test NoArgs ≡ true → ArgsWalk test s c.at n left (Ok (record { left = left; next = c }))
  unfolding arg_nodes
  args_none c z f = record { says = λ g bs p h. let w = none_is z p in rw (w.same, f, w.ends, sub-zero) }

  module _ {at : ℕ} {d : Result Argument Refusal} (m : ArgumentSays s at d) (z : n ≡ 0 → ⊥) where
    pub args-refused : {k l : Refusal} → d ≡ Err k → ArgsWalk test s at n left (Err l)
    args-refused e = record { says = λ g bs p h. absurd (on_argument m z e p) }

    module _ {o : Region} {c : Cursor} (e : d ≡ Ok (arguments.Region o c)) where
      pub args-region : {others : Args → Bool} {r : Result Rest Refusal} → ((g : Args) → test (RegionArg (region_of o) g) ≡ others g) → ArgsWalk others s c.at (n - 1) left r → ArgsWalk test s at n left r
      unfolding arg_nodes
      args-region f v = record { says = λ g bs p h. let w = on_argument m z e p in rw (w.same, f w.more) (v.says w.more bs w.others (rw w.same at h)) }

      pub region-fails : {k : Refusal} → ((g : Args) → test (RegionArg (region_of o) g) ≡ false) → ArgsWalk test s at n left (Err k)
      region-fails f = record { says = λ g bs p h. let w = on_argument m z e p in rw (w.same, f w.more) }

    module _ {c : Cursor} (e : d ≡ Ok (arguments.Type c)) where
      -- no type stands well there
      pub type-fails : {k : Refusal} → ((t : Ty) (g : Args) → test (TypeArg t g) ≡ false) → ArgsWalk test s at n left (Err k)
      type-fails f = record { says = λ g bs p h. let w = on_argument m z e p in rw (w.same, f w.item w.more) }

      module _ {first : Ty → Bool} (others : Args → Bool) {w : Result Rest Refusal} (f : (t : Ty) (g : Args) → test (TypeArg t g) ≡ first t && others g) (v : TypeWalk first s c.at left w) where
        pub first-fails : {k l : Refusal} → w ≡ Err k → ArgsWalk test s at n left (Err l)
        first-fails i = record {
          says = λ g bs p h.
              let x = on_argument m z e p in
              rw (x.same, f x.item x.more, told_stays (first x.item) _ _ (sym (ap (walk_says s) i) ∙ on-first v x h));
        }

        pub args-type : {to : Rest} {r : Result Rest Refusal} → w ≡ Ok to → ArgsWalk others s to.next.at (n - 1) to.left r → ArgsWalk test s at n left r
        unfolding arg_nodes
        args-type {to} {r} i u = record {
          says = λ g bs p h.
              let x = on_argument m z e p in
              let k = first-nodes x.same in
              let y = told_onto (first x.item) _ _ (sym (ap (walk_says s) i) ∙ on-first v x h) in
              let j = y.nodes in
              let l : to.left - arg_nodes x.more ≡ left - arg_nodes g = omega arith in
              let a : test g ≡ others x.more = ap test x.same ∙ f x.item x.more ∙ rw y.passes in
              u.says x.more bs (subst (λ (o : List ℕ). ArgsTo o (n - 1) x.more bs) (sym y.ends) x.others) (omega arith) ∙ rw (l, a);
        }

-- ---- Part of the way

-- An answer for what is left of the way, with at most few nodes, is the answer for the whole, with at most left.
pub record Onward (few left : ℕ) (Part Whole : Result Rest Refusal → Type 0) : Type 0 where
  pub fewer : few ≤ left
  pub whole : (r : Result Rest Refusal) → Part r → Whole r

pub start : {left : ℕ} {Whole : Result Rest Refusal → Type 0} → Onward left left Whole Whole
start {left} = record { fewer = le_refl left; whole = λ r v. v }

pub further : {l few left : ℕ} {Next Part Whole : Result Rest Refusal → Type 0} → Onward few left Part Whole → l ≤ few → ((r : Result Rest Refusal) → Next r → Part r) → Onward l left Next Whole
further x h f = record { fewer = omega arith; whole = λ r v. x.whole r (f r v) }

-- ---- A whole type

module _ {test : Ty → Bool} {s : List ℕ} {at : ℕ} {d : Result Rest Refusal} (v : TypeWalk test s at 32 d) where
  pub whole-fails : {k l : Refusal} → d ≡ Err k → Passes type test s at (Err l)
  whole-fails i = record { says = λ t bs e. let w = whole e in rw (told_stays (test t) _ _ (sym (ap (walk_says s) i) ∙ v.says t bs w.stands w.few)) }

  pub whole-passes : {e : Rest} → d ≡ Ok e → Passes type test s at (Ok e.next)
  whole-passes i = record { says = λ t bs e. let w = whole e in let y = told_onto (test t) _ _ (sym (ap (walk_says s) i) ∙ v.says t bs w.stands w.few) in rw (y.passes, y.ends) }
