-- What each way through the relation of two types adds. Assumes nothing.
use mathlib.Core.Path.{◌≡◌, refl, sym, ap, subst, ◌∙◌}
use mathlib.Core.Bool.{true, and-eq-true_iff, true≢false}
use mathlib.Core.List.{List, [], ◌∷◌, ◌++◌, tail}
use Prim.Native.Nat.{ℕ, ◌+◌, ◌-◌, ◌≤◌}
use native.Mathlib.Omega.{arith}
use native.Mathlib.Nat.{le_refl, sub-zero}
use denote.Floats.{passes}
use Rattle.nll_spec.specs.Syntax as syntax
use Rattle.nll_spec.specs.Syntax.{Ty, UnitTy, RefTy, StructTy, Args, NoArgs, RegionArg, TypeArg, Param, Free}
use Rattle.nll_spec.specs.Decode.{max_nodes}
use Rattle.nll_spec.specs.Types.{struct_of, head_region, head_type, tail_args, type_nodes, arg_nodes}
use Rattle.nll_spec.specs.Constraints.{Outlives, invert, within, referent_variance, head_variance, require_outlives, relate_regions, relate, relate_args}
use Rattle.nll_spec.specs.WellFormed.{is_ref_of, same_shape, same_shapes}
use Rattle.nll_spec.proofs.Tests.{is_true}
use Rattle.repr.specs.Reading.{rest, borrow_kind_of, variance_of, region_of}
use Rattle.repr.specs.Types.{node, NodeSays, nodes_says}
use Rattle.repr.specs.Types as repr_types
use Rattle.repr.specs.declared.Cursor.{Cursor}
use Rattle.repr.specs.declared.BorrowKind.{BorrowKind}
use Rattle.repr.specs.declared.Region.{Region}
use Rattle.repr.specs.declared.Region.TheVariants as regions
use Rattle.repr.specs.declared.RegionName.{RegionName}
use Rattle.repr.specs.declared.StructName.{StructName}
use Rattle.constraint_list.specs.Listed.{Adds}
use Rattle.constraint_list.proofs.ListLaws.{adds_none, adds-append}
use Rattle.repr.specs.Stands.{ArgsTo}
use Rattle.repr.proofs.SpellLaws.{clash}
use Rattle.repr.proofs.StandLaws.{NodeIs, node-is, on-node, none_is, args-passed}
use Rattle.repr.proofs.NodeLaws.{type-nodes, unit-nodes, ref_nodes, struct_nodes, region-nodes, first-nodes, tail-nodes}
use Rattle.beside.specs.Beside.{heads_of, ParameterSays, TypesFirst, PairIs, FirstsSay}
use Rattle.relate.specs.Relates.{Types, Arguments, Ends, Fewer, ParametersSay, relate_first, OthersAt, Others, TypesRelate, FirstRelates, ArgumentsRelate, Relates, RelatesRef}
use Rattle.repr.specs.declared.Row.{Row}
use Rattle.beside.specs.declared.Heads.{Heads}
use Rattle.beside.specs.declared.Heads.TheVariants as heads
use Rattle.beside.specs.declared.Pair.{Pair}
use Rattle.beside.specs.declared.Pair.TheVariants as pairs
use Rattle.beside.specs.declared.Parameter.{Parameter}
use Rattle.beside.proofs.BesideLaws.{HeadsAre, heads_by}
use Rattle.repr.specs.declared.refusal.Refusal.{Refusal}
use Rattle.repr.specs.declared.Node.{Node}
use Rattle.repr.specs.declared.Node.TheVariants as nodes
use Rattle.repr.specs.declared.Rest.{Rest}
use Rattle.beside.specs.declared.Both.{Both}
use Rattle.relate.specs.declared.Relation.{Relation}
use Rattle.std.specs.Prelude.{Option, Some, None, Result, Ok, Err}

-- where two parts end, with the nodes that are left
abbrev ended : ℕ → Cursor → Cursor → Option Both
ended left c d = Some (record { left = left; a = c; b = d })

-- ---- Two regions

module _ (at : syntax.Point) {sup : Region} {ls : List ℕ} where
  pub sup_bound : (sub : Region) {b : ℕ} → sup ≡ regions.Bound b → Adds (require_outlives at (region_of sup) (region_of sub)) ls ls
  sup_bound sub e = adds_none (rw e)

  pub sub_bound : {sub : Region} {m : RegionName} {b : ℕ} → sup ≡ regions.Free m → sub ≡ regions.Bound b → Adds (require_outlives at (region_of sup) (region_of sub)) ls ls
  sub_bound e f = adds_none (rw (e, f))

  pub both_free : {sub : Region} {m n : RegionName} {ls' : List ℕ} → sup ≡ regions.Free m → sub ≡ regions.Free n → Adds (record { sup = m.0; sub = n.0; point = at } ∷ []) ls ls'
      → Adds (require_outlives at (region_of sup) (region_of sub)) ls ls'
  both_free {ls' = ls'} e f h = subst (λ (cs : List Outlives). Adds cs ls ls') (rw (e, f)) h

-- ---- Two types of one shape, by their first nodes

module _ (at : syntax.Point) (ss : List syntax.StructDecl) where
  unit_relates : {t : Ty} (v : syntax.Variance) (u : Ty) → t ≡ UnitTy → relate at ss t v u ≡ []
  unfolding relate
  unit_relates v u e = rw e

  ref_relates : {t u first second : Ty} {k k' : syntax.BorrowKind} {r o : syntax.Region} (v : syntax.Variance) {i w x : syntax.Variance} → t ≡ RefTy k r first → u ≡ RefTy k' o second
      → i ≡ invert v → x ≡ referent_variance k → w ≡ within v x → relate_regions at i r o ++ relate at ss first w second ≡ relate at ss t v u
  unfolding relate
  ref_relates v e f i x w = rw (e, f, i, w, x)

  struct_relates : {t u : Ty} {first second : Args} {name other : ℕ} (v : syntax.Variance) → t ≡ StructTy name first → u ≡ StructTy other second
      → relate_args at ss first v (struct_of ss name).params second ≡ relate at ss t v u
  unfolding relate
  struct_relates v e f = rw (e, f)

  none_relates : {g : Args} (v : syntax.Variance) (ds : List Param) (h : Args) → g ≡ NoArgs → relate_args at ss g v ds h ≡ []
  unfolding relate_args
  none_relates v ds h e = rw e

  region-first : {g more : Args} {r o : syntax.Region} (v : syntax.Variance) (h : Args) → g ≡ RegionArg r more → head_region h ≡ o → relate_regions at v r o ≡ relate_first at ss g v h
  region-first v h e f = rw (e, ← f)

  type-first : {g more : Args} {t u : Ty} (v : syntax.Variance) (h : Args) → g ≡ TypeArg t more → head_type h ≡ u → relate at ss t v u ≡ relate_first at ss g v h
  type-first v h e f = rw (e, ← f)

  first_and_others : (g : Args) (v : syntax.Variance) (ds : List Param) (h : Args) → relate_first at ss g (within v (head_variance ds)) h ++ relate_args at ss (tail_args g) v (tail ds) (tail_args h) ≡ relate_args at ss g v ds h
  unfolding relate_args
  first_and_others NoArgs v ds h = refl
  first_and_others (RegionArg r g) v ds h = refl
  first_and_others (TypeArg t g) v ds h = refl

  rows-relate : (g : Args) (v : syntax.Variance) (ds : List Param) (h : Args) {w x : syntax.Variance} → x ≡ head_variance ds → w ≡ within v x
      → relate_first at ss g w h ++ relate_args at ss (tail_args g) v (tail ds) (tail_args h) ≡ relate_args at ss g v ds h
  rows-relate g v ds h x w = rw (w, x) (first_and_others g v ds h)

refs_alike : {t u first second : Ty} {k k' : syntax.BorrowKind} {r o : syntax.Region} → t ≡ RefTy k r first → u ≡ RefTy k' o second → same_shape t u ≡ true → same_shape first second ≡ true
unfolding same_shape
refs_alike {first = first} {second = second} {k = k} {k' = k'} {o = o} e f h = ((and-eq-true_iff (is_ref_of k (RefTy k' o second)) (same_shape first second)).0 (rw (e, f) at h)).1

regions-alike : {g more : Args} {r : syntax.Region} (h : Args) → g ≡ RegionArg r more → same_shapes g h ≡ true → same_shapes more (tail_args h) ≡ true
unfolding same_shapes
regions-alike h e i = rw e at i

types_alike : {g more : Args} {t u : Ty} (h : Args) → g ≡ TypeArg t more → head_type h ≡ u → same_shapes g h ≡ true → (same_shape t u ≡ true) × (same_shapes more (tail_args h) ≡ true)
unfolding same_shapes
types_alike {more = more} {t = t} {u = u} h e f i = (and-eq-true_iff (same_shape t u) (same_shapes more (tail_args h))).0 (rw (e, f) at i)

-- ---- Nodes that are left

pub fewer-still : {l left : ℕ} (r : Option Both) → Fewer l r → l ≤ left → Fewer left r
fewer-still (Some o) h g = omega arith
fewer-still None h g = tt

pub rest-fewer : {left l : ℕ} {c d : Cursor} (r : Option Both) → Fewer left r → r ≡ ended l c d → l ≤ left
rest-fewer {left} r h e = subst (λ (x : Option Both). Fewer left x) e h

-- ---- Two types

module _ {of : Relation} {x y left : ℕ} {j k : Result Node Refusal} {h : Option Heads} (ma : NodeSays node of.a.now x j) (nb : NodeSays node of.b.now y k) (eh : h ≡ heads_of j k) where
  on_heads : {w : Option Heads} → h ≡ w → (t u : Ty) (p q : List ℕ) → Types of x y left t u p q → HeadsAre of.a.now of.b.now t u p q w
  on_heads f t u p q w = heads_by ma nb eh f w.a_stands w.b_stands

  module _ {k' : BorrowKind} {r o : Region} {c d : Cursor} (f : h ≡ Some (heads.Refs k' r c o d)) (z : left ≡ 0 → ⊥) where
    ref_parts : (t u : Ty) (p q : List ℕ) (w : Types of x y left t u p q) → Types of c.at d.at (left - 1) (on_heads f t u p q w).first (on_heads f t u p q w).second p q
    ref_parts t u p q w =
        let i = on_heads f t u p q w in
        let ka = ref_nodes i.a_same in
        let kb = ref_nodes i.b_same in
        let fa = w.a_few in
        let fb = w.b_few in
        record { a_stands = i.a_stands; b_stands = i.b_stands; a_few = omega arith; b_few = omega arith; alike = sym i.alike ∙ w.alike }

  module _ {name : StructName} {c d : Row} (f : h ≡ Some (heads.Structs name c d)) (z : left ≡ 0 → ⊥) where
    struct_parts : (t u : Ty) (p q : List ℕ) (w : Types of x y left t u p q) → Arguments of c d (left - 1) (on_heads f t u p q w).first (on_heads f t u p q w).second p q
    struct_parts t u p q w =
        let i = on_heads f t u p q w in
        let ka = struct_nodes i.a_same in
        let kb = struct_nodes i.b_same in
        let fa = w.a_few in
        let fb = w.b_few in
        record { a_stand = i.a_stand; b_stand = i.b_stand; a_few = omega arith; b_few = omega arith; alike = sym i.alike ∙ w.alike }

module _ {of : Relation} {x y left : ℕ} {v : syntax.Variance} {ls : List ℕ} where
  pub types_none : left ≡ 0 → TypesRelate of x y left v ls ls None
  types_none z = record { adds = λ j l m n p q w. absurd (none m w.a_few); ends = λ m n p q w. none m w.a_few; fewer = tt }
    where
      none : (m : Ty) → type_nodes m ≤ left → ⊥
      none m h = let k = type-nodes m in absurd (omega arith)

  module _ {j k : Result Node Refusal} {h : Option Heads} (ma : NodeSays node of.a.now x j) (nb : NodeSays node of.b.now y k) (eh : h ≡ heads_of j k) where
    pub types_differ : h ≡ None → TypesRelate of x y left v ls ls None
    types_differ f = record {
      adds = λ j l m n p q w. absurd (true≢false (sym w.alike ∙ on_heads ma nb eh f m n p q w));
      ends = λ m n p q w. true≢false (sym w.alike ∙ on_heads ma nb eh f m n p q w);
      fewer = tt;
    }

    pub types_units : {c d : Cursor} → h ≡ Some (heads.Units c d) → TypesRelate of x y left v ls ls (ended (left - 1) c d)
    types_units f = record {
      adds = λ j l m n p q w. adds_none (unit_relates of.at j.structs v n (on_heads ma nb eh f m n p q w).a_same);
      ends = λ m n p q w. let o = on_heads ma nb eh f m n p q w in let i = unit-nodes o.a_same in record { nodes = omega arith; a_ends = o.a_ends; b_ends = o.b_ends };
      fewer = omega arith;
    }

    module _ {k' : BorrowKind} {r o : Region} {c d : Cursor} (f : h ≡ Some (heads.Refs k' r c o d)) (z : left ≡ 0 → ⊥) where
      pub types_refs : {vi vr vw : syntax.Variance} {ls₁ ls₂ : List ℕ} {res : Option Both} → vi ≡ invert v → vr ≡ referent_variance (borrow_kind_of k') → vw ≡ within v vr
          → Adds (relate_regions of.at vi (region_of r) (region_of o)) ls ls₁
          → TypesRelate of c.at d.at (left - 1) vw ls₁ ls₂ res
          → TypesRelate of x y left v ls ls₂ res
      types_refs {vi} {vr} {vw} {ls₂ = ls₂} {res = res} ei er ew one more = record {
        adds = λ j l m n p q w.
            let i = on_heads ma nb eh f m n p q w in
            subst (λ (cs : List Outlives). Adds cs ls ls₂) (ref_relates of.at j.structs v i.a_same i.b_same ei er ew)
            (adds-append one (more.adds j l i.first i.second p q (ref_parts ma nb eh f z m n p q w)));
        ends = λ m n p q w.
            let i = on_heads ma nb eh f m n p q w in
            let k = ref_nodes i.a_same in
            let g : left - 1 - type_nodes i.first ≡ left - type_nodes m = omega arith in
            subst (λ (l : ℕ). Ends of l p q res) g (more.ends i.first i.second p q (ref_parts ma nb eh f z m n p q w));
        fewer = fewer-still res more.fewer (omega arith);
      }

    module _ {name : StructName} {c d : Row} (f : h ≡ Some (heads.Structs name c d)) (z : left ≡ 0 → ⊥) where
      pub types_structs : {params : Row} {ls₁ : List ℕ} {res : Option Both} → ParametersSay of.input.now name.0 params
          → ArgumentsRelate of params c d (left - 1) v ls ls₁ res
          → TypesRelate of x y left v ls ls₁ res
      types_structs {ls₁ = ls₁} {res = res} declared more = record {
        adds = λ j l m n p q w.
            let i = on_heads ma nb eh f m n p q w in
            subst (λ (cs : List Outlives). Adds cs ls ls₁) (struct_relates of.at j.structs v i.a_same i.b_same)
            (more.adds j l (struct_of j.structs name.0).params (declared.says j l) i.first i.second p q (struct_parts ma nb eh f z m n p q w));
        ends = λ m n p q w.
            let i = on_heads ma nb eh f m n p q w in
            let k = struct_nodes i.a_same in
            let g : left - 1 - arg_nodes i.first ≡ left - type_nodes m = omega arith in
            subst (λ (l : ℕ). Ends of l p q res) g (more.ends i.first i.second p q (struct_parts ma nb eh f z m n p q w));
        fewer = fewer-still res more.fewer (omega arith);
      }

-- ---- The first arguments of two rows

head_is : (h : Args) {t : Ty} {more : Args} → h ≡ TypeArg t more → head_type h ≡ t
head_is h i = rw i

tail-is : (h : Args) {t : Ty} {more : Args} → h ≡ TypeArg t more → tail_args h ≡ more
tail-is h i = rw i

tail_of : (g : Args) {r : syntax.Region} {more : Args} → g ≡ RegionArg r more → tail_args g ≡ more
tail_of g i = rw i

-- the others, after a first argument of k nodes
others-at : {of : Relation} {left l m n : ℕ} {c d : Cursor} {g h more : Args} {p q : List ℕ} (k : ℕ) → tail_args g ≡ more → arg_nodes g ≡ k + arg_nodes more → l ≡ left - k → arg_nodes g ≤ left → arg_nodes h ≤ max_nodes
    → ArgsTo (rest of.a.now c) m more p → ArgsTo (rest of.b.now d) n (tail_args h) q → same_shapes more (tail_args h) ≡ true
    → OthersAt of (record { from = c; count = m }) (record { from = d; count = n }) left l g h p q
others-at {h = h} k e i j fa fb sa sb alike =
    let t = tail-nodes h in
    let u = ap arg_nodes e in
    record { stand = record { a_stand = rw e sa; b_stand = sb; a_few = omega arith; b_few = omega arith; alike = rw e alike }; nodes = omega arith }

module _ {of : Relation} {x y : Row} {left : ℕ} (zx : x.count ≡ 0 → ⊥) {pair : Option Pair} (np : FirstsSay of.a.now x.from.at of.b.now y pair) where
  on_pair : {w : Option Pair} → pair ≡ w → (g h : Args) (p q : List ℕ) → Arguments of x y left g h p q → PairIs of.a.now of.b.now x.count y.count g h p q w
  on_pair e g h p q w = subst (λ (u : Option Pair). PairIs of.a.now of.b.now x.count y.count g h p q u) e (np.says x.count g h p q zx w.a_stand w.b_stand w.b_few)

  unit-few : {c d : Cursor} (e : pair ≡ Some (pairs.Units c d)) (g h : Args) (p q : List ℕ) (w : Arguments of x y left g h p q) → arg_nodes g ≡ 1 + arg_nodes (on_pair e g h p q w).more
  unit-few e g h p q w = let i = on_pair e g h p q w in let k = first-nodes i.same in let l = unit-nodes {t = UnitTy} refl in omega arith

  first_parts : {c d : Cursor} (e : pair ≡ Some (pairs.Types c d)) (g h : Args) (p q : List ℕ) (w : Arguments of x y left g h p q)
      → Types of c.at d.at left (on_pair e g h p q w).first.item (on_pair e g h p q w).second.item (on_pair e g h p q w).first.mid (on_pair e g h p q w).second.mid
  first_parts e g h p q w =
      let i = on_pair e g h p q w in
      let ka = first-nodes i.first.same in
      let kb = first-nodes i.second.same in
      let fa = w.a_few in
      let fb = w.b_few in
      record { a_stands = i.first.first; b_stands = i.second.first; a_few = omega arith; b_few = omega arith; alike = (types_alike h i.first.same (head_is h i.second.same) w.alike).0 }

module _ {of : Relation} {x y : Row} {left : ℕ} {v : syntax.Variance} {ls : List ℕ} (zx : x.count ≡ 0 → ⊥) {pair : Option Pair} (np : FirstsSay of.a.now x.from.at of.b.now y pair) where
  pub first-differ : pair ≡ None → FirstRelates of x y left v ls ls None
  first-differ e = record { adds = λ j l g h p q w. absurd (true≢false (sym w.alike ∙ on_pair zx np e g h p q w)); ends = λ g h p q w. true≢false (sym w.alike ∙ on_pair zx np e g h p q w); fewer = tt }

  pub first-regions : {r o : Region} {c d : Cursor} {ls₁ : List ℕ} → pair ≡ Some (pairs.Regions r c o d) → Adds (relate_regions of.at v (region_of r) (region_of o)) ls ls₁
      → FirstRelates of x y left v ls ls₁ (ended left c d)
  first-regions {ls₁ = ls₁} e one = record {
    adds = λ j l g h p q w.
        let i = on_pair zx np e g h p q w in
        subst (λ (cs : List Outlives). Adds cs ls ls₁) (region-first of.at j.structs v h i.same i.second.region) one;
    ends = λ g h p q w.
        let i = on_pair zx np e g h p q w in
        others-at 0 (tail_of g i.same) (omega (arith, region-nodes i.same)) (omega arith) w.a_few w.b_few i.others i.second.others (regions-alike h i.same w.alike);
    fewer = le_refl left;
  }

  module _ {c d : Cursor} (e : pair ≡ Some (pairs.Units c d)) where
    pub first_spent : left ≡ 0 → FirstRelates of x y left v ls ls None
    first_spent f = record { adds = λ j l g h p q w. absurd (spent g h p q w); ends = spent; fewer = tt }
      where
        spent : (g h : Args) (p q : List ℕ) → Arguments of x y left g h p q → ⊥
        spent g h p q w = let k = unit-few zx np e g h p q w in let l = w.a_few in absurd (omega arith)

    pub first_units : FirstRelates of x y left v ls ls (ended (left - 1) c d)
    first_units = record {
      adds = λ j l g h p q w.
          let i = on_pair zx np e g h p q w in
          adds_none (sym (type-first of.at j.structs v h i.same i.second.unit) ∙ unit_relates of.at j.structs v UnitTy refl);
      ends = λ g h p q w.
          let i = on_pair zx np e g h p q w in
          others-at 1 (tail-is g i.same) (unit-few zx np e g h p q w) refl w.a_few w.b_few i.others i.second.others (types_alike h i.same i.second.unit w.alike).1;
      fewer = omega arith;
    }

  pub first_types : {c d : Cursor} {ls₁ : List ℕ} {res : Option Both} → pair ≡ Some (pairs.Types c d) → TypesRelate of c.at d.at left v ls ls₁ res
      → FirstRelates of x y left v ls ls₁ res
  first_types {ls₁ = ls₁} {res = res} e u = record {
    adds = λ j l g h p q w.
        let i = on_pair zx np e g h p q w in
        subst (λ (cs : List Outlives). Adds cs ls ls₁) (type-first of.at j.structs v h i.first.same (head_is h i.second.same))
        (u.adds j l i.first.item i.second.item i.first.mid i.second.mid (first_parts zx np e g h p q w));
    ends = λ g h p q w.
        let i = on_pair zx np e g h p q w in
        go g h p q w i res (u.ends i.first.item i.second.item i.first.mid i.second.mid (first_parts zx np e g h p q w));
    fewer = u.fewer;
  }
    where
      go : (g h : Args) (p q : List ℕ) → Arguments of x y left g h p q → {f k : List ℕ} (i : TypesFirst f (x.count - 1) k (y.count - 1) g h p q) (r : Option Both) → Ends of (left - type_nodes i.first.item) i.first.mid i.second.mid r
          → Others of x.count y.count left g h p q r
      go g h p q w i (Some o') o =
          others-at (type_nodes i.first.item) (tail-is g i.first.same) (first-nodes i.first.same) o.nodes w.a_few w.b_few
          (subst (λ (z : List ℕ). ArgsTo z (x.count - 1) i.first.more p) (sym o.a_ends) i.first.others)
          (rw (tail-is h i.second.same) (subst (λ (z : List ℕ). ArgsTo z (y.count - 1) i.second.more q) (sym o.b_ends) i.second.others))
          (types_alike h i.first.same (head_is h i.second.same) w.alike).1
      go g h p q w i None o = o

-- ---- Two rows of arguments

module _ {of : Relation} {x y : Row} {left : ℕ} {v : syntax.Variance} {ls ls₁ : List ℕ} {one : Option Both} (u : FirstRelates of x y left v ls ls₁ one) where
  on-first : {w : Option Both} → one ≡ w → (g h : Args) (p q : List ℕ) → Arguments of x y left g h p q → Others of x.count y.count left g h p q w
  on-first e g h p q w = subst (λ (z : Option Both). Others of x.count y.count left g h p q z) e (u.ends g h p q w)

  others-stand : {l : ℕ} {c d : Cursor} → one ≡ ended l c d → {x' y' : Row} → (x'.from ≡ c) × (x'.count ≡ x.count - 1) → (y'.from ≡ d) × (y'.count ≡ y.count - 1)
      → (g h : Args) (p q : List ℕ) → Arguments of x y left g h p q → Arguments of x' y' l (tail_args g) (tail_args h) p q
  others-stand e ex ey g h p q w =
      let i = (on-first e g h p q w).stand in
      record { a_stand = rw (ex.0, ex.1) i.a_stand; b_stand = rw (ey.0, ey.1) i.b_stand; a_few = i.a_few; b_few = i.b_few; alike = i.alike }

module _ {of : Relation} {params x y : Row} {left : ℕ} {v : syntax.Variance} {ls : List ℕ} where
  module _ {r : Result Rest Refusal} (n : repr_types.ArgumentsSay of.b.now y.from.at y.count 32 r) (z : x.count ≡ 0) where
    pub arguments_short : {k : Refusal} → r ≡ Err k → ArgumentsRelate of params x y left v ls ls None
    arguments_short e = record { adds = λ j l ds o g h p q w. absurd (short g h p q w); ends = short; fewer = tt }
      where
        short : (g h : Args) (p q : List ℕ) → Arguments of x y left g h p q → ⊥
        short g h p q w = clash (sym (ap (nodes_says of.b.now) e) ∙ args-passed n w.b_stand w.b_few)

    pub arguments_none : {end : Rest} → r ≡ Ok end → ArgumentsRelate of params x y left v ls ls (ended left x.from end.next)
    unfolding arg_nodes
    arguments_none {end} e = record {
      adds = λ j l ds o g h p q w. adds_none (none_relates of.at j.structs v ds h (none_is z w.a_stand).same);
      ends = λ g h p q w.
          let i = none_is z w.a_stand in
          let k = sym (ap (nodes_says of.b.now) e) ∙ args-passed n w.b_stand w.b_few in
          let f : rest of.b.now end.next ≡ q = cc in
          record { nodes = rw (i.same, sub-zero); a_ends = i.ends; b_ends = f };
      fewer = le_refl left;
    }

  module _ {own : Parameter} (par : ParameterSays of.input.now.bytes.now params own) {vw : syntax.Variance} (ew : vw ≡ within v (variance_of own.variance)) {ls₁ : List ℕ} {one : Option Both} (u : FirstRelates of x y left vw ls ls₁ one) where
    pub arguments_stopped : one ≡ None → ArgumentsRelate of params x y left v ls ls₁ None
    arguments_stopped e = record { adds = λ j l ds o g h p q w. absurd (on-first u e g h p q w); ends = on-first u e; fewer = tt }

    module _ {rem : ℕ} {c d : Cursor} (e : one ≡ ended rem c d) {x' y' : Row} (ex : (x'.from ≡ c) × (x'.count ≡ x.count - 1)) (ey : (y'.from ≡ d) × (y'.count ≡ y.count - 1)) where
      pub arguments_more : {ls₂ : List ℕ} {res : Option Both} → ArgumentsRelate of own.others x' y' rem v ls₁ ls₂ res
          → ArgumentsRelate of params x y left v ls ls₂ res
      arguments_more {ls₂} {res} more = record {
        adds = λ j l ds o g h p q w.
            let k = par.says ds o in
            subst (λ (cs : List Outlives). Adds cs ls ls₂) (rows-relate of.at j.structs g v ds h k.variance ew)
            (adds-append (u.adds j l g h p q w) (more.adds j l (tail ds) k.others (tail_args g) (tail_args h) p q (others-stand u e ex ey g h p q w)));
        ends = λ g h p q w. subst (λ (l : ℕ). Ends of l p q res) (on-first u e g h p q w).nodes (more.ends (tail_args g) (tail_args h) p q (others-stand u e ex ey g h p q w));
        fewer = fewer-still res more.fewer (rest-fewer one u.fewer e);
      }

-- ---- Whole types

module _ {of : Relation} {x y : ℕ} {v : syntax.Variance} {ls : List ℕ} where
  pub whole_types : {ls' : List ℕ} {r : Option Both} → TypesRelate of x y 32 v ls ls' r → Relates of x y v ls ls'
  whole_types w = record {
    adds = λ j l m n p q h i k.
        w.adds j l m n p.over q.over (record { a_stands = p.stands; b_stands = q.stands; a_few = h; b_few = i; alike = is_true _ k });
  }

  module _ {d : Result Node Refusal} (m : NodeSays node of.a.now x d) {o : RegionName} where
    pub ref_other : ((j : BorrowKind) (r : Region) (c : Cursor) → d ≡ Ok (nodes.Ref j r c) → ⊥) → RelatesRef o.0 of x y v ls ls
    unfolding same_shape
    ref_other f = record { adds = λ j l t u k p q h i e. absurd (go t u k p.over d f (node-is m p.stands) (is_true _ e)) }
      where
        go : (t u : Ty) (k : syntax.BorrowKind) (over : List ℕ) (n : Result Node Refusal) → ((j : BorrowKind) (r : Region) (c : Cursor) → n ≡ Ok (nodes.Ref j r c) → ⊥) → NodeIs of.a.now t over n → same_shape t (RefTy k (Free o.0) u) ≡ true → ⊥
        go t u k over (Ok (nodes.Unit c)) e w i = true≢false (sym i ∙ rw w.same)
        go t u k over (Ok (nodes.Ref j r c)) e w i = e j r c refl
        go t u k over (Ok (nodes.Struct z row)) e w i = true≢false (sym i ∙ rw w.same)
        go t u k over (Ok (nodes.Bound j c)) e w i = true≢false (sym i ∙ rw w.same)
        go t u k over (Err j) e w i = w

    -- another node
    pub ref_not : {n : Node} → d ≡ Ok n → ((j : BorrowKind) (r : Region) (c : Cursor) → n ≡ nodes.Ref j r c → ⊥) → RelatesRef o.0 of x y v ls ls
    ref_not {n} e f = ref_other (λ j r c g. f j r c (let h = sym e ∙ g in cc))

    pub ref_adds : {k' : BorrowKind} {r : Region} {c : Cursor} {vi vr vw : syntax.Variance} {ls₁ ls₂ : List ℕ} → d ≡ Ok (nodes.Ref k' r c)
        → vi ≡ invert v → vr ≡ referent_variance (borrow_kind_of k') → vw ≡ within v vr
        → Adds (relate_regions of.at vi (region_of r) (Free o.0)) ls ls₁
        → Relates of c.at y vw ls₁ ls₂
        → RelatesRef o.0 of x y v ls ls₂
    ref_adds {ls₂ = ls₂} f ei er ew one more = record {
      adds = λ j l t u k p q h i e.
          let w = on-node m f p.stands in
          let n = ref_nodes w.same in
          subst (λ (cs : List Outlives). Adds cs ls ls₂) (ref_relates of.at j.structs v w.same refl ei er ew)
          (adds-append one (more.adds j l w.referent u (record { over = p.over; stands = w.stands }) q (omega arith) i (passes _ (refs_alike {u = RefTy k (Free o.0) u} w.same refl (is_true _ e)))));
    }
