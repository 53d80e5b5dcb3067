-- The regions that are taken of a type, node by node. Assumes nothing.
use mathlib.Core.Path.{◌≡◌, refl, sym, ap, subst, ◌∙◌}
use mathlib.Core.Logic.{◌⊎◌, inl, inr}
use mathlib.Core.Bool.{Bool, true, false, cond}
use mathlib.Core.List.{List, [], ◌∷◌, ◌++◌, tail}
use Prim.Native.Nat.{ℕ, ◌+◌, ◌-◌, ◌≤◌}
use native.Mathlib.Omega.{arith}
use native.Mathlib.Nat.{le_refl, sub-zero}
use Rattle.nll_spec.specs.Syntax.{Ty, UnitTy, RefTy, StructTy, BoundTy, Args, NoArgs, RegionArg, TypeArg, Param, StructDecl, Job}
use Rattle.nll_spec.specs.Syntax as syntax
use Rattle.nll_spec.specs.Types.{struct_of, region_name, regions_of, arg_regions, type_nodes, arg_nodes}
use Rattle.nll_spec.specs.Regions.{head_dangles, drop_regions, drop_arg_regions}
use Rattle.nll_spec.specs.Decode.{done, items, param, type}
use Rattle.repr.specs.Reading.{rest, says, borrow_kind_of, region_of, parameter_of}
use Rattle.repr.specs.Types.{node, NodeSays, ArgumentSays}
use Rattle.repr.specs.declared.Cursor.{Cursor}
use Rattle.repr.specs.declared.BorrowKind.{BorrowKind}
use Rattle.repr.specs.declared.Region.{Region}
use Rattle.repr.specs.declared.StructName.{StructName}
use Rattle.repr.specs.declared.StructDecl as decl
use Rattle.repr.specs.declared.Node.{Node}
use Rattle.repr.specs.declared.Node.TheVariants as nodes
use Rattle.repr.specs.declared.Argument.{Argument}
use Rattle.repr.specs.declared.Argument.TheVariants as arguments
use Rattle.repr.specs.declared.Rest.{Rest}
use Rattle.repr.specs.declared.refusal.Refusal.{Refusal}
use Rattle.std.specs.Prelude.{Result, Ok, Err}
use Rattle.repr.specs.declared.StructParameter.{StructParameter}
use Rattle.repr.specs.Stands.{Stands, TypeTo, ArgsTo}
use Rattle.record.specs.Layout.{Holds}
use Rattle.record.specs.Access.{Declared}
use Rattle.record.specs.declared.Record.{Record}
use Rattle.repr.proofs.SpellLaws.{carry, clash}
use Rattle.repr.proofs.ItemLaws.{first_of, none_of}
use Rattle.repr.proofs.StandLaws.{LeafIs, on-node, on_argument, none_is, whole}
use Rattle.repr.proofs.NodeLaws.{type-nodes, ref_nodes, struct_nodes, region-nodes, first-nodes}
use Rattle.seeds.specs.declared.Which.{Which}
use Rattle.seeds.specs.declared.Which.TheVariants.{Every, Dropped, Nothing}
use Rattle.repr.specs.declared.Row.{Row}
use Rattle.seeds.specs.Chosen.{add_all, in_ref, in_argument, chosen_region, chosen, chosen_args, FirstIs, Added, TypeAdds, ArgumentsAdd}
use Rattle.seeds.proofs.AddLaws.{add_append}

-- ---- What is taken of each node

chosen-unit : (w : Which) (ss : List StructDecl) → chosen w ss UnitTy ≡ []
unfolding regions_of drop_regions
chosen-unit Every ss = refl
chosen-unit Dropped ss = refl
chosen-unit Nothing ss = refl

chosen_bound : (w : Which) (ss : List StructDecl) (b : ℕ) → chosen w ss (BoundTy b) ≡ []
unfolding regions_of drop_regions
chosen_bound Every ss b = refl
chosen_bound Dropped ss b = refl
chosen_bound Nothing ss b = refl

chosen_ref : (w : Which) (ss : List StructDecl) (k : syntax.BorrowKind) (r : syntax.Region) (t : Ty) → chosen w ss (RefTy k r t) ≡ chosen_region w r ++ chosen (in_ref w) ss t
unfolding regions_of drop_regions
chosen_ref Every ss k r t = refl
chosen_ref Dropped ss k r t = refl
chosen_ref Nothing ss k r t = refl

chosen_struct : (w : Which) (ss : List StructDecl) (n : ℕ) (g : Args) → chosen w ss (StructTy n g) ≡ chosen_args w ss (struct_of ss n).params g
unfolding regions_of drop_regions
chosen_struct Every ss n g = refl
chosen_struct Dropped ss n g = refl
chosen_struct Nothing ss n g = refl

chosen_none : (w : Which) (ss : List StructDecl) (ds : List Param) → chosen_args w ss ds NoArgs ≡ []
unfolding arg_regions drop_arg_regions
chosen_none Every ss ds = refl
chosen_none Dropped ss ds = refl
chosen_none Nothing ss ds = refl

chosen-region : (w : Which) (ss : List StructDecl) (ds : List Param) (r : syntax.Region) (g : Args)
    → chosen_args w ss ds (RegionArg r g) ≡ chosen_region (in_argument w (head_dangles ds)) r ++ chosen_args w ss (tail ds) g
unfolding arg_regions drop_arg_regions
chosen-region Every ss ds r g = refl
chosen-region Dropped ss ds r g = go (head_dangles ds)
  where
    go : (b : Bool) → cond b [] (region_name r) ++ drop_arg_regions g ss (tail ds) ≡ chosen_region (in_argument Dropped b) r ++ drop_arg_regions g ss (tail ds)
    go true = refl
    go false = refl
chosen-region Nothing ss ds r g = refl

chosen-type : (w : Which) (ss : List StructDecl) (ds : List Param) (t : Ty) (g : Args)
    → chosen_args w ss ds (TypeArg t g) ≡ chosen (in_argument w (head_dangles ds)) ss t ++ chosen_args w ss (tail ds) g
unfolding arg_regions drop_arg_regions
chosen-type Every ss ds t g = refl
chosen-type Dropped ss ds t g = go (head_dangles ds)
  where
    go : (b : Bool) → cond b (drop_regions t ss) (regions_of t) ++ drop_arg_regions g ss (tail ds) ≡ chosen (in_argument Dropped b) ss t ++ drop_arg_regions g ss (tail ds)
    go true = refl
    go false = refl
chosen-type Nothing ss ds t g = refl

-- ---- The first parameter

module _ (s : List ℕ) (ps : Row) where
  pub first-none : ps.count ≡ 0 → (ds : List Param) → Stands (items ps.count param) ds (rest s ps.from) → FirstIs s ds (Ok (false, ps))
  unfolding items done
  first-none z ds p = let e = (none_of param ps.count (rest s ps.from) z p.reads).0 in record { dangles = false; others = ps; is = refl; first = rw e; stand = record { over = rest s ps.from; reads = rw (z, e) } }

  module _ {d : Result (StructParameter × Cursor) Refusal} (m : says parameter_of s d ≡ param (rest s ps.from)) (z : ps.count ≡ 0 → ⊥) where
    pub first-refused : {k : Refusal} (q : Refusal) → d ≡ Err k → (ds : List Param) → Stands (items ps.count param) ds (rest s ps.from) → FirstIs s ds (Err q)
    first-refused q e ds p = absurd (clash (sym (ap (says parameter_of s) e) ∙ m ∙ (first_of param ps.count (rest s ps.from) z p.reads).first))

    pub first-is : {p : StructParameter} {c : Cursor} → d ≡ Ok (p, c) → (ds : List Param) → Stands (items ps.count param) ds (rest s ps.from)
        → FirstIs s ds (Ok (p.may_dangle, record { count = ps.count - 1; from = c }))
    first-is {p} {c} e ds q =
        let w = first_of param ps.count (rest s ps.from) z q.reads in
        let f = sym (ap (says parameter_of s) e) ∙ m ∙ w.first in
        carry (λ (x : Param) o. (item : Param) (others : List Param) → ds ≡ item ∷ others → x ≡ item → Stands (items (ps.count - 1) param) others o → FirstIs s ds (Ok (p.may_dangle, record { count = ps.count - 1; from = c }))) f
        (λ item others i k l. record { dangles = p.may_dangle; others = record { count = ps.count - 1; from = c }; is = refl; first = rw i (ap (λ (x : Param). x.may_dangle) k); stand = rw i l })
        w.item w.others w.same refl (record { over = q.over; reads = w.reads })

-- ---- Answers

no-err : {k : Refusal} {x : Rest} → Err k ≡ Ok x → ⊥
no-err e = let z : ◌≡◌ {A = ℕ} 0 1 = cc in omega arith

no-err-first : {k : Refusal} {x : Bool × Row} → Err k ≡ Ok x → ⊥
no-err-first e = let z : ◌≡◌ {A = ℕ} 0 1 = cc in omega arith

same-rest : {x y : Rest} → ◌≡◌ {A = Result Rest Refusal} (Ok x) (Ok y) → x ≡ y
same-rest e = cc

-- what was found of the first parameter
found-first : {s : List ℕ} {ds : List Param} {d : Result (Bool × Row) Refusal} (which : Which) {inner : Which} {dangles : Bool} {others : Row} → FirstIs s ds d → d ≡ Ok (dangles, others) → inner ≡ in_argument which dangles
    → (inner ≡ in_argument which (head_dangles ds)) × Stands (items others.count param) (tail ds) (rest s others.from)
found-first which {dangles = dangles} {others = others} y e i = (i ∙ ap (in_argument which) (ap (λ (p : Bool × Row). p.0) q ∙ y.first), let b : others ≡ y.others = ap (λ (p : Bool × Row). p.1) q in rw b y.stand)
  where
    k : ◌≡◌ {A = Result (Bool × Row) Refusal} (Ok (dangles, others)) (Ok (y.dangles, y.others))
    k = sym e ∙ y.is

    q : ◌≡◌ {A = Bool × Row} (dangles, others) (y.dangles, y.others)
    q = cc

-- what was put in with a part of the nodes done
under : {s : List ℕ} {left nodes least few : ℕ} {bs : List ℕ} {names others : List ℕ} {before mid after : List ℕ} {r : Result Rest Refusal}
    → Added s left nodes bs names mid after r → left - nodes ≡ least - few → (after ≡ add_all mid 0 names → after ≡ add_all before 0 others) → Added s least few bs others before after r
under u e f = record { to = u.to; is = u.is; remain = u.remain ∙ e; ends = u.ends; words = f u.words }

-- ---- A type

module _ {input : Record} {which : Which} {from : Rest} {before : List ℕ} where
  pub adds_none : {k : Refusal} → from.left ≡ 0 → TypeAdds input which from before before (Err k)
  adds_none z = record { adds = λ j l ty bs p k. absurd (let n = type-nodes ty in omega arith); fewer = λ to e. absurd (no-err e) }

  -- a type with no parts
  leaf : {u : Ty} {c : Cursor} → type_nodes u ≡ 1 → ((ss : List StructDecl) → chosen which ss u ≡ []) → ((ty : Ty) (bs : List ℕ) → TypeTo (rest input.bytes.now from.next) ty bs → LeafIs input.bytes.now ty bs u c)
      → TypeAdds input which from before before (Ok (record { left = from.left - 1; next = c }))
  leaf n g f = record {
    adds = λ j l ty bs p k. let w = f ty bs p in record { to = _; is = refl; remain = rw (w.same, n); ends = w.ends; words = rw (w.same, g j.structs) };
    fewer = λ to e. let i = ap (λ (x : Rest). x.left) (same-rest e) in omega arith;
  }

  module _ {d : Result Node Refusal} (m : NodeSays node input.bytes.now from.next.at d) where
    pub adds-refused : {k q : Refusal} → d ≡ Err k → TypeAdds input which from before before (Err q)
    adds-refused e = record { adds = λ j l ty bs p k. absurd (on-node m e p); fewer = λ to i. absurd (no-err i) }

    -- a Unit or a Bound
    pub adds_end : {o : Node} {c : Cursor} → d ≡ Ok o → (o ≡ nodes.Unit c) ⊎ ((b : ℕ) × (o ≡ nodes.Bound b c)) → TypeAdds input which from before before (Ok (record { left = from.left - 1; next = c }))
    unfolding type_nodes
    adds_end e (inl h) = leaf refl (chosen-unit which) (λ t bs p. on-node m (e ∙ ap Ok h) p)
    adds_end e (inr (b, h)) = leaf refl (λ ss. chosen_bound which ss b) (λ t bs p. on-node m (e ∙ ap Ok h) p)

    pub adds_ref : {q : BorrowKind} {o : Region} {c : Cursor} {inner : Which} {mid after : List ℕ} {r : Result Rest Refusal} → d ≡ Ok (nodes.Ref q o c) → (from.left ≡ 0 → ⊥)
        → mid ≡ add_all before 0 (chosen_region which (region_of o)) → inner ≡ in_ref which → TypeAdds input inner (record { left = from.left - 1; next = c }) mid after r → TypeAdds input which from before after r
    adds_ref {q} {o} e z f i v = record {
      adds = λ j l ty bs p k.
          let w = on-node m e p in
          let n = ref_nodes w.same in
          under (v.adds j l w.referent bs w.stands (omega arith)) (omega arith)
          (λ y. y ∙ rw (f, i) (sym (add_append before 0 (chosen_region which (region_of o)) (chosen (in_ref which) j.structs w.referent)) ∙ ap (add_all before 0) (sym (ap (chosen which j.structs) w.same ∙ chosen_ref which j.structs (borrow_kind_of q) (region_of o) w.referent))));
      fewer = λ to i. let k = v.fewer to i in omega arith;
    }

    pub adds_struct : {name : StructName} {row : Row} {x : decl.StructDecl} {after : List ℕ} {r : Result Rest Refusal} → d ≡ Ok (nodes.Struct name row) → (from.left ≡ 0 → ⊥)
        → ((j : Job) → Holds input j → Declared input.bytes.now (struct_of j.structs name.0) x)
        → ArgumentsAdd input which (x.parameters) (record { left = from.left - 1; next = row.from }) row.count before after r → TypeAdds input which from before after r
    adds_struct {name} e z f v = record {
      adds = λ j l ty bs p k.
          let w = on-node m e p in
          let n = struct_nodes w.same in
          under (v.adds j l (struct_of j.structs name.0).params (f j l).params w.given bs w.stands (omega arith)) (omega arith)
          (λ y. y ∙ ap (add_all before 0) (sym (ap (chosen which j.structs) w.same ∙ chosen_struct which j.structs name.0 w.given)));
      fewer = λ to i. let k = v.fewer to i in omega arith;
    }

-- ---- Arguments

module _ {input : Record} {which : Which} {ps : Row} {from : Rest} {n : ℕ} {before : List ℕ} where
  pub args_none : n ≡ 0 → ArgumentsAdd input which ps from n before before (Ok from)
  unfolding arg_nodes
  args_none z = record {
    adds = λ j l ds q g bs p k. let w = none_is z p in record { to = from; is = refl; remain = rw (w.same, sub-zero); ends = w.ends; words = rw (w.same, chosen_none which j.structs ds) };
    fewer = λ to e. let i = ap (λ (x : Rest). x.left) (same-rest e) in omega arith;
  }

  pub args_unread : {d : Result (Bool × Row) Refusal} {k q : Refusal} → ((ds : List Param) → Stands (items ps.count param) ds (rest input.bytes.now ps.from) → FirstIs input.bytes.now ds d) → d ≡ Err k → ArgumentsAdd input which ps from n before before (Err q)
  args_unread f e = record { adds = λ j l ds q g bs p k. absurd (no-err-first (sym e ∙ (f ds q).is)); fewer = λ to i. absurd (no-err i) }

  module _ {d : Result Argument Refusal} (m : ArgumentSays input.bytes.now from.next.at d) (z : n ≡ 0 → ⊥) where
    pub args-refused : {k q : Refusal} → d ≡ Err k → ArgumentsAdd input which ps from n before before (Err q)
    args-refused e = record { adds = λ j l ds q g bs p k. absurd (on_argument m z e p); fewer = λ to i. absurd (no-err i) }

    pub args-stopped : {c : Cursor} {inner : Which} {mid : List ℕ} {end : Result Rest Refusal} {k q : Refusal} → d ≡ Ok (arguments.Type c) → TypeAdds input inner (record { left = from.left; next = c }) before mid end → end ≡ Err k → ArgumentsAdd input which ps from n before mid (Err q)
    args-stopped e a t = record {
      adds = λ j l ds q g bs p k.
          let w = on_argument m z e p in
          let o = first-nodes w.same in
          absurd (no-err (sym t ∙ (a.adds j l w.item w.mid w.first (omega arith)).is));
      fewer = λ to i. absurd (no-err i);
    }

    module _ {first : Result (Bool × Row) Refusal} (f : (ds : List Param) → Stands (items ps.count param) ds (rest input.bytes.now ps.from) → FirstIs input.bytes.now ds first)
        {dangles : Bool} {others : Row} (found : first ≡ Ok (dangles, others)) {inner : Which} (i : inner ≡ in_argument which dangles) where
      pub args-region : {o : Region} {c : Cursor} {mid after : List ℕ} {r : Result Rest Refusal} → d ≡ Ok (arguments.Region o c) → mid ≡ add_all before 0 (chosen_region inner (region_of o))
          → ArgumentsAdd input which others (record { left = from.left; next = c }) (n - 1) mid after r → ArgumentsAdd input which ps from n before after r
      args-region {o} e a v = record {
        adds = λ j l ds q g bs p k.
            let w = on_argument m z e p in
            let y = found-first which (f ds q) found i in
            let c = region-nodes w.same in
            under (v.adds j l (tail ds) y.1 w.more bs w.others (omega arith)) (omega arith)
            (λ u. u ∙ rw (a, y.0) (sym (add_append before 0 (chosen_region (in_argument which (head_dangles ds)) (region_of o)) (chosen_args which j.structs (tail ds) w.more)) ∙ ap (add_all before 0) (sym (ap (chosen_args which j.structs ds) w.same ∙ chosen-region which j.structs ds (region_of o) w.more))));
        fewer = v.fewer;
      }

      pub args-type : {c : Cursor} {mid after : List ℕ} {to : Rest} {end r : Result Rest Refusal} → d ≡ Ok (arguments.Type c) → TypeAdds input inner (record { left = from.left; next = c }) before mid end → end ≡ Ok to
          → ArgumentsAdd input which others to (n - 1) mid after r → ArgumentsAdd input which ps from n before after r
      args-type {to = to} e a t v = record {
        adds = λ j l ds q g bs p k.
            let w = on_argument m z e p in
            let y = found-first which (f ds q) found i in
            let o = first-nodes w.same in
            let x = a.adds j l w.item w.mid w.first (omega arith) in
            let s : to ≡ x.to = same-rest (sym t ∙ x.is) in
            let remain : to.left ≡ from.left - type_nodes w.item = ap (λ (u : Rest). u.left) s ∙ x.remain in
            let ends : w.mid ≡ rest input.bytes.now to.next = sym (ap (λ (u : Rest). rest input.bytes.now u.next) s ∙ x.ends) in
            under (v.adds j l (tail ds) y.1 w.more bs (subst (λ (u : List ℕ). ArgsTo u (n - 1) w.more bs) ends w.others) (omega arith)) (omega arith)
            (λ u. u ∙ rw (x.words, y.0) (sym (add_append before 0 (chosen (in_argument which (head_dangles ds)) j.structs w.item) (chosen_args which j.structs (tail ds) w.more)) ∙ ap (add_all before 0) (sym (ap (chosen_args which j.structs ds) w.same ∙ chosen-type which j.structs ds w.item w.more))));
        fewer = λ u h. let k = a.fewer to t in let o = v.fewer u h in omega arith;
      }

-- Of n arguments, `over` are passed over up to c: passing over the others passes over all.
pub record Passing (input : Record) (which : Which) (ps : Row) (from : Rest) (n : ℕ) (before : List ℕ) (others : Row) (c : Rest) (over : ℕ) (ws : List ℕ) : Type 0 where
  pub low : c.left ≤ from.left
  pub onward : (after : List ℕ) (r : Result Rest Refusal) → ArgumentsAdd input which others c (n - over) ws after r → ArgumentsAdd input which ps from n before after r

pub passing_none : (input : Record) (which : Which) (ps : Row) (from : Rest) (n : ℕ) (ws : List ℕ) → Passing input which ps from n ws ps from 0 ws
passing_none input which ps from n ws = record { low = le_refl from.left; onward = λ after r v. rw sub-zero at v }

module _ {input : Record} {which : Which} {ps : Row} {from : Rest} {n : ℕ} {before : List ℕ} {others : Row} {c : Rest} {over : ℕ} {ws : List ℕ} (p : Passing input which ps from n before others c over ws) where
  pub passing_all : over ≡ n → ArgumentsAdd input which ps from n before ws (Ok c)
  passing_all e = p.onward ws (Ok c) (args_none (omega arith))

  pub passing_more : {more : Row} {d : Rest} {us : List ℕ} → d.left ≤ c.left
      → ((after : List ℕ) (r : Result Rest Refusal) → ArgumentsAdd input which more d (n - over - 1) us after r → ArgumentsAdd input which others c (n - over) ws after r) → Passing input which ps from n before more d (over + 1) us
  passing_more l f = record { low = let k = p.low in omega arith; onward = λ after r v. p.onward after r (f after r (let e : n - over - 1 ≡ n - (over + 1) = omega arith in rw e v)) }

-- ---- A whole type

pub type-added : {input : Record} {which : Which} {c : Cursor} {before after : List ℕ} {r : Result Rest Refusal} → TypeAdds input which (record { left = 32; next = c }) before after r
    → (j : Job) (ty : Ty) → Holds input j → Stands type ty (rest input.bytes.now c) → after ≡ add_all before 0 (chosen which j.structs ty)
type-added v j ty l p = let w = whole p.reads in (v.adds j l ty p.over w.stands w.few).words
