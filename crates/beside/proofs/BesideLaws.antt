-- What each way through the first nodes, and the first arguments, of two types says of them. Assumes nothing.
use mathlib.Core.Path.{◌≡◌, refl, sym, ap, subst, ◌∙◌}
use mathlib.Core.Bool.{Bool, true, false, cond}
use mathlib.Core.List.{List, [], ◌∷◌}
use Prim.Native.Nat.{ℕ, ◌-◌, ◌≤◌}
use native.Mathlib.Omega.{arith}
use lib.ListN.{drop}
use lib.Dec.{eqb}
use Rattle.nll_spec.specs.Syntax as syntax
use Rattle.nll_spec.specs.Syntax.{Ty, UnitTy, RefTy, StructTy, BoundTy, Args, TypeArg, Param}
use Rattle.nll_spec.specs.Decode.{read, max_nodes, items, param}
use Rattle.nll_spec.specs.Types.{same_kind, head_type, tail_args, type_nodes, arg_nodes}
use Rattle.nll_spec.specs.WellFormed.{is_unit, same_shape, same_shapes}
use Rattle.repr.specs.Reading.{rest, borrow_kind_of, region_of, variance_of, parameter_of, says}
use Rattle.repr.specs.Types.{node, NodeSays, ArgumentSays, nodes_says}
use Rattle.repr.specs.Types as repr_types
use Rattle.repr.specs.declared.Cursor.{Cursor}
use Rattle.repr.specs.declared.BorrowKind.{BorrowKind}
use Rattle.repr.specs.declared.Region.{Region}
use Rattle.repr.specs.declared.Region.TheVariants as regions
use Rattle.repr.specs.declared.StructParameter.{StructParameter}
use Rattle.repr.proofs.ReadLaws.{told}
use Rattle.repr.specs.Stands.{Stands, TypeTo, ArgsTo, FirstType}
use Rattle.repr.proofs.SpellLaws.{clash, carry}
use Rattle.repr.proofs.ItemLaws.{first_of, none_of}
use Rattle.repr.proofs.NodeLaws.{first-nodes}
use Rattle.repr.proofs.StandLaws.{NodeIs, node-is, on-node, on_argument, none_is, type-passed}
use Rattle.beside.specs.Beside.{heads_of, ParameterSays, NoType, RegionIs, RegionSays, TypeIs, TypeSays, UnitIs, UnitSays, PairIs, FirstsSay}
use Rattle.repr.specs.declared.Row.{Row}
use Rattle.beside.specs.declared.Heads.{Heads}
use Rattle.beside.specs.declared.Heads.TheVariants as heads
use Rattle.beside.specs.declared.First.{First}
use Rattle.beside.specs.declared.First.TheVariants as firsts
use Rattle.beside.specs.declared.Pair.{Pair}
use Rattle.beside.specs.declared.Pair.TheVariants as pairs
use Rattle.beside.specs.declared.Parameter.{Parameter}
use Rattle.repr.specs.declared.refusal.Refusal.{Refusal}
use Rattle.repr.specs.declared.Node.{Node}
use Rattle.repr.specs.declared.Node.TheVariants as nodes
use Rattle.repr.specs.declared.Argument.{Argument}
use Rattle.repr.specs.declared.Argument.TheVariants as arguments
use Rattle.repr.specs.declared.Rest.{Rest}
use Rattle.std.specs.Prelude.{Option, Some, None, Result, Ok, Err}

-- ---- Two nodes

-- what two types that begin so are, and what they are alike by
pub record UnitsAre (t u : Ty) (p q ends-a ends-b : List ℕ) : Type 0 where
  pub a_same : t ≡ UnitTy
  pub alike : same_shape t u ≡ true
  pub a_ends : ends-a ≡ p
  pub b_ends : ends-b ≡ q

pub record RefsAre (t u : Ty) (p q : List ℕ) (k : BorrowKind) (r : Region) (of-a : List ℕ) (o : Region) (of-b : List ℕ) : Type 0 where
  pub kind : syntax.BorrowKind
  pub first : Ty
  pub second : Ty
  pub a_same : t ≡ RefTy (borrow_kind_of k) (region_of r) first
  pub b_same : u ≡ RefTy kind (region_of o) second
  pub alike : same_shape t u ≡ same_shape first second
  pub a_stands : TypeTo of-a first p
  pub b_stands : TypeTo of-b second q

pub record StructsAre (t u : Ty) (p q : List ℕ) (name : ℕ) (of-a : List ℕ) (m : ℕ) (of-b : List ℕ) (n : ℕ) : Type 0 where
  pub other : ℕ
  pub first : Args
  pub second : Args
  pub a_same : t ≡ StructTy name first
  pub b_same : u ≡ StructTy other second
  pub alike : same_shape t u ≡ same_shapes first second
  pub a_stand : ArgsTo of-a m first p
  pub b_stand : ArgsTo of-b n second q

module _ (a b : List ℕ) (t u : Ty) (p q : List ℕ) where
  abbrev pub HeadsAre : Option Heads → Type 0
  HeadsAre (Some (heads.Units c d)) = UnitsAre t u p q (rest a c) (rest b d)
  HeadsAre (Some (heads.Refs k r c o d)) = RefsAre t u p q k r (rest a c) o (rest b d)
  HeadsAre (Some (heads.Structs z g h)) = StructsAre t u p q z.0 (rest a g.from) g.count (rest b h.from) h.count
  HeadsAre None = same_shape t u ≡ false

  pub heads_are : (j k : Result Node Refusal) → NodeIs a t p j → NodeIs b u q k → HeadsAre (heads_of j k)
  unfolding same_shape
  heads_are (Ok (nodes.Unit c)) (Ok (nodes.Unit d)) x y = record { a_same = x.same; alike = rw (x.same, y.same); a_ends = x.ends; b_ends = y.ends }
  heads_are (Ok (nodes.Unit c)) (Ok (nodes.Ref k r d)) x y = rw (x.same, y.same)
  heads_are (Ok (nodes.Unit c)) (Ok (nodes.Struct s h)) x y = rw (x.same, y.same)
  heads_are (Ok (nodes.Unit c)) (Ok (nodes.Bound i d)) x y = rw (x.same, y.same)
  heads_are (Ok (nodes.Unit c)) (Err k) x y = absurd y
  heads_are (Ok (nodes.Ref j o c)) (Ok (nodes.Unit d)) x y = rw (x.same, y.same)
  heads_are (Ok (nodes.Ref j o c)) (Ok (nodes.Ref k r d)) x y = go (same_kind (borrow_kind_of j) (borrow_kind_of k)) refl
    where
      go : (z : Bool) → same_kind (borrow_kind_of j) (borrow_kind_of k) ≡ z → HeadsAre (cond {A = Option Heads} z (Some (heads.Refs j o c r d)) None)
      go true e = record { kind = borrow_kind_of k; first = x.referent; second = y.referent; a_same = x.same; b_same = y.same; alike = rw (x.same, y.same, e); a_stands = x.stands; b_stands = y.stands }
      go false e = rw (x.same, y.same, e)
  heads_are (Ok (nodes.Ref j o c)) (Ok (nodes.Struct s h)) x y = rw (x.same, y.same)
  heads_are (Ok (nodes.Ref j o c)) (Ok (nodes.Bound i d)) x y = rw (x.same, y.same)
  heads_are (Ok (nodes.Ref j o c)) (Err k) x y = absurd y
  heads_are (Ok (nodes.Struct s g)) (Ok (nodes.Unit d)) x y = rw (x.same, y.same)
  heads_are (Ok (nodes.Struct s g)) (Ok (nodes.Ref k r d)) x y = rw (x.same, y.same)
  heads_are (Ok (nodes.Struct s g)) (Ok (nodes.Struct z h)) x y = go (eqb s.0 z.0) refl
    where
      go : (w : Bool) → eqb s.0 z.0 ≡ w → HeadsAre (cond {A = Option Heads} w (Some (heads.Structs s g h)) None)
      go true e = record { other = z.0; first = x.given; second = y.given; a_same = x.same; b_same = y.same; alike = rw (x.same, y.same, e); a_stand = x.stands; b_stand = y.stands }
      go false e = rw (x.same, y.same, e)
  heads_are (Ok (nodes.Struct s g)) (Ok (nodes.Bound i d)) x y = rw (x.same, y.same)
  heads_are (Ok (nodes.Struct s g)) (Err k) x y = absurd y
  heads_are (Ok (nodes.Bound i c)) (Ok (nodes.Unit d)) x y = rw x.same
  heads_are (Ok (nodes.Bound i c)) (Ok (nodes.Ref k r d)) x y = rw x.same
  heads_are (Ok (nodes.Bound i c)) (Ok (nodes.Struct s h)) x y = rw x.same
  heads_are (Ok (nodes.Bound i c)) (Ok (nodes.Bound k d)) x y = rw x.same
  heads_are (Ok (nodes.Bound i c)) (Err k) x y = absurd y
  heads_are (Err j) k x y = absurd x

-- what two types are by the answers at both
pub heads_by : {a : List ℕ} {x : ℕ} {b : List ℕ} {y : ℕ} {j k : Result Node Refusal} {h w : Option Heads} → NodeSays node a x j → NodeSays node b y k → h ≡ heads_of j k → h ≡ w
    → {t u : Ty} {p q : List ℕ} → TypeTo (drop x a) t p → TypeTo (drop y b) u q → HeadsAre a b t u p q w
heads_by {a} {b = b} {j = j} {k = k} m n e f {t} {u} {p} {q} s o = subst (λ (z : Option Heads). HeadsAre a b t u p q z) (sym e ∙ f) (heads_are a b t u p q j k (node-is m s) (node-is n o))

-- ---- The first parameter

module _ {s : List ℕ} {row : Row} where
  pub parameter_none : row.count ≡ 0 → {v : Parameter} → variance_of v.variance ≡ syntax.In → v.others ≡ row → ParameterSays s row v
  parameter_none z e i = record {
    says = λ ds d.
        let w : ds ≡ [] = (none_of param row.count (rest s row.from) z d.reads).0 in
        record { variance = e ∙ rw w; others = rw i (subst (λ (x : List Param). Stands (items row.count param) x (rest s row.from)) (w ∙ sym (rw w)) d) };
  }

  module _ (z : row.count ≡ 0 → ⊥) {q : Result (StructParameter × Cursor) Refusal} (m : says parameter_of s q ≡ param (rest s row.from)) where
    pub parameter_refused : {k : Refusal} {v : Parameter} → q ≡ Err k → ParameterSays s row v
    parameter_refused e = record { says = λ ds d. absurd (let w = first_of param row.count (rest s row.from) z d.reads in clash (sym (told (says parameter_of s) m e) ∙ w.first)) }

    pub parameter_first : {x : StructParameter} {next : Cursor} {v : Parameter} → q ≡ Ok (x, next) → v.variance ≡ x.variance
        → (v.others.from ≡ next) × (v.others.count ≡ row.count - 1) → ParameterSays s row v
    parameter_first {x} {next} {v} e i k = record {
      says = λ ds d.
          let w = first_of param row.count (rest s row.from) z d.reads in
          let y = carry (λ (y : Param) o. (ds ≡ y ∷ w.others) × (items (row.count - 1) param o ≡ read w.others d.over)) (sym w.first ∙ told (says parameter_of s) m e) (w.same, w.reads) in
          record { variance = rw (i, y.0); others = record { over = d.over; reads = rw (k.0, k.1, y.0) y.1 } };
    }

-- ---- The first of some arguments

module _ {s : List ℕ} {row : Row} where
  pub region-none : row.count ≡ 0 → RegionSays s row (Ok (regions.Free (record { 0 = 0 }), row.from))
  region-none z = record {
    says = λ h over p few.
        let w = none_is z p in
        let i : row.count - 1 ≡ row.count = omega arith in
        let j : tail_args h ≡ h = rw w.same in
        record { region = rw w.same; others = rw (i, j) p };
  }

  pub type-none : row.count ≡ 0 → TypeSays s row (Ok (firsts.Other row.from))
  type-none z = record {
    says = λ h over p.
        let w = none_is z p in
        let i : row.count - 1 ≡ row.count = omega arith in
        let j : tail_args h ≡ h = rw w.same in
        record { unit = rw w.same; others = rw (i, j) p };
  }

  module _ {d : Result Argument Refusal} (m : ArgumentSays s row.from.at d) (z : row.count ≡ 0 → ⊥) where
    pub region-refused : {k l : Refusal} → d ≡ Err k → RegionSays s row (Err l)
    region-refused e = record { says = λ h over p few. on_argument m z e p }

    pub region-first : {r : Region} {c : Cursor} → d ≡ Ok (arguments.Region r c) → RegionSays s row (Ok (r, c))
    region-first {c = c} e = record {
      says = λ h over p few.
          let w = on_argument m z e p in
          record { region = rw w.same; others = subst (λ (g : Args). ArgsTo (rest s c) (row.count - 1) (tail_args g) over) (sym w.same) w.others };
    }

    module _ {c : Cursor} {w : Result Rest Refusal} (e : d ≡ Ok (arguments.Type c)) (v : repr_types.TypeSays s c.at 32 w) where
      on-type : (h : Args) (over : List ℕ) (p : ArgsTo (rest s row.from) row.count h over) → arg_nodes h ≤ max_nodes → nodes_says s w ≡ read (32 - type_nodes (on_argument m z e p).item) (on_argument m z e p).mid
      on-type h over p i = let x = on_argument m z e p in let k = first-nodes x.same in type-passed v x.first (omega arith)

      pub region-short : {k l : Refusal} → w ≡ Err k → RegionSays s row (Err l)
      region-short f = record { says = λ h over p i. clash (sym (ap (nodes_says s) f) ∙ on-type h over p i) }

      pub region-passed : {at : Rest} → w ≡ Ok at → RegionSays s row (Ok (regions.Free (record { 0 = 0 }), at.next))
      region-passed {at} f = record {
        says = λ h over p i.
            let x = on_argument m z e p in
            let g = sym (ap (nodes_says s) f) ∙ on-type h over p i in
            let y : x.mid ≡ rest s at.next = cc in
            record {
              region = rw x.same;
              others = subst (λ (o : Args). ArgsTo (rest s at.next) (row.count - 1) (tail_args o) over) (sym x.same) (subst (λ (o : List ℕ). ArgsTo o (row.count - 1) x.more over) y x.others);
            };
      }

    pub type-refused : {k : Refusal} → d ≡ Err k → TypeSays s row (Err k)
    type-refused e = record { says = λ h over p. on_argument m z e p }

    pub type_other : {r : Region} {c : Cursor} → d ≡ Ok (arguments.Region r c) → TypeSays s row (Ok (firsts.Other c))
    type_other {c = c} e = record {
      says = λ h over p.
          let w = on_argument m z e p in
          record { unit = rw w.same; others = subst (λ (g : Args). ArgsTo (rest s c) (row.count - 1) (tail_args g) over) (sym w.same) w.others };
    }

    pub type-first : {c : Cursor} → d ≡ Ok (arguments.Type c) → TypeSays s row (Ok (firsts.Type c))
    type-first e = record { says = λ h over p. on_argument m z e p }

-- ---- A type beside Unit

module _ {s : List ℕ} {at : ℕ} {b : Cursor} {d : Result Node Refusal} (m : NodeSays node s at d) where
  pub unit-there : {c : Cursor} → d ≡ Ok (nodes.Unit c) → UnitSays s at b (Some (pairs.Units c b))
  unit-there e = record { says = λ t over p. let w = on-node m e p in record { same = w.same; ends = w.ends; next = refl } }

  pub unit_none : (k : Refusal) × (d ≡ Err k) → UnitSays s at b None
  unit_none e = record { says = λ t over p. absurd (on-node m e.1 p) }

  unit_differs : ((c : Cursor) → d ≡ Ok (nodes.Unit c) → ⊥) → UnitSays s at b None
  unit_differs f = record { says = λ t over p. go t over d f (node-is m p) }
    where
      go : (t : Ty) (over : List ℕ) (x : Result Node Refusal) → ((c : Cursor) → x ≡ Ok (nodes.Unit c) → ⊥) → NodeIs s t over x → is_unit t ≡ false
      go t over (Ok (nodes.Unit c)) e w = absurd (e c refl)
      go t over (Ok (nodes.Ref k r c)) e w = rw w.same
      go t over (Ok (nodes.Struct z g)) e w = rw w.same
      go t over (Ok (nodes.Bound i c)) e w = rw w.same
      go t over (Err k) e w = absurd w

  pub unit_other : {x : Node} → d ≡ Ok x → ((c : Cursor) → x ≡ nodes.Unit c → ⊥) → UnitSays s at b None
  unit_other {x} e f = unit_differs (λ c g. f c (let h = sym e ∙ g in cc))

-- ---- The first of both rows

unit_shape : (t : Ty) → same_shape t UnitTy ≡ is_unit t
unfolding same_shape
unit_shape UnitTy = refl
unit_shape (RefTy k r t) = refl
unit_shape (StructTy s given) = refl
unit_shape (BoundTy b) = refl

-- a type beside what counts as Unit
beside_unit : {g : Args} (h : Args) {t : Ty} {more : Args} → g ≡ TypeArg t more → head_type h ≡ UnitTy → is_unit t ≡ false → same_shapes g h ≡ false
unfolding same_shapes
beside_unit h {t} e f i = let j = unit_shape t ∙ i in rw (e, f, j)

module _ {a : List ℕ} {x : ℕ} {b : List ℕ} {row : Row} {d : Result Argument Refusal} (v : ArgumentSays a x d) where
  pub pair_refused : {k : Refusal} → d ≡ Err k → FirstsSay a x b row None
  pair_refused e = record { says = λ m g h p q z s o i. absurd (on_argument v z e s) }

  module _ {r : Region} {c : Cursor} (e : d ≡ Ok (arguments.Region r c)) {w : Result (Region × Cursor) Refusal} (n : RegionSays b row w) where
    pub pair_region-refused : {k : Refusal} → w ≡ Err k → FirstsSay a x b row None
    pair_region-refused f = record { says = λ m g h p q z s o i. absurd (subst (λ (u : Result (Region × Cursor) Refusal). RegionIs b row.count h q u) f (n.says h q o i)) }

    pub pair_regions : {o : Region} {to : Cursor} → w ≡ Ok (o, to) → FirstsSay a x b row (Some (pairs.Regions r c o to))
    pair_regions f = record {
      says = λ m g h p q z s o i.
          let y = on_argument v z e s in
          record { more = y.more; same = y.same; others = y.others; second = subst (λ (u : Result (Region × Cursor) Refusal). RegionIs b row.count h q u) f (n.says h q o i) };
    }

  module _ {c : Cursor} (e : d ≡ Ok (arguments.Type c)) {w : Result First Refusal} (n : TypeSays b row w) where
    pub pair_type-refused : {k : Refusal} → w ≡ Err k → FirstsSay a x b row None
    pair_type-refused f = record { says = λ m g h p q z s o i. absurd (subst (λ (u : Result First Refusal). TypeIs b row.count h q u) f (n.says h q o)) }

    pub pair_types : {to : Cursor} → w ≡ Ok (firsts.Type to) → FirstsSay a x b row (Some (pairs.Types c to))
    pair_types f = record { says = λ m g h p q z s o i. record { first = on_argument v z e s; second = subst (λ (u : Result First Refusal). TypeIs b row.count h q u) f (n.says h q o) } }

    module _ {to : Cursor} (f : w ≡ Ok (firsts.Other to)) where
      pub pair_unit : {r : Option Pair} → UnitSays a c.at to r → FirstsSay a x b row r
      pair_unit {r} u = record {
        says = λ m g h p q z s o i.
            go r m g h p q (on_argument v z e s) (subst (λ (u : Result First Refusal). TypeIs b row.count h q u) f (n.says h q o))
            (u.says (on_argument v z e s).item (on_argument v z e s).mid (on_argument v z e s).first);
      }
        where
          go : (r : Option Pair) (m : ℕ) (g h : Args) (p q : List ℕ) (y : FirstType (rest a c) (m - 1) g p) → NoType (rest b to) (row.count - 1) h q
              → UnitIs a y.item y.mid to r → PairIs a b m row.count g h p q r
          go (Some (pairs.Regions k i o j)) m g h p q y y' k' = absurd k'
          go (Some (pairs.Types i j)) m g h p q y y' k = absurd k
          go (Some (pairs.Units i j)) m g h p q y y' k =
              record {
                more = y.more;
                same = y.same ∙ ap (λ (t : Ty). TypeArg t y.more) k.same;
                others = subst (λ (o : List ℕ). ArgsTo o (m - 1) y.more p) (sym k.ends) y.others;
                second = subst (λ (o : Cursor). NoType (rest b o) (row.count - 1) h q) (sym k.next) y';
              }
          go None m g h p q y y' k = beside_unit h y.same y'.unit k
