-- Types and arguments that stand in bytes, and what the cursor's answers there say of them. Assumes nothing.
use mathlib.Core.Path.{◌≡◌, refl, sym, ap, subst, ◌∙◌}
use mathlib.Core.List.{List, ◌++◌}
use Prim.Native.Nat.{ℕ, zero, suc, ◌+◌, ◌-◌, ◌≤◌, ◌<◌}
use native.Mathlib.Omega.{arith}
use native.Mathlib.Nat.{le_refl}
use native.Mathlib.Numerals.{sub-one}
use lib.ListN.{drop}
use Rattle.nll_spec.specs.Syntax.{Ty, UnitTy, RefTy, StructTy, BoundTy, Args, NoArgs, RegionArg}
use Rattle.nll_spec.specs.Decode.{read, done, refuse, byte, max_nodes, Part, part, node_tag, args, type_within, type}
use Rattle.nll_spec.specs.Types.{type_nodes, arg_nodes}
use Rattle.repr.specs.Reading.{rest, borrow_kind_of, region_of}
use Rattle.repr.specs.Types.{node, node_says, NodeSays, argument_says, ArgumentSays, left_of, nodes_says, TypeSays, ArgumentsSay}
use Rattle.repr.specs.declared.Cursor.{Cursor}
use Rattle.repr.specs.declared.BorrowKind.{BorrowKind}
use Rattle.repr.specs.declared.Region.{Region}
use Rattle.repr.proofs.ReadLaws.{step}
use Rattle.repr.specs.Stands.{TypeTo, ArgsTo, TypeAt, FirstType}
use Rattle.repr.specs.Spelling.{spell, Fine}
use Rattle.repr.proofs.SpellLaws.{clash, carry, then, tag_read, Spelt, type_spelt, SpeltArgs, args_spelt, type_spells, args_spells}
use Rattle.repr.specs.declared.Node.{Node}
use Rattle.repr.specs.declared.Row.{Row}
use Rattle.repr.specs.declared.Node.TheVariants as nodes
use Rattle.repr.specs.declared.Argument.{Argument}
use Rattle.repr.specs.declared.Argument.TheVariants as arguments
use Rattle.repr.specs.declared.Rest.{Rest}
use Rattle.repr.specs.declared.refusal.Refusal.{Refusal}
use Rattle.std.specs.Prelude.{Result, Ok, Err}

-- ---- Bytes

module _ {bs : List ℕ} {t : Ty} {over : List ℕ} (p : TypeTo bs t over) where
  pub type-bytes : Spelt bs p.left t p.after over
  type-bytes = type_spelt p.deep p.left bs (part t p.after) over p.reads

  -- it is read there by whoever has the nodes for it
  pub type_again : {deep left : ℕ} → type_nodes t ≤ left → left < deep → type_within deep left bs ≡ read (part t (left - type_nodes t)) over
  type_again {deep} {left} h l = rw type-bytes.bytes (type_spells t type-bytes.fine deep left over h l)

module _ {bs : List ℕ} {n : ℕ} {given : Args} {over : List ℕ} (p : ArgsTo bs n given over) where
  pub args-bytes : SpeltArgs bs n p.left given p.after over
  args-bytes = args_spelt (type_within p.deep) (type_spelt p.deep) n p.left bs (part given p.after) over p.reads

  pub args_again : {deep left : ℕ} → arg_nodes given ≤ left → left < deep → args (type_within deep) n left bs ≡ read (part given (left - arg_nodes given)) over
  args_again {deep} {left} h l = rw (← args-bytes.count, args-bytes.bytes) (args_spells given args-bytes.fine deep left over h l)

-- bytes that spell it
pub type_to : (t : Ty) {over : List ℕ} → Fine t → TypeTo (spell t ++ over) t over
type_to t {over} f = record { deep = suc (type_nodes t); left = type_nodes t; after = _; reads = type_spells t f (suc (type_nodes t)) (type_nodes t) over (le_refl _) (omega arith) }

pub type_once : {bs p q : List ℕ} {t u : Ty} → TypeTo bs t p → TypeTo bs u q → t ≡ u
type_once {bs} {p} {q} {t} {u} x y = ap (λ (w : Part Ty). w.item) (let e = sym (type_again x {deep = suc n} {left = n} (omega arith) (omega arith)) ∙ type_again y {deep = suc n} {left = n} (omega arith) (omega arith) in let i : part t (n - type_nodes t) ≡ part u (n - type_nodes u) = cc in i)
  where
    n : ℕ
    n = type_nodes t + type_nodes u

-- ---- By `type`

-- a type that `type` reads
pub record Whole (bs : List ℕ) (t : Ty) (over : List ℕ) : Type 0 where
  pub stands : TypeTo bs t over
  pub few : type_nodes t ≤ max_nodes

pub whole : {bs : List ℕ} {t : Ty} {over : List ℕ} → type bs ≡ read t over → Whole bs t over
unfolding type done
whole {bs} e =
    let w = then (type_within (suc max_nodes) max_nodes) _ bs e in
    let p : TypeTo bs w.got.item w.mid = record { deep = suc max_nodes; left = max_nodes; after = w.got.left; reads = w.first } in
    let n = (type-bytes p).nodes in
    carry (λ u o. Whole bs u o) w.last (record { stands = p; few = omega arith })

pub type-stands : {s : List ℕ} {at : ℕ} {t : Ty} {over : List ℕ} → type (drop at s) ≡ read t over → TypeAt s at t
type-stands {over = over} e = record { over = over; stands = (whole e).stands }

-- ---- By the first node

-- a type with no parts, which ends at c
pub record LeafIs (s : List ℕ) (t : Ty) (over : List ℕ) (u : Ty) (c : Cursor) : Type 0 where
  pub same : t ≡ u
  pub ends : rest s c ≡ over

pub record RefIs (s : List ℕ) (t : Ty) (over : List ℕ) (k : BorrowKind) (r : Region) (c : Cursor) : Type 0 where
  pub referent : Ty
  pub same : t ≡ RefTy (borrow_kind_of k) (region_of r) referent
  pub stands : TypeTo (rest s c) referent over

pub record StructIs (s : List ℕ) (t : Ty) (over : List ℕ) (name : ℕ) (row : Row) : Type 0 where
  pub given : Args
  pub same : t ≡ StructTy name given
  pub stands : ArgsTo (rest s row.from) row.count given over

abbrev pub NodeIs : List ℕ → Ty → List ℕ → Result Node Refusal → Type 0
NodeIs s t over (Ok (nodes.Unit c)) = LeafIs s t over UnitTy c
NodeIs s t over (Ok (nodes.Ref k r c)) = RefIs s t over k r c
NodeIs s t over (Ok (nodes.Struct name r)) = StructIs s t over name.0 r
NodeIs s t over (Ok (nodes.Bound b c)) = LeafIs s t over (BoundTy b) c
NodeIs s t over (Err k) = ⊥

node-reads : (deep left : ℕ) (bs : List ℕ) {t : Part Ty} {over : List ℕ} → type_within deep left bs ≡ read t over → (d : ℕ) × (node (type_within d) (left - 1) bs ≡ read t over)
unfolding type_within node byte refuse
node-reads zero left bs e = absurd (clash e)
node-reads (suc deep) left bs e = let w = then (node_tag left) _ bs e in let v = tag_read left bs w.first in (deep, step byte _ bs (ap byte v.0) ∙ w.last)

says_is : (deep left : ℕ) (s : List ℕ) (d : Result Node Refusal) {t : Part Ty} {over : List ℕ} → node_says (type_within deep) left s d ≡ read t over → NodeIs s t.item over d
unfolding done
says_is deep left s (Ok (nodes.Unit c)) e = carry (λ (x : Part Ty) o. LeafIs s x.item o UnitTy c) e (record { same = refl; ends = refl })
says_is deep left s (Ok (nodes.Ref k r c)) e =
    let w = then (type_within deep left) _ (rest s c) e in
    carry (λ (x : Part Ty) o. RefIs s x.item o k r c) w.last (record { referent = w.got.item; same = refl; stands = record { deep = deep; left = left; after = w.got.left; reads = w.first } })
says_is deep left s (Ok (nodes.Struct name r)) e =
    let w = then (args (type_within deep) r.count left) _ (rest s r.from) e in
    carry (λ (x : Part Ty) o. StructIs s x.item o name.0 r) w.last (record { given = w.got.item; same = refl; stands = record { deep = deep; left = left; after = w.got.left; reads = w.first } })
says_is deep left s (Ok (nodes.Bound b c)) e = carry (λ (x : Part Ty) o. LeafIs s x.item o (BoundTy b) c) e (record { same = refl; ends = refl })
says_is deep left s (Err k) e = absurd (clash e)

pub node-is : {s : List ℕ} {at : ℕ} {d : Result Node Refusal} {t : Ty} {over : List ℕ} → NodeSays node s at d → TypeTo (drop at s) t over → NodeIs s t over d
node-is {s} {at} {d} n p = let w = node-reads p.deep p.left (drop at s) p.reads in says_is w.0 (p.left - 1) s d (n.same (type_within w.0) (p.left - 1) ∙ w.1)

-- the same, where the answer is known
pub on-node : {s : List ℕ} {at : ℕ} {d x : Result Node Refusal} {t : Ty} {over : List ℕ} → NodeSays node s at d → d ≡ x → TypeTo (drop at s) t over → NodeIs s t over x
on-node {s} {t = t} {over = over} m e p = subst (λ (y : Result Node Refusal). NodeIs s t over y) e (node-is m p)

-- ---- By the first argument

pub record RegionFirst (bs : List ℕ) (n : ℕ) (h : Args) (over : List ℕ) (r : Region) : Type 0 where
  pub more : Args
  pub same : h ≡ RegionArg (region_of r) more
  pub others : ArgsTo bs n more over

abbrev pub ArgumentIs : List ℕ → ℕ → Args → List ℕ → Result Argument Refusal → Type 0
ArgumentIs s n h over (Ok (arguments.Region r c)) = RegionFirst (rest s c) n h over r
ArgumentIs s n h over (Ok (arguments.Type c)) = FirstType (rest s c) n h over
ArgumentIs s n h over (Err k) = ⊥

first-is : (deep n left : ℕ) (s : List ℕ) (d : Result Argument Refusal) {h : Part Args} {over : List ℕ} → argument_says (type_within deep) n left s d ≡ read h over → ArgumentIs s n h.item over d
unfolding done
first-is deep n left s (Ok (arguments.Region r c)) e =
    let w = then (args (type_within deep) n left) _ (rest s c) e in
    carry (λ (x : Part Args) o. RegionFirst (rest s c) n x.item o r) w.last (record { more = w.got.item; same = refl; others = record { deep = deep; left = left; after = w.got.left; reads = w.first } })
first-is deep n left s (Ok (arguments.Type c)) e =
    let w = then (type_within deep left) _ (rest s c) e in
    let v = then (args (type_within deep) n w.got.left) _ w.mid w.last in
    carry (λ (x : Part Args) o. FirstType (rest s c) n x.item o) v.last (record {
      item = w.got.item;
      more = v.got.item;
      mid = w.mid;
      same = refl;
      first = record { deep = deep; left = left; after = w.got.left; reads = w.first };
      others = record { deep = deep; left = w.got.left; after = v.got.left; reads = v.first };
    })
first-is deep n left s (Err k) e = absurd (clash e)

pub argument_is : {s : List ℕ} {at n : ℕ} {d : Result Argument Refusal} {h : Args} {over : List ℕ} → ArgumentSays s at d → (n ≡ 0 → ⊥) → ArgsTo (drop at s) n h over → ArgumentIs s (n - 1) h over d
argument_is {n = zero} a z p = absurd (z refl)
argument_is {s = s} {n = suc n} {d = d} {h = h} {over = over} a z p = subst (λ (k : ℕ). ArgumentIs s k h over d) (sym (sub-one (suc n))) (first-is p.deep n p.left s d (a.same (type_within p.deep) n p.left ∙ p.reads))

pub on_argument : {s : List ℕ} {at n : ℕ} {d x : Result Argument Refusal} {h : Args} {over : List ℕ} → ArgumentSays s at d → (n ≡ 0 → ⊥) → d ≡ x → ArgsTo (drop at s) n h over → ArgumentIs s (n - 1) h over x
on_argument {s} {n = n} {h = h} {over = over} m z e p = subst (λ (y : Result Argument Refusal). ArgumentIs s (n - 1) h over y) e (argument_is m z p)

-- no arguments
pub record NoneIs (bs : List ℕ) (h : Args) (over : List ℕ) : Type 0 where
  pub same : h ≡ NoArgs
  pub ends : bs ≡ over

pub none_is : {bs : List ℕ} {n : ℕ} {h : Args} {over : List ℕ} → n ≡ 0 → ArgsTo bs n h over → NoneIs bs h over
unfolding args done
none_is {bs} {n} {h} {over} z p = carry (λ (x : Part Args) o. NoneIs bs x.item o) (rw z at p.reads) (record { same = refl; ends = refl })

-- ---- Passed over

pub type-passed : {s : List ℕ} {at left : ℕ} {r : Result Rest Refusal} {t : Ty} {over : List ℕ} → TypeSays s at left r → TypeTo (drop at s) t over → type_nodes t ≤ left → nodes_says s r ≡ read (left - type_nodes t) over
type-passed {left = left} n p h = n.same (suc left) (omega arith) ∙ ap left_of (type_again p h (omega arith))

pub args-passed : {s : List ℕ} {at n left : ℕ} {r : Result Rest Refusal} {h : Args} {over : List ℕ} → ArgumentsSay s at n left r → ArgsTo (drop at s) n h over → arg_nodes h ≤ left → nodes_says s r ≡ read (left - arg_nodes h) over
args-passed {left = left} n p h = n.same (suc left) (omega arith) ∙ ap left_of (args_again p h (omega arith))
