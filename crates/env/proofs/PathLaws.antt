-- The types along a path. Assumes nothing.
use mathlib.Core.Path.{◌≡◌, refl, sym, ap, subst as transport, ◌∙◌}
use mathlib.Core.Bool.{Bool, true, false, ◌&&◌, cond}
use mathlib.Core.List.{List, [], ◌∷◌, ◌++◌, append_assoc, append-nil}
use mathlib.Core.Option.{Option, none, some}
use Prim.Native.Nat.{ℕ, ◌+◌, ◌≤◌, ◌<◌}
use native.Mathlib.Omega.{arith}
use native.Mathlib.Decide.{dec_lt}
use lib.Dec.{leb}
use lib.ListN.{length, get_or, take, drop, set, length-append, length-set}
use lib.Seq.{take-append-le, take_at, get_or-set_same, get_or-set_other}
use borrow.Author.Tests.{ne_eqb, le-leb, lt-leb}
use Rattle.nll_spec.specs.Syntax.{BorrowKind, Mut, Shared, Ty, UnitTy, RefTy, StructTy, BoundTy, Args, StructDecl, Job}
use Rattle.nll_spec.specs.Syntax as syntax
use Rattle.nll_spec.specs.Decode.{max_nodes}
use Rattle.nll_spec.specs.Types.{is_ref, ref_region, type_nodes, arg_nodes, struct_of, subst, field_type, step_type, step, type_after, variable_type, path_type}
use Rattle.nll_spec.specs.WellFormed.{steps_fit, path_fits}
use Rattle.repr.specs.Reading.{borrow_kind_of, region_of, path_of}
use Rattle.repr.specs.Types.{node, NodeSays}
use Rattle.repr.specs.declared.Cursor.{Cursor}
use Rattle.repr.specs.declared.Row.{Row}
use Rattle.repr.specs.declared.Path as repr
use Rattle.repr.specs.declared.BorrowKind.{BorrowKind as Kind}
use Rattle.repr.specs.declared.Region.{Region}
use Rattle.repr.specs.declared.StructName.{StructName}
use Rattle.repr.specs.declared.StructDecl as decl
use Rattle.repr.specs.declared.Node.{Node}
use Rattle.repr.specs.declared.Node.TheVariants as nodes
use Rattle.repr.specs.declared.refusal.Refusal.{Refusal}
use Rattle.std.specs.Prelude.{Result, Ok, Err}
use Rattle.std.specs.Prelude as std
use Rattle.std.specs.Prelude.{Some, None}
use Rattle.std.proofs.lemmas.List.{map-set, length-map}
use Rattle.record.specs.Layout.{Holds}
use Rattle.record.specs.declared.Record.{Record}
use Rattle.record.specs.Access.{Declared}
use Rattle.record.proofs.AccessLaws.{variable_at}
use Rattle.repr.specs.Stands.{TypeAt}
use Rattle.ty.specs.Written.{Stood, StoodBy, WholeSays}
use Rattle.ty.specs.Written as written
use Rattle.ty.specs.declared.write.Arguments.{Arguments}
use Rattle.repr.proofs.StandLaws.{NodeIs, on-node, type-stands}
use Rattle.env.specs.Fields.{TypeThere, FieldIs, FieldSays}
use Rattle.env.specs.Prefixes.{kind_code, Leaves}
use Rattle.env.specs.Paths.{PathType, PathResult, PathSays, Named, Noted, small, Moves, FieldStepSays, StepIs, StepSays, CopyIs, CopiedSays, Stage, Reached, AlongIs, AlongSays, OnwardIs, OnwardSays}
use Rattle.env.specs.Steps.{kind_number, kind_in, name_in, kinds_of, names_of}
use Rattle.env.specs.declared.Step.{Step}
use Rattle.env.specs.declared.paths.Ahead.{Ahead}
use Rattle.env.specs.declared.paths.Found.{Found}
use Rattle.env.specs.declared.paths.Found.TheVariants as found
use Rattle.env.proofs.FieldLaws.{type-few}

-- ---- A copy

module _ {s : List ℕ} {at : ℕ} {out : List ℕ} {d : std.Option ℕ} (v : written.CopiedSays s at out d) where
  pub copy_large : d ≡ None → CopiedSays s at out None
  copy_large e = record { says = λ u p few. let h : max_nodes < type_nodes u = transport (λ (x : std.Option ℕ). StoodBy out u x) e (v.says u p) in omega arith }

-- ---- A field

module _ (ss : List StructDecl) (name f : ℕ) (g : Args) where
  no_field : field_type (struct_of ss name).fields f ≡ none → step_type ss (StructTy name g) f ≡ none
  unfolding step_type
  no_field e = ap (λ (o : Option Ty). elim o as (λ x. Option Ty) [ none ↦ none | some t ↦ some (subst t g) ]) e

  a_field : {t : Ty} → field_type (struct_of ss name).fields f ≡ some t → step_type ss (StructTy name g) f ≡ some (subst t g)
  unfolding step_type
  a_field e = ap (λ (o : Option Ty). elim o as (λ x. Option Ty) [ none ↦ none | some t ↦ some (subst t g) ]) e

module _ (input : Record) {name f : ℕ} {a : Arguments} {to : List ℕ} {d : decl.StructDecl} {v : std.Option Cursor}
    (w : (j : Job) → Holds input j → Declared input.bytes.now (struct_of j.structs name) d) (m : FieldSays input.bytes.now d f v) where
  pub field_absent : v ≡ None → FieldStepSays input name f a to None
  field_absent e = record {
    says = λ j l g few.
        let i : field_type (struct_of j.structs name).fields f ≡ none = transport (λ (x : std.Option Cursor). FieldIs input.bytes.now (field_type (struct_of j.structs name).fields f) x) e (m.says (struct_of j.structs name) (w j l)) in
        ap small (no_field j.structs name f g i);
  }

  module _ {x : Cursor} (e : v ≡ Some x) {q : std.Option ℕ} (u : WholeSays input.bytes.now x.at a to q) where
    there : (j : Job) → Holds input j → TypeThere input.bytes.now x.at (field_type (struct_of j.structs name).fields f)
    there j l = transport (λ (y : std.Option Cursor). FieldIs input.bytes.now (field_type (struct_of j.structs name).fields f) y) e (m.says (struct_of j.structs name) (w j l))

    pub field_large : q ≡ None → FieldStepSays input name f a to None
    field_large i = record {
      says = λ j l g few.
          let y = there j l in
          let k : max_nodes < type_nodes (subst y.type g) = transport (λ (z : std.Option ℕ). StoodBy to (subst y.type g) z) i (u.says y.type g y.stands few) in
          ap small (a_field j.structs name f g y.same) ∙ lt-leb (type_nodes (subst y.type g)) max_nodes k;
    }

    pub field_written : {end : ℕ} → q ≡ Some end → FieldStepSays input name f a to (Some (found.Written tt))
    field_written {end} i = record {
      says = λ j l g few.
          let y = there j l in
          let k : Stood to (subst y.type g) end = transport (λ (z : std.Option ℕ). StoodBy to (subst y.type g) z) i (u.says y.type g y.stands few) in
          record { type = subst y.type g; same = a_field j.structs name f g y.same; stands = record { over = drop end to; stands = k.stands }; few = k.few };
    }

-- ---- A step

pub long : (taken : List Step) → length taken ≡ 8 → (length (kinds_of taken) ≡ 8) × (length (names_of taken) ≡ 8)
long taken h = (length-map taken kind_in ∙ h, length-map taken name_in ∙ h)

-- what is noted, by numbers
pub noted : (taken : List Step) {taken' : List Step} (i : ℕ) (x : Step) → taken' ≡ set taken i x → (kinds_of taken' ≡ set (kinds_of taken) i (kind_in x)) × (names_of taken' ≡ set (names_of taken) i (name_in x))
noted taken i x e = (rw e (map-set kind_in taken i x), rw e (map-set name_in taken i x))

noting : (from to : List ℕ) (o : Option Ty) {noted : Type 0} → noted → (r : std.Option (Found (Unit {0}))) → Moves from to o r → StepIs from to o noted r
noting from to o n (Some (found.Inside c)) m = (m, n)
noting from to o n (Some (found.Written u)) m = (m, n)
noting from to o n None m = m

kind-of_ref : (k : BorrowKind) (r : syntax.Region) (t : Ty) → kind_number k ≡ kind_code (RefTy k r t)
kind-of_ref Mut r t = refl
kind-of_ref Shared r t = refl

star-step : (ss : List StructDecl) (k : BorrowKind) (r : syntax.Region) (t : Ty) (f : ℕ) → f ≡ 0 → step_type ss (RefTy k r t) f ≡ some t
unfolding step_type
star-step ss k r t f e = rw e

other_step : (ss : List StructDecl) (k : BorrowKind) (r : syntax.Region) (t : Ty) (f : ℕ) → (f ≡ 0 → ⊥) → step_type ss (RefTy k r t) f ≡ none
unfolding step_type
other_step ss k r t f e = ap (λ (b : Bool). cond b (some t) none) (ne_eqb f 0 e)

no_unit : (ss : List StructDecl) (f : ℕ) → small (step_type ss UnitTy f) ≡ false
unfolding step_type
no_unit ss f = refl

no_bound : (ss : List StructDecl) (b f : ℕ) → small (step_type ss (BoundTy b) f) ≡ false
unfolding step_type
no_bound ss b f = refl

ref_few : {u x : Ty} {k : BorrowKind} {r : syntax.Region} → u ≡ RefTy k r x → type_nodes u ≤ max_nodes → type_nodes x ≤ max_nodes
unfolding type_nodes
ref_few y z = let n = ap type_nodes y in omega arith

struct_few : {u : Ty} {n : ℕ} {g : Args} → u ≡ StructTy n g → type_nodes u ≤ max_nodes → arg_nodes g ≤ max_nodes
unfolding type_nodes
struct_few y z = let n = ap type_nodes y in omega arith

not_ref_lem : {u : Ty} {n : ℕ} {g : Args} → u ≡ StructTy n g → is_ref u ≡ true → ⊥
not_ref_lem y z = let a = sym (ap is_ref y) ∙ z in let b : ◌≡◌ {A = ℕ} 0 1 = cc in omega arith

module _ {input : Record} {from : List ℕ} {at f i : ℕ} {to kinds names : List ℕ} {d : Result Node Refusal} (v : NodeSays node from at d) where
  -- a type with no steps
  pub step-leaf : {n : Node} → d ≡ Ok n → ((k : Kind) (r : Region) (c : Cursor) → n ≡ nodes.Ref k r c → ⊥) → ((z : StructName) (y : Row) → n ≡ nodes.Struct z y → ⊥) → StepSays input from at f i to kinds names kinds names None
  step-leaf {n} o e g = record { says = λ j l u p few. go j.structs u p.over n e g (on-node v o p.stands); kind_size = refl; name_size = refl }
    where
      go : (ss : List StructDecl) (u : Ty) (over : List ℕ) (x : Node) → ((k : Kind) (r : Region) (c : Cursor) → x ≡ nodes.Ref k r c → ⊥) → ((n : StructName) (y : Row) → x ≡ nodes.Struct n y → ⊥) → NodeIs from u over (Ok x) → small (step_type ss u f) ≡ false
      go ss u over (nodes.Unit c) o i w = ap (λ (y : Ty). small (step_type ss y f)) w.same ∙ no_unit ss f
      go ss u over (nodes.Ref k r c) o i w = absurd (o k r c refl)
      go ss u over (nodes.Struct n y) o i w = absurd (i n y refl)
      go ss u over (nodes.Bound b c) o i w = ap (λ (y : Ty). small (step_type ss y f)) w.same ∙ no_bound ss b f

  pub step-none : {k : Refusal} → d ≡ Err k → StepSays input from at f i to kinds names kinds names None
  step-none e = record { says = λ j l u p few. absurd (on-node v e p.stands); kind_size = refl; name_size = refl }

  module _ {k : Kind} {r : Region} {c : Cursor} (e : d ≡ Ok (nodes.Ref k r c)) where
    pub step_other : (f ≡ 0 → ⊥) → StepSays input from at f i to kinds names kinds names None
    step_other z = record { says = λ j l u p few. let w = on-node v e p.stands in ap (λ (x : Ty). small (step_type j.structs x f)) w.same ∙ ap small (other_step j.structs (borrow_kind_of k) (region_of r) w.referent f z); kind_size = refl; name_size = refl }

    pub step-star : {kinds' names' : List ℕ} {m n : ℕ} → f ≡ 0 → m ≡ kind_number (borrow_kind_of k) → Named (region_of r) n → (kinds' ≡ set kinds i m) × (names' ≡ set names i n) → StepSays input from at f i to kinds names kinds' names' (Some (found.Inside c))
    step-star {m = m} {n = n} z a b o = record {
      says = λ j l u p few.
          let w = on-node v e p.stands in
          let q = ref_few w.same few in (
            record { type = w.referent; same = ap (λ (x : Ty). step_type j.structs x f) w.same ∙ star-step j.structs (borrow_kind_of k) (region_of r) w.referent f z; stands = record { over = p.over; stands = w.stands }; few = q },
            record { kind = o.0 ∙ ap (λ (x : ℕ). set kinds i x) (a ∙ kind-of_ref (borrow_kind_of k) (region_of r) w.referent ∙ sym (ap kind_code w.same)); name = n; named = o.1; same = λ y. rw w.same b },
          );
      kind_size = ap length o.0 ∙ length-set kinds i m;
      name_size = ap length o.1 ∙ length-set names i n;
    }

  pub step_struct : {kinds' names' : List ℕ} {name : StructName} {a : Arguments} {r : std.Option (Found (Unit {0}))} → a.bytes.now ≡ from → d ≡ Ok (nodes.Struct name a.row) → (kinds' ≡ set kinds i 0) × (names' ≡ set names i 0) → FieldStepSays input name.0 f a to r → StepSays input from at f i to kinds names kinds' names' r
  step_struct {a = a} {r = r} y e o m = record {
    says = λ j l u p few.
        let w = on-node v e p.stands in
        let q = m.says j l w.given (record { over = p.over; stand = rw y w.stands; few = struct_few w.same few }) in
        noting from to (step_type j.structs u f) (record { kind = o.0 ∙ ap (λ (x : Ty). set kinds i (kind_code x)) (sym w.same); name = 0; named = o.1; same = λ y. absurd (not_ref_lem w.same y) }) r (rw w.same (rw y at q));
    kind_size = ap length o.0 ∙ length-set kinds i 0;
    name_size = ap length o.1 ∙ length-set names i 0;
  }

step_is : {input : Record} {from : List ℕ} {at f i : ℕ} {to kinds names kinds' names' : List ℕ} {d x : std.Option (Found (Unit {0}))} → StepSays input from at f i to kinds names kinds' names' d → d ≡ x → (j : Job) → Holds input j → (u : Ty) → TypeAt from at u → type_nodes u ≤ max_nodes → StepIs from to (step_type j.structs u f) (Noted u i kinds names kinds' names') x
step_is {from = from} {f = f} {i = i} {to = to} {kinds = kinds} {names = names} {kinds' = kinds'} {names' = names'} v e j l u p few = transport (λ (y : std.Option (Found (Unit {0}))). StepIs from to (step_type j.structs u f) (Noted u i kinds names kinds' names') y) e (v.says j l u p few)

-- ---- The steps that are taken

type-after-last : (ss : List StructDecl) (t : Ty) (fs : List ℕ) (f : ℕ) → type_after ss t (fs ++ (f ∷ [])) ≡ step ss (type_after ss t fs) f
unfolding type_after
type-after-last ss t [] f = refl
type-after-last ss t (g ∷ gs) f = type-after-last ss (step ss t g) gs f

step_to : (ss : List StructDecl) (u : Ty) (f : ℕ) {v : Ty} → step_type ss u f ≡ some v → step ss u f ≡ v
unfolding step
step_to ss u f e = ap (λ (o : Option Ty). elim o as (λ x. Ty) [ none ↦ UnitTy | some u ↦ u ]) e

fit_to : (ss : List StructDecl) (u : Ty) (f : ℕ) (fs : List ℕ) {v : Ty} → step_type ss u f ≡ some v → type_nodes v ≤ max_nodes → steps_fit ss u (f ∷ fs) ≡ steps_fit ss v fs
unfolding steps_fit
fit_to ss u f fs {v} e h = ap (λ (o : Option Ty). elim o as (λ x. Bool) [ none ↦ false | some u ↦ leb (type_nodes u) max_nodes && steps_fit ss u fs ]) e ∙ ap (λ (b : Bool). b && steps_fit ss v fs) (le-leb (type_nodes v) max_nodes h)

fit-not : (ss : List StructDecl) (u : Ty) (f : ℕ) (fs : List ℕ) → small (step_type ss u f) ≡ false → steps_fit ss u (f ∷ fs) ≡ false
unfolding steps_fit
fit-not ss u f fs e = go (step_type ss u f) e
  where
    go : (o : Option Ty) → small o ≡ false → elim o as (λ x. Bool) [ none ↦ false | some u ↦ leb (type_nodes u) max_nodes && steps_fit ss u fs ] ≡ false
    go none i = refl
    go (some u) i = ap (λ (b : Bool). b && steps_fit ss u fs) i

module _ {ss : List StructDecl} {t : Ty} {taken kinds names kinds' names' : List ℕ} {i : ℕ} (l : Leaves ss t taken kinds names) (c : length taken ≡ i) (size : (length kinds ≡ 8) × (length names ≡ 8)) (n : Noted (type_after ss t taken) i kinds names kinds' names') where
  leaves-more : (f : ℕ) → Leaves ss t (taken ++ (f ∷ [])) kinds' names'
  leaves-more f = record { kind = λ k h o. kind k h o (dec_lt k i); name = λ k r h o. name k r h o (dec_lt k i) }
    where
      last : (k : ℕ) → k < length (taken ++ (f ∷ [])) → (k < i → ⊥) → k ≡ i
      last k h x = let y : k < length taken + 1 = simp length-append at h in omega arith

      kind : (k : ℕ) → k < length (taken ++ (f ∷ [])) → k < 8 → Dec (k < i) → get_or kinds' k 0 ≡ kind_code (type_after ss t (take k (taken ++ (f ∷ []))))
      kind k h o (yes x) = rw (n.kind, get_or-set_other kinds i k (kind_code (type_after ss t taken)) 0 (λ y. omega arith), take-append-le k taken (f ∷ []) (omega arith)) (l.kind k (omega arith) o)
      kind k h o (no x) = let y = last k h x in rw (n.kind, y, take_at taken (f ∷ []) i c) (get_or-set_same kinds i (kind_code (type_after ss t taken)) 0 (omega (arith, size.0)))

      name : (k r : ℕ) → k < length (taken ++ (f ∷ [])) → k < 8 → Dec (k < i) → is_ref (type_after ss t (take k (taken ++ (f ∷ [])))) ≡ true → ref_region (type_after ss t (take k (taken ++ (f ∷ [])))) ≡ syntax.Free r → get_or names' k 0 ≡ r
      name k r h o (yes x) a b =
          let e : take k (taken ++ (f ∷ [])) ≡ take k taken = take-append-le k taken (f ∷ []) (omega arith) in
          rw (n.named, get_or-set_other names i k n.name 0 (λ y. omega arith)) (l.name k r (omega arith) o (rw e at a) (rw e at b))
      name k r h o (no x) a b =
          let y = last k h x in
          let e : take k (taken ++ (f ∷ [])) ≡ taken = rw y (take_at taken (f ∷ []) i c) in
          rw (n.named, y, get_or-set_same names i n.name 0 (omega (arith, size.1))) ((n.same (rw e at a)).same r (rw e at b))

pub no_leaves : {ss : List StructDecl} {t : Ty} {kinds names : List ℕ} → Leaves ss t [] kinds names
no_leaves = record { kind = λ i h o. absurd (omega arith); name = λ i r h o. absurd (omega arith) }

stage_start : {ss : List StructDecl} {t : Ty} {all bytes : List ℕ} {at : ℕ} {kinds names : List ℕ} → TypeAt bytes at t → type_nodes t ≤ max_nodes → Stage ss t all bytes at kinds names 0 all
unfolding type_after
stage_start p few = record { taken = []; split = refl; count = refl; fits = refl; leaves = no_leaves; stands = p; few = few }

module _ {ss : List StructDecl} {t : Ty} {all bytes : List ℕ} {at : ℕ} {kinds names : List ℕ} {i : ℕ} {ahead : List ℕ} (g : Stage ss t all bytes at kinds names i ahead) where
  stage_end : ahead ≡ [] → Reached ss t all bytes at kinds names
  unfolding steps_fit
  stage_end e =
      let a : g.taken ≡ all = sym (append-nil g.taken) ∙ sym (g.split ∙ ap (λ (x : List ℕ). g.taken ++ x) e) in
      record {
        fits = g.fits ∙ ap (λ (x : List ℕ). steps_fit ss (type_after ss t g.taken) x) e;
        stands = rw a at g.stands;
        few = rw a at g.few;
        leaves = rw a at g.leaves;
      }

  module _ {f : ℕ} {fs : List ℕ} (e : ahead ≡ f ∷ fs) where
    stage_fails : small (step_type ss (type_after ss t g.taken) f) ≡ false → steps_fit ss t all ≡ false
    stage_fails h = g.fits ∙ ap (λ (x : List ℕ). steps_fit ss (type_after ss t g.taken) x) e ∙ fit-not ss (type_after ss t g.taken) f fs h

    stage_more : {bytes' : List ℕ} {at' : ℕ} {kinds' names' : List ℕ} → (length kinds ≡ 8) × (length names ≡ 8) → TypeThere bytes' at' (step_type ss (type_after ss t g.taken) f) × Noted (type_after ss t g.taken) i kinds names kinds' names' → Stage ss t all bytes' at' kinds' names' (i + 1) fs
    stage_more {bytes'} {at'} size m =
        let c = g.count in
        let a : type_after ss t (g.taken ++ (f ∷ [])) ≡ m.0.type = type-after-last ss t g.taken f ∙ step_to ss (type_after ss t g.taken) f m.0.same in
        record {
          taken = g.taken ++ (f ∷ []);
          split = g.split ∙ ap (λ (x : List ℕ). g.taken ++ x) e ∙ sym (append_assoc g.taken (f ∷ []) fs);
          count = simp length-append (omega arith);
          fits = g.fits ∙ ap (λ (x : List ℕ). steps_fit ss (type_after ss t g.taken) x) e ∙ fit_to ss (type_after ss t g.taken) f fs m.0.same m.0.few ∙ ap (λ (u : Ty). steps_fit ss u fs) (sym a);
          leaves = leaves-more g.leaves c size m.1 f;
          stands = rw a m.0.stands;
          few = rw a m.0.few;
        }

-- ---- What the loops keep

-- A stage at the start is one here.
pub record Onward (input : Record) (bytes : List ℕ) (c : ℕ) (kinds names : List ℕ) (i : ℕ) (ahead bytes' : List ℕ) (c' : ℕ) (kinds' names' : List ℕ) (i' : ℕ) (ahead' : List ℕ) : Type 0 where
  pub goes : (j : Job) → Holds input j → (u : Ty) (all : List ℕ) → Stage j.structs u all bytes c kinds names i ahead → Stage j.structs u all bytes' c' kinds' names' i' ahead'

pub onward : (input : Record) (bytes : List ℕ) (c : ℕ) (kinds names : List ℕ) (i : ℕ) (ahead : List ℕ) → Onward input bytes c kinds names i ahead bytes c kinds names i ahead
onward input bytes c kinds names i ahead = record { goes = λ j l u all g. g }

-- steps within the same bytes
module _ {input : Record} {bytes : List ℕ} {c : ℕ} {kinds names : List ℕ} {i : ℕ} {ahead : List ℕ} {c' : ℕ} {kinds' names' : List ℕ} {i' : ℕ} {ahead' : List ℕ}
    (g : Onward input bytes c kinds names i ahead bytes c' kinds' names' i' ahead') (size : (length kinds' ≡ 8) × (length names' ≡ 8)) where
  pub along-end : {to : List ℕ} (x : Cursor) → x.at ≡ c' → ahead' ≡ [] → AlongSays input bytes c kinds names i ahead to kinds' names' (Some (found.Inside x))
  along-end x o z = record { says = λ j l u all a. rw o (stage_end (g.goes j l u all a) z); sizes = size; taken = tt }

  module _ {f : ℕ} {fs : List ℕ} (e : ahead' ≡ f ∷ fs) {to kinds'' names'' : List ℕ} {d : std.Option (Found (Unit {0}))} (v : StepSays input bytes c' f i' to kinds' names' kinds'' names'' d) where
    sized : (length kinds'' ≡ 8) × (length names'' ≡ 8)
    sized = (v.kind_size ∙ size.0, v.name_size ∙ size.1)

    pub along-refused : d ≡ None → AlongSays input bytes c kinds names i ahead to kinds'' names'' None
    along-refused o = record { says = λ j l u all a. let w = g.goes j l u all a in stage_fails w e (step_is v o j l (type_after j.structs u w.taken) w.stands w.few); sizes = sized; taken = tt }

    pub along_written : {x : Ahead} → d ≡ Some (found.Written tt) → x.steps.now ≡ fs → x.i ≡ i' + 1 → length fs < length ahead → i' + 1 + length fs ≤ i + length ahead → AlongSays input bytes c kinds names i ahead to kinds'' names'' (Some (found.Written x))
    along_written o p q less within = record {
      says = λ j l u all a. let w = g.goes j l u all a in rw (p, q) (stage_more w e size (step_is v o j l (type_after j.structs u w.taken) w.stands w.few));
      sizes = sized;
      taken = rw (p, q) (less, within);
    }

    pub onward-more : {y : Cursor} → d ≡ Some (found.Inside y) → Onward input bytes c kinds names i ahead bytes y.at kinds'' names'' (i' + 1) fs
    onward-more o = record { goes = λ j l u all a. let w = g.goes j l u all a in stage_more w e size (step_is v o j l (type_after j.structs u w.taken) w.stands w.few) }

along-is : {input : Record} {from : List ℕ} {c : ℕ} {kinds names : List ℕ} {i : ℕ} {steps to kinds' names' : List ℕ} {r x : std.Option (Found Ahead)} → AlongSays input from c kinds names i steps to kinds' names' r → r ≡ x → AlongSays input from c kinds names i steps to kinds' names' x
along-is {input} {from} {c} {kinds} {names} {i} {steps} {to} {kinds'} {names'} v e = transport (λ (y : std.Option (Found Ahead)). AlongSays input from c kinds names i steps to kinds' names' y) e v

-- what was reached in the bytes `from` is reached where they were copied to
copy_reached : (ss : List StructDecl) (t : Ty) (all s from out : List ℕ) {at : ℕ} {kinds names : List ℕ} → (m : Reached ss t all from at kinds names) (r : std.Option PathType) → CopyIs out (type_after ss t all) r → OnwardIs ss t all s out kinds names r
copy_reached ss t all s from out m (Some (found.Inside c)) w = absurd w
copy_reached ss t all s from out m (Some (found.Written c)) w = record { fits = m.fits; stands = w; few = m.few; leaves = m.leaves }
copy_reached ss t all s from out m None w = absurd w

-- then steps within the bytes that were written
module _ {input : Record} {bytes : List ℕ} {c : ℕ} {kinds names : List ℕ} {i : ℕ} {ahead bytes' : List ℕ} {c' : ℕ} {kinds' names' : List ℕ} {i' : ℕ} {ahead' : List ℕ}
    (g : Onward input bytes c kinds names i ahead bytes' c' kinds' names' i' ahead') where
  pub onward-end : (length kinds' ≡ 8) × (length names' ≡ 8) → (x : Cursor) → x.at ≡ c' → ahead' ≡ [] → OnwardSays input bytes c kinds names i ahead bytes' kinds' names' (Some (found.Written x))
  onward-end size x o z = record { says = λ j l u all a. rw o (stage_end (g.goes j l u all a) z); sizes = size }

  module _ {to kinds'' names'' : List ℕ} {r : std.Option (Found Ahead)} (v : AlongSays input bytes' c' kinds' names' i' ahead' to kinds'' names'' r) where
    pub onward-refused : {end : List ℕ} → r ≡ None → OnwardSays input bytes c kinds names i ahead end kinds'' names'' None
    onward-refused e = record { says = λ j l u all a. (along-is v e).says j l u all (g.goes j l u all a); sizes = v.sizes }

    pub onward-inside : {x : Cursor} → r ≡ Some (found.Inside x) → OnwardSays input bytes c kinds names i ahead bytes' kinds'' names'' (Some (found.Written x))
    onward-inside e = record { says = λ j l u all a. (along-is v e).says j l u all (g.goes j l u all a); sizes = v.sizes }

    pub onward_copied : {x : Cursor} {out : List ℕ} {q : std.Option PathType} → r ≡ Some (found.Inside x) → CopiedSays bytes' x.at out q → OnwardSays input bytes c kinds names i ahead out kinds'' names'' q
    onward_copied {x} {out} {q} e w = record {
      says = λ j l u all a.
          let m = (along-is v e).says j l u all (g.goes j l u all a) in
          copy_reached j.structs u all input.bytes.now bytes' out m q (w.says (type_after j.structs u all) m.stands m.few);
      sizes = v.sizes;
    }

    pub onward_written : {a : Ahead} → r ≡ Some (found.Written a) → Onward input bytes c kinds names i ahead to 0 kinds'' names'' a.i a.steps.now
    onward_written e = record { goes = λ j l u all o. (along-is v e).says j l u all (g.goes j l u all o) }

-- ---- The whole path

path-result : (j : Job) (p : syntax.Path) (s out kinds names : List ℕ) (r : std.Option PathType) → OnwardIs j.structs (variable_type j p.base) p.steps s out kinds names r → PathResult j p s out kinds names r
unfolding path_fits path_type
path-result j p s out kinds names (Some (found.Inside c)) w = record { fits = w.fits; stands = w.stands; few = w.few; leaves = w.leaves }
path-result j p s out kinds names (Some (found.Written c)) w = record { fits = w.fits; stands = w.stands; few = w.few; leaves = w.leaves }
path-result j p s out kinds names None w = w

module _ {input : Record} (p : repr.Path) {c : ℕ} {kinds names : List ℕ} {out kinds' names' : List ℕ} {r : std.Option (Found Ahead)} {steps : List ℕ} (v : c ≡ get_or input.layout.now.variables p.base.0 0) (same : steps ≡ (path_of input.bytes.now p).steps)
    (g : AlongSays input input.bytes.now c kinds names 0 steps out kinds' names' r) where
  reaches : (j : Job) → Holds input j → p.base.0 < length j.variables → {x : std.Option (Found Ahead)} → r ≡ x → AlongIs j.structs (variable_type j p.base.0) (path_of input.bytes.now p).steps input.bytes.now out kinds' names' x
  reaches j l o e =
      let w = variable_at l p.base.0 UnitTy o in
      (along-is g e).says j l (variable_type j p.base.0) (path_of input.bytes.now p).steps (rw same (stage_start (rw v (type-stands w.reads)) (type-few (drop (get_or input.layout.now.variables p.base.0 0) input.bytes.now) w.reads)))

  pub path_inside : {x : Cursor} {end : List ℕ} → r ≡ Some (found.Inside x) → PathSays input p end kinds' names' (Some (found.Inside x))
  path_inside {x} {end} e = record { says = λ j l o. path-result j (path_of input.bytes.now p) input.bytes.now end kinds' names' (Some (found.Inside x)) (reaches j l o e); sizes = g.sizes }

  pub path-refused : {end : List ℕ} → r ≡ None → PathSays input p end kinds' names' None
  path-refused {end} e = record { says = λ j l o. path-result j (path_of input.bytes.now p) input.bytes.now end kinds' names' None (reaches j l o e); sizes = g.sizes }

  pub path-onward : {a : Ahead} {end kinds'' names'' : List ℕ} {q : std.Option PathType} → r ≡ Some (found.Written a) → OnwardSays input out 0 kinds' names' a.i a.steps.now end kinds'' names'' q → PathSays input p end kinds'' names'' q
  path-onward {end = end} {kinds'' = kinds''} {names'' = names''} {q = q} e u = record {
    says = λ j l o. path-result j (path_of input.bytes.now p) input.bytes.now end kinds'' names'' q (u.says j l (variable_type j p.base.0) (path_of input.bytes.now p).steps (reaches j l o e));
    sizes = u.sizes;
  }

-- ---- A path without steps

-- entries of which none is used
abbrev pub no_entries : List ℕ
no_entries = 0 ∷ 0 ∷ 0 ∷ 0 ∷ 0 ∷ 0 ∷ 0 ∷ 0 ∷ []

-- its type stands where its variable's does
pub stepless : {input : Record} (p : repr.Path) (x : Cursor) → p.steps ≡ 0 → x.at ≡ get_or input.layout.now.variables p.base.0 0 → PathSays input p [] no_entries no_entries (Some (found.Inside x))
stepless {input} p x z v =
    let none : (path_of input.bytes.now p).steps ≡ [] = rw z in
    path_inside p v (sym none) (along-end (onward input input.bytes.now x.at no_entries no_entries 0 []) (refl, refl) {to = []} x refl refl) refl
