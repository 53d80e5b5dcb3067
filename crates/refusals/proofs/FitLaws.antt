-- Types against parameters, node by node. Assumes nothing.
use mathlib.Core.Path.{◌≡◌, refl, sym, ap, ◌∙◌}
use mathlib.Core.Bool.{Bool, true, false, ◌&&◌, and-false}
use mathlib.Core.List.{List, [], ◌∷◌}
use Prim.Native.Nat.{ℕ, zero, suc, ◌-◌, ◌≤◌, ◌<◌}
use native.Mathlib.Omega.{arith}
use native.Mathlib.Nat.{le_refl}
use lib.ListN.{length, get_or}
use lib.Dec.{ltb}
use borrow.Author.Tests.{lt-ltb, le-ltb}
use Rattle.nll_spec.specs.Syntax as syntax
use Rattle.nll_spec.specs.Syntax.{Ty, Args, NoArgs, RegionArg, TypeArg, Param, StructDecl, Job, Co, RegionKind}
use Rattle.nll_spec.specs.Decode.{read, Reader, done, items, param}
use Rattle.nll_spec.specs.Types.{struct_of, arg_count}
use Rattle.nll_spec.specs.WellFormed.{is_region_kind, is_type_kind, bound_fits, region_fits, type_fits, args_fit}
use Rattle.repr.specs.Reading.{rest, kind_of, region_of, parameter_of, says, ended, end_says}
use Rattle.repr.specs.Types.{node, NodeSays, ArgumentSays}
use Rattle.repr.specs.declared.Cursor.{Cursor}
use Rattle.repr.specs.declared.Region as repr_region
use Rattle.repr.specs.declared.BorrowKind.{BorrowKind}
use Rattle.repr.specs.declared.StructName.{StructName}
use Rattle.repr.specs.declared.StructParameter.{StructParameter}
use Rattle.repr.specs.declared.StructDecl as repr_struct
use Rattle.repr.proofs.ReadLaws.{told, step}
use Rattle.repr.proofs.PartLaws.{end-over}
use Rattle.repr.specs.Stands.{Stands}
use Rattle.record.specs.Layout.{Holds}
use Rattle.record.specs.Access.{Declared}
use Rattle.repr.proofs.SpellLaws.{clash, carry}
use Rattle.repr.proofs.ItemLaws.{first_of, items-length}
use Rattle.refusals.specs.Fits.{ParamsAt, Within, TypeFit, ArgumentsFit}
use Rattle.repr.specs.declared.Row.{Row}
use Rattle.refusals.specs.declared.fits.Around.{Around}
use Rattle.refusals.proofs.WalkLaws as walks
use Rattle.refusals.proofs.WalkLaws.{fewer-still, rest-fewer}
use Rattle.std.specs.Prelude.{Result, Ok, Err}
use Rattle.repr.specs.declared.Node.{Node}
use Rattle.repr.specs.declared.Node.TheVariants as nodes
use Rattle.repr.specs.declared.Argument.{Argument}
use Rattle.repr.specs.declared.Argument.TheVariants as arguments
use Rattle.repr.specs.declared.Rest.{Rest}
use Rattle.repr.specs.declared.refusal.Refusal.{Refusal}

-- ---- A row, by number

-- item k of a row, after those before it
record ItemAt {A : Type 0} (m : Reader A) (k : ℕ) (bs : List ℕ) (xs : List A) (x : A) : Type 0 where
  before : List A
  mid : List ℕ
  over : List ℕ
  first : items k m bs ≡ read before mid
  item : m mid ≡ read (get_or xs k x) over

item-at : {A : Type 0} (m : Reader A) (n k : ℕ) (bs : List ℕ) {xs : List A} {end : List ℕ} (x : A) → k < n → items n m bs ≡ read xs end → ItemAt m k bs xs x
unfolding items done
item-at m n zero bs x h e = let w = first_of m n bs (omega arith) e in record { before = []; mid = bs; over = w.mid; first = refl; item = w.first ∙ ap (λ ys. read (get_or ys 0 x) w.mid) (sym w.same) }
item-at m n (suc k) bs x h e =
    let w = first_of m n bs (omega arith) e in
    let v = item-at m (n - 1) k w.mid x (omega arith) w.reads in
    record { before = w.item ∷ v.before; mid = v.mid; over = v.over; first = step m _ bs w.first ∙ step (items k m) _ w.mid v.first; item = v.item ∙ ap (λ ys. read (get_or ys (suc k) x) v.over) (sym w.same) }

-- ---- A bound

-- what stands for a parameter that is not there
abbrev absent : Param
absent = record { variance = Co; may_dangle = false; kind = RegionKind }

-- how many there are
size : {around : Around} {ps : List Param} → ParamsAt around ps → length ps ≡ around.params.count
size {around} p = items-length param around.params.count (rest around.input.now.bytes.now around.params.from) p.stand.reads

pub bound_past : {around : Around} (f : syntax.Kind → Bool) (ps : List Param) (b : ℕ) → around.params.count ≤ b → ParamsAt around ps → false ≡ bound_fits f ps b
bound_past f ps b h p = let n = size p in let l : ltb b (length ps) ≡ false = le-ltb b (length ps) (omega arith) in rw l

module _ {around : Around} (f : syntax.Kind → Bool) (ps : List Param) (b k : ℕ) (h : b < around.params.count) (i : k ≡ around.params.count - 1 - b) (p : ParamsAt around ps) where
  there : ItemAt param k (rest around.input.now.bytes.now around.params.from) ps absent
  there = item-at param around.params.count k (rest around.input.now.bytes.now around.params.from) absent (omega arith) p.stand.reads

  module _ (d : Result Cursor Refusal) (m : end_says around.input.now.bytes.now d ≡ ended (items k param (rest around.input.now.bytes.now around.params.from))) where
    pub bound_short : {l : Refusal} → d ≡ Err l → false ≡ bound_fits f ps b
    bound_short e = absurd (clash (sym (ap (end_says around.input.now.bytes.now) e) ∙ m ∙ ap ended there.first))

    module _ {c : Cursor} (e : d ≡ Ok c) (q : Result (StructParameter × Cursor) Refusal) (o : says parameter_of around.input.now.bytes.now q ≡ param (rest around.input.now.bytes.now c)) where
      -- the parameter that is meant
      meant : says parameter_of around.input.now.bytes.now q ≡ read (get_or ps k absent) there.over
      meant = o ∙ rw (← end-over (items k param) (rest around.input.now.bytes.now around.params.from) there.first (sym m ∙ ap (end_says around.input.now.bytes.now) e)) there.item

      pub bound_none : {l : Refusal} → q ≡ Err l → false ≡ bound_fits f ps b
      bound_none g = absurd (clash (sym (ap (says parameter_of around.input.now.bytes.now) g) ∙ meant))

      pub bound_kind : {x : StructParameter} {next : Cursor} {z : Bool} → q ≡ Ok (x, next) → z ≡ f (kind_of x.kind) → z ≡ bound_fits f ps b
      bound_kind {x} {z = z} g r =
          let n = size p in
          let l : ltb b (length ps) ≡ true = lt-ltb b (length ps) (omega arith) in
          let j : length ps - suc b ≡ k = omega arith in
          rw (l, j) (carry (λ (y : Param) v. z ≡ f y.kind) (sym (ap (says parameter_of around.input.now.bytes.now) g) ∙ meant) r)

-- ---- The parameters of a struct

pub no_params : {around : Around} → around.params.count ≡ 0 → ParamsAt around []
unfolding items done
no_params {around} z = record { stand = record { over = rest around.input.now.bytes.now around.params.from; reads = rw z } }

declared-size : {s : List ℕ} {x : StructDecl} {d : repr_struct.StructDecl} → Declared s x d → length x.params ≡ d.parameters.count
declared-size {s} {d = d} w = items-length param d.parameters.count (rest s d.parameters.from) w.params.reads

-- ---- Arguments and parameters, counted

args-differ : (ss : List StructDecl) (ps : List Param) (g : Args) (ds : List Param) → (arg_count g ≡ length ds → ⊥) → args_fit ss ps g ds ≡ false
unfolding args_fit arg_count
args-differ ss ps NoArgs [] h = absurd (h refl)
args-differ ss ps NoArgs (d ∷ ds) h = refl
args-differ ss ps (RegionArg r g) [] h = refl
args-differ ss ps (RegionArg r g) (d ∷ ds) h = rw (args-differ ss ps g ds (λ e. h (ap suc e))) (and-false (is_region_kind d.kind && region_fits ps r))
args-differ ss ps (TypeArg t g) [] h = refl
args-differ ss ps (TypeArg t g) (d ∷ ds) h = rw (args-differ ss ps g ds (λ e. h (ap suc e))) (and-false (is_type_kind d.kind && type_fits ss ps t))

-- ---- A type

module _ {around : Around} {at left : ℕ} where
  pub fit_none : {k : Refusal} → left ≡ 0 → TypeFit around at left (Err k)
  fit_none z = record { walks = λ j ps w. walks.type-none z; fewer = tt }

  module _ {d : Result Node Refusal} (m : NodeSays node around.input.now.bytes.now at d) where
    pub fit_refused : {k l : Refusal} → d ≡ Err k → TypeFit around at left (Err l)
    fit_refused e = record { walks = λ j ps w. walks.type-refused m e; fewer = tt }

    pub fit-unit : {c : Cursor} → d ≡ Ok (nodes.Unit c) → TypeFit around at left (Ok (record { left = left - 1; next = c }))
    unfolding type_fits
    fit-unit e = record { walks = λ j ps w. walks.type-unit m e refl; fewer = omega arith }

    module _ {b : ℕ} {c : Cursor} (e : d ≡ Ok (nodes.Bound b c)) {x : Bool} (f : (ps : List Param) → ParamsAt around ps → x ≡ bound_fits is_type_kind ps b) where
      pub fit_bound : x ≡ true → TypeFit around at left (Ok (record { left = left - 1; next = c }))
      unfolding type_fits
      fit_bound i = record { walks = λ j ps w. walks.type_bound m e (sym (f ps w.params) ∙ i); fewer = omega arith }

      pub bound_unfit : {k : Refusal} → x ≡ false → TypeFit around at left (Err k)
      unfolding type_fits
      bound_unfit i = record { walks = λ j ps w. walks.bound_fails m e (sym (f ps w.params) ∙ i); fewer = tt }

    module _ {q : BorrowKind} {o : repr_region.Region} {c : Cursor} (e : d ≡ Ok (nodes.Ref q o c)) {x : Bool} (f : (ps : List Param) → ParamsAt around ps → x ≡ region_fits ps (region_of o)) where
      pub fit_ref : {r : Result Rest Refusal} → x ≡ true → (left ≡ 0 → ⊥) → TypeFit around c.at (left - 1) r → TypeFit around at left r
      unfolding type_fits
      fit_ref {r} i z v = record { walks = λ j ps w. walks.type_ref m e z (λ u. rw (← f ps w.params, i)) (v.walks j ps w); fewer = fewer-still r v.fewer (omega arith) }

      pub ref_unfit : {k : Refusal} → x ≡ false → TypeFit around at left (Err k)
      unfolding type_fits
      ref_unfit i = record { walks = λ j ps w. walks.ref_fails m e (λ u. rw (← f ps w.params, i)); fewer = tt }

    module _ {name : StructName} {row : Row} (e : d ≡ Ok (nodes.Struct name row)) {p : repr_struct.StructDecl} (f : (j : Job) → Holds around.input.now j → Declared around.input.now.bytes.now (struct_of j.structs name.0) p) where
      pub fit_struct : {r : Result Rest Refusal} → p.parameters.count ≡ row.count → (left ≡ 0 → ⊥) → ArgumentsFit around p.parameters.from row.from.at row.count (left - 1) r → TypeFit around at left r
      unfolding type_fits
      fit_struct {r} i z v = record {
        walks = λ j ps w. walks.type_struct m e z (λ g. refl) (v.walks j ps (struct_of j.structs name.0).params w (rw (← i) (f j w.layout).params));
        fewer = fewer-still r v.fewer (omega arith);
      }

      pub count_unfit : {k : Refusal} → (p.parameters.count ≡ row.count → ⊥) → TypeFit around at left (Err k)
      unfolding type_fits
      count_unfit i = record {
        walks = λ j ps w. walks.struct_fails m e (λ g l. args-differ j.structs ps g (struct_of j.structs name.0).params (λ o. i (sym (declared-size (f j w.layout)) ∙ sym o ∙ l)));
        fewer = tt;
      }

-- ---- Arguments

-- the parameter x, and the others after it
record ParamFirst (s : List ℕ) (n : ℕ) (ds : List Param) (x : StructParameter) (next : Cursor) : Type 0 where
  others : List Param
  same : ds ≡ parameter_of x ∷ others
  stand : Stands (items (n - 1) param) others (rest s next)

param-first : {s : List ℕ} {n : ℕ} {ds : List Param} (c : Cursor) {q : Result (StructParameter × Cursor) Refusal} {x : StructParameter} {next : Cursor} → (n ≡ 0 → ⊥) → says parameter_of s q ≡ param (rest s c) → q ≡ Ok (x, next) → Stands (items n param) ds (rest s c) → ParamFirst s n ds x next
param-first {s} {n} {ds} c {q} {x} {next} z m e d =
    let w = first_of param n (rest s c) z d.reads in
    let v = carry (λ y o. (ds ≡ y ∷ w.others) × (items (n - 1) param o ≡ read w.others d.over)) (sym w.first ∙ told (says parameter_of s) m e) (w.same, w.reads) in
    record { others = w.others; same = v.0; stand = record { over = d.over; reads = v.1 } }

module _ (ss : List StructDecl) (ps : List Param) where
  no_args : (ds : List Param) → length ds ≡ 0 → args_fit ss ps NoArgs ds ≡ true
  unfolding args_fit
  no_args [] e = refl
  no_args (d ∷ ds) e = absurd (omega arith)

  -- the first argument, where it fits
  region-first : (r : syntax.Region) (g : Args) {ds others : List Param} {d : Param} → ds ≡ d ∷ others → is_region_kind d.kind && region_fits ps r ≡ true → args_fit ss ps (RegionArg r g) ds ≡ args_fit ss ps g others
  unfolding args_fit
  region-first r g e k = rw (e, k)

  type-first : (u : Ty) (g : Args) {ds others : List Param} {d : Param} → ds ≡ d ∷ others → is_type_kind d.kind ≡ true → args_fit ss ps (TypeArg u g) ds ≡ type_fits ss ps u && args_fit ss ps g others
  unfolding args_fit
  type-first u g e k = rw (e, k)

module _ {around : Around} {declared : Cursor} {n left : ℕ} where
  pub fit_arguments_none : (c : Cursor) → n ≡ 0 → ArgumentsFit around declared c.at n left (Ok (record { left = left; next = c }))
  fit_arguments_none c z = record { walks = λ j ps ds w d. walks.args_none c z (no_args j.structs ps ds (items-length param n (rest around.input.now.bytes.now declared) d.reads ∙ z)); fewer = le_refl left }

  module _ (z : n ≡ 0 → ⊥) {at : ℕ} {q : Result (StructParameter × Cursor) Refusal} (m : says parameter_of around.input.now.bytes.now q ≡ param (rest around.input.now.bytes.now declared)) where
    pub parameter_refused : {k l : Refusal} → q ≡ Err k → ArgumentsFit around declared at n left (Err l)
    parameter_refused e = record { walks = λ j ps ds w d. absurd (let x = first_of param n (rest around.input.now.bytes.now declared) z d.reads in clash (sym (told (says parameter_of around.input.now.bytes.now) m e) ∙ x.first)); fewer = tt }

    module _ {x : StructParameter} {next : Cursor} (e : q ≡ Ok (x, next)) {d : Result Argument Refusal} (a : ArgumentSays around.input.now.bytes.now at d) where
      pub fit_argument_refused : {k l : Refusal} → d ≡ Err k → ArgumentsFit around declared at n left (Err l)
      fit_argument_refused i = record { walks = λ j ps ds w o. walks.args-refused a z i; fewer = tt }

      module _ {o : repr_region.Region} {c : Cursor} (i : d ≡ Ok (arguments.Region o c)) {b : Bool} (f : (ps : List Param) → ParamsAt around ps → b ≡ is_region_kind (kind_of x.kind) && region_fits ps (region_of o)) where
        pub region_unfit : {k : Refusal} → b ≡ false → ArgumentsFit around declared at n left (Err k)
        unfolding args_fit
        region_unfit k = record {
          walks = λ j ps ds w o.
              let y = param-first declared z m e o in
              walks.region-fails a z i (λ g. rw (y.same, ← f ps w.params, k));
          fewer = tt;
        }

        pub fit-region : {r : Result Rest Refusal} → b ≡ true → ArgumentsFit around next c.at (n - 1) left r → ArgumentsFit around declared at n left r
        fit-region k v = record {
          walks = λ j ps ds w o.
              let y = param-first declared z m e o in
              walks.args-region a z i (λ g. region-first j.structs ps _ g y.same (sym (f ps w.params) ∙ k)) (v.walks j ps y.others w y.stand);
          fewer = v.fewer;
        }

      module _ {c : Cursor} (i : d ≡ Ok (arguments.Type c)) where
        pub kind_unfit : {k : Refusal} → is_type_kind (kind_of x.kind) ≡ false → ArgumentsFit around declared at n left (Err k)
        unfolding args_fit
        kind_unfit k = record {
          walks = λ j ps ds w o.
              let y = param-first declared z m e o in
              walks.type-fails a z i (λ u g. rw (y.same, k));
          fewer = tt;
        }

        module _ (k : is_type_kind (kind_of x.kind) ≡ true) {p : Result Rest Refusal} (v : TypeFit around c.at left p) where
          pub type_unfit : {l k' : Refusal} → p ≡ Err l → ArgumentsFit around declared at n left (Err k')
          type_unfit l = record {
            walks = λ j ps ds w o.
                let y = param-first declared z m e o in
                walks.first-fails a z i (λ g. args_fit j.structs ps g y.others) (λ u g. type-first j.structs ps u g y.same k) (v.walks j ps w) l;
            fewer = tt;
          }

          pub fit-type : {to : Rest} {r : Result Rest Refusal} → p ≡ Ok to → ArgumentsFit around next to.next.at (n - 1) to.left r → ArgumentsFit around declared at n left r
          fit-type {r = r} l u = record {
            walks = λ j ps ds w o.
                let y = param-first declared z m e o in
                walks.args-type a z i (λ g. args_fit j.structs ps g y.others) (λ u g. type-first j.structs ps u g y.same k) (v.walks j ps w) l (u.walks j ps y.others w y.stand);
            fewer = fewer-still r u.fewer (rest-fewer v.fewer l);
          }

-- ---- Parts

-- the parameters of a struct, around its fields
pub around_fields : {around : Around} {j : Job} {x : StructDecl} {d : repr_struct.StructDecl} → around.params ≡ d.parameters → Holds around.input.now j → Declared around.input.now.bytes.now x d → Within around j x.params
around_fields e w v = record { layout = w; params = record { stand = rw e v.params } }

-- no parameters around
pub alone : {around : Around} {j : Job} → around.params.count ≡ 0 → Holds around.input.now j → Within around j []
alone z w = record { layout = w; params = no_params z }
