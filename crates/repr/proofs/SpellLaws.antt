-- A type is read from its bytes, and from no others. Assumes nothing.
use mathlib.Core.Path.{◌≡◌, refl, sym, ap, subst, ◌∙◌}
use mathlib.Core.Bool.{Bool, true, false, cond, ◌&&◌}
use mathlib.Core.List.{List, [], ◌∷◌, ◌++◌, append_assoc}
use Prim.Native.Nat.{ℕ, zero, suc, ◌+◌, ◌-◌, ◌≤◌, ◌<◌}
use native.Mathlib.Omega.{arith}
use lib.Dec.{eqb, leb}
use native.Mathlib.Nat.{sub-zero}
use borrow.Author.Tests.{leb-true, eqb-false, ne_eqb}
use Rattle.nll_spec.specs.Syntax.{BorrowKind, Mut, Shared, Region, Free, BoundRegion}
use Rattle.nll_spec.specs.Syntax.{Ty, UnitTy, RefTy, StructTy, BoundTy, Args, NoArgs, RegionArg, TypeArg}
use Rattle.nll_spec.specs.Decode.{Reading, refused, read, Reader, done, refuse, ◌>>=◌, byte, count, pick, one_of, max_params, Part, part, borrow_kind, region, node_tag, args, tagged, type_within}
use Rattle.nll_spec.specs.Types.{arg_count, type_nodes, arg_nodes}
use Rattle.repr.proofs.ReadLaws.{step, count_in}
pub use Rattle.repr.proofs.ReadLaws.{clash}
use Rattle.repr.specs.Spelling.{kind_byte, region_tag, region_number, spell, spell_args, Fine, FineArgs}

-- ---- What was read, read in steps

-- what holds of what was read holds of what it is
pub carry : {A : Type 0} (P : A → List ℕ → Type 0) {x y : A} {p q : List ℕ} → read x p ≡ read y q → P x p → P y q
carry {A} P {x} {y} {p} {q} e h = subst (λ (z : Reading A). elim z as (λ w. Type 0) [ refused n ↦ Unit {0} | read a over ↦ P a over ]) e h

pub done_back : {A : Type 0} (a : A) (bs : List ℕ) {b : A} {over : List ℕ} → done a bs ≡ read b over → a ≡ b
unfolding done
done_back a bs e = cc

pub record Then {A B : Type 0} (m : Reader A) (f : A → Reader B) (bs : List ℕ) (y : B) (over : List ℕ) : Type 0 where
  pub got : A
  pub mid : List ℕ
  pub first : m bs ≡ read got mid
  pub last : f got mid ≡ read y over

pub then : {A B : Type 0} (m : Reader A) (f : A → Reader B) (bs : List ℕ) {y : B} {over : List ℕ} → ◌>>=◌ m f bs ≡ read y over → Then m f bs y over
unfolding ◌>>=◌
then {A} {B} m f bs {y} {over} e = go (m bs) refl e
  where
    go : (x : Reading A) → m bs ≡ x → ◌≡◌ {A = Reading B} (elim x as (λ z. Reading B) [ refused n ↦ refused n | read a rest ↦ f a rest ]) (read y over) → Then m f bs y over
    go (refused n) h k = absurd (clash k)
    go (read a mid) h k = record { got = a; mid = mid; first = h; last = k }

-- ---- Items that hold no other

pub byte-read : {b : ℕ} {over : List ℕ} (bs : List ℕ) → byte bs ≡ read b over → bs ≡ b ∷ over
unfolding byte
byte-read [] e = absurd (clash e)
byte-read (c ∷ cs) e = cc

kind-read : {k : BorrowKind} {over : List ℕ} (bs : List ℕ) → borrow_kind bs ≡ read k over → bs ≡ kind_byte k ∷ over
unfolding borrow_kind one_of pick done refuse
kind-read {k} {over} bs e = let w = then byte _ bs e in byte-read bs w.first ∙ go w.got w.mid w.last
  where
    go : (tag : ℕ) (mid : List ℕ) → pick (done Mut ∷ done Shared ∷ []) tag mid ≡ read k over → tag ∷ mid ≡ kind_byte k ∷ over
    go zero mid e = carry (λ j p. 0 ∷ mid ≡ kind_byte j ∷ p) e refl
    go (suc zero) mid e = carry (λ j p. 1 ∷ mid ≡ kind_byte j ∷ p) e refl
    go (suc (suc n)) mid e = absurd (clash e)

region-read : {r : Region} {over : List ℕ} (bs : List ℕ) → region bs ≡ read r over → bs ≡ region_tag r ∷ region_number r ∷ over
unfolding region one_of pick done refuse
region-read {r} {over} bs e = let w = then byte _ bs e in byte-read bs w.first ∙ go w.got w.mid w.last
  where
    go : (tag : ℕ) (mid : List ℕ) → pick ((do n ← byte; done (Free n)) ∷ (do n ← byte; done (BoundRegion n)) ∷ []) tag mid ≡ read r over → tag ∷ mid ≡ region_tag r ∷ region_number r ∷ over
    go zero mid e = let w = then byte _ mid e in carry (λ j p. 0 ∷ mid ≡ region_tag j ∷ region_number j ∷ p) w.last (ap (λ (l : List ℕ). 0 ∷ l) (byte-read mid w.first))
    go (suc zero) mid e = let w = then byte _ mid e in carry (λ j p. 1 ∷ mid ≡ region_tag j ∷ region_number j ∷ p) w.last (ap (λ (l : List ℕ). 1 ∷ l) (byte-read mid w.first))
    go (suc (suc n)) mid e = absurd (clash e)

count-read : {n : ℕ} {over : List ℕ} (bs : List ℕ) → count 0 max_params bs ≡ read n over → (bs ≡ n ∷ over) × (n ≤ max_params)
unfolding count done refuse
count-read {n} {over} bs e = let w = then byte _ bs e in go w.got w.mid (leb 0 w.got) (leb w.got max_params) refl (byte-read bs w.first) w.last
  where
    go : (m : ℕ) (mid : List ℕ) (a b : Bool) → leb m max_params ≡ b → bs ≡ m ∷ mid → cond (a && b) (done m) (refuse 4) mid ≡ read n over → (bs ≡ n ∷ over) × (n ≤ max_params)
    go m mid true true h i e = carry (λ k p. (bs ≡ k ∷ p) × (k ≤ max_params)) e (i, leb-true m max_params h)
    go m mid true false h i e = absurd (clash e)
    go m mid false b h i e = absurd (clash e)

-- ---- Types and arguments

-- The bytes are those of the type, and it took so many of the nodes.
pub record Spelt (bs : List ℕ) (left : ℕ) (t : Ty) (after : ℕ) (over : List ℕ) : Type 0 where
  pub bytes : bs ≡ spell t ++ over
  pub fine : Fine t
  pub nodes : after + type_nodes t ≡ left

pub record SpeltArgs (bs : List ℕ) (n left : ℕ) (given : Args) (after : ℕ) (over : List ℕ) : Type 0 where
  pub bytes : bs ≡ spell_args given ++ over
  pub fine : FineArgs given
  pub count : arg_count given ≡ n
  pub nodes : after + arg_nodes given ≡ left

-- a reader of types reads only their bytes
abbrev pub Spells : (ℕ → Reader (Part Ty)) → Type 0
Spells inner = (left : ℕ) (bs : List ℕ) (t : Part Ty) (over : List ℕ) → inner left bs ≡ read t over → Spelt bs left t.item t.left over

pub args_spelt : (inner : ℕ → Reader (Part Ty)) → Spells inner → (n left : ℕ) (bs : List ℕ) (given : Part Args) (over : List ℕ) → args inner n left bs ≡ read given over → SpeltArgs bs n left given.item given.left over
unfolding args one_of pick done refuse arg_count arg_nodes type_nodes
args_spelt inner h zero left bs given over e = carry (λ (g : Part Args) p. SpeltArgs bs 0 left g.item g.left p) e (record { bytes = refl; fine = tt; count = refl; nodes = omega arith })
args_spelt inner h (suc n) left bs given over e = let w = then byte _ bs e in go w.got w.mid (byte-read bs w.first) w.last (args_spelt inner h n)
  where
    go : (tag : ℕ) (mid : List ℕ) → bs ≡ tag ∷ mid
        → pick
        ((do r ← region; rest ← args inner n left; done (part (RegionArg r rest.item) rest.left))
        ∷ (do t ← inner left; rest ← args inner n t.left; done (part (TypeArg t.item rest.item) rest.left))
        ∷ []) tag mid ≡ read given over → ((left : ℕ) (bs : List ℕ) (given : Part Args) (over : List ℕ) → args inner n left bs ≡ read given over → SpeltArgs bs n left given.item given.left over) → SpeltArgs bs (suc n) left given.item given.left over
    go zero mid i e rec =
        let w = then region _ mid e in
        let v = then (args inner n left) _ w.mid w.last in
        let q = rec left w.mid v.got v.mid v.first in
        carry (λ (g : Part Args) p. SpeltArgs bs (suc n) left g.item g.left p) v.last (record {
          bytes = i ∙ ap (λ (l : List ℕ). 0 ∷ l) (region-read mid w.first ∙ ap (λ (l : List ℕ). region_tag w.got ∷ region_number w.got ∷ l) q.bytes);
          fine = q.fine;
          count = ap suc q.count;
          nodes = q.nodes;
        })
    go (suc zero) mid i e rec =
        let w = then (inner left) _ mid e in
        let v = then (args inner n w.got.left) _ w.mid w.last in
        let p = h left mid w.got w.mid w.first in
        let q = rec w.got.left w.mid v.got v.mid v.first in
        carry (λ (g : Part Args) p. SpeltArgs bs (suc n) left g.item g.left p) v.last (record {
          bytes = i ∙ ap (λ (l : List ℕ). 1 ∷ l) (p.bytes ∙ ap (λ (l : List ℕ). spell w.got.item ++ l) q.bytes ∙ sym (append_assoc (spell w.got.item) (spell_args v.got.item) v.mid));
          fine = (p.fine, q.fine);
          count = ap suc q.count;
          nodes = let a = p.nodes in let b = q.nodes in omega arith;
        })
    go (suc (suc k)) mid i e rec = absurd (clash e)

tagged_spelt : (inner : ℕ → Reader (Part Ty)) → Spells inner → (left tag : ℕ) (bs : List ℕ) (t : Part Ty) (over : List ℕ) → tagged inner left tag bs ≡ read t over → Spelt (tag ∷ bs) (suc left) t.item t.left over
unfolding tagged pick done refuse type_nodes
tagged_spelt inner h left zero bs t over e = carry (λ (x : Part Ty) p. Spelt (0 ∷ bs) (suc left) x.item x.left p) e (record { bytes = refl; fine = tt; nodes = omega arith })
tagged_spelt inner h left (suc zero) bs t over e =
    let w = then borrow_kind _ bs e in
    let v = then region _ w.mid w.last in
    let u = then (inner left) _ v.mid v.last in
    let p = h left v.mid u.got u.mid u.first in
    carry (λ (x : Part Ty) p. Spelt (1 ∷ bs) (suc left) x.item x.left p) u.last (record {
      bytes = ap (λ (l : List ℕ). 1 ∷ l) (kind-read bs w.first ∙ ap (λ (l : List ℕ). kind_byte w.got ∷ l) (region-read w.mid v.first ∙ ap (λ (l : List ℕ). region_tag v.got ∷ region_number v.got ∷ l) p.bytes));
      fine = p.fine;
      nodes = let a = p.nodes in omega arith;
    })
tagged_spelt inner h left (suc (suc zero)) bs t over e =
    let w = then byte _ bs e in
    let v = then (count 0 max_params) _ w.mid w.last in
    let u = then (args inner v.got left) _ v.mid v.last in
    let c = count-read w.mid v.first in
    let p = args_spelt inner h v.got left v.mid u.got u.mid u.first in
    let k = p.count in
    carry (λ (x : Part Ty) p. Spelt (2 ∷ bs) (suc left) x.item x.left p) u.last (record {
      bytes = ap (λ (l : List ℕ). 2 ∷ l) (byte-read bs w.first ∙ ap (λ (l : List ℕ). w.got ∷ l) (c.0 ∙ (rw k (ap (λ (l : List ℕ). v.got ∷ l) p.bytes))));
      fine = (rw k c.1, p.fine);
      nodes = let a = p.nodes in omega arith;
    })
tagged_spelt inner h left (suc (suc (suc zero))) bs t over e =
    let w = then byte _ bs e in
    carry (λ (x : Part Ty) p. Spelt (3 ∷ bs) (suc left) x.item x.left p) w.last (record {
      bytes = ap (λ (l : List ℕ). 3 ∷ l) (byte-read bs w.first);
      fine = tt;
      nodes = omega arith;
    })
tagged_spelt inner h left (suc (suc (suc (suc n)))) bs t over e = absurd (clash e)

pub tag_read : (left : ℕ) (bs : List ℕ) {tag : ℕ} {mid : List ℕ} → node_tag left bs ≡ read tag mid → (bs ≡ tag ∷ mid) × (1 ≤ left)
unfolding node_tag done refuse
tag_read left bs {tag} {mid} e = let v = then byte _ bs e in go v.got v.mid (eqb left 0) refl (byte-read bs v.first) v.last
  where
    go : (k : ℕ) (p : List ℕ) (b : Bool) → eqb left 0 ≡ b → bs ≡ k ∷ p → cond b (refuse 4) (done k) p ≡ read tag mid → (bs ≡ tag ∷ mid) × (1 ≤ left)
    go k p true h i e = absurd (clash e)
    go k p false h i e = carry (λ j q. (bs ≡ j ∷ q) × (1 ≤ left)) e (i, let z = eqb-false left 0 h in omega arith)

pub type_spelt : (deep : ℕ) → Spells (type_within deep)
unfolding type_within refuse
type_spelt zero left bs t over e = absurd (clash e)
type_spelt (suc deep) left bs t over e =
    let w = then (node_tag left) _ bs e in
    let v = tag_read left bs w.first in
    let p = tagged_spelt (type_within deep) (type_spelt deep) (left - 1) w.got w.mid t over w.last in
    record { bytes = v.0 ∙ p.bytes; fine = p.fine; nodes = let a = p.nodes in let b = v.1 in omega arith }

-- ---- Bytes that spell a type are read as that type

kind_spells : (k : BorrowKind) (over : List ℕ) → borrow_kind (kind_byte k ∷ over) ≡ read k over
unfolding borrow_kind one_of pick done ◌>>=◌ byte
kind_spells Mut over = refl
kind_spells Shared over = refl

region_spells : (r : Region) (over : List ℕ) → region (region_tag r ∷ region_number r ∷ over) ≡ read r over
unfolding region one_of pick done ◌>>=◌ byte
region_spells (Free n) over = refl
region_spells (BoundRegion b) over = refl

node_spells : (deep left tag : ℕ) (bs : List ℕ) {x : Reading (Part Ty)} → 1 ≤ left → left < deep → ((d : ℕ) → left - 1 < d → tagged (type_within d) (left - 1) tag bs ≡ x) → type_within deep left (tag ∷ bs) ≡ x
unfolding type_within node_tag byte done
node_spells zero left tag bs h l f = absurd (omega arith)
node_spells (suc deep) left tag bs h l f = step (node_tag left) _ (tag ∷ bs) (step byte _ (tag ∷ bs) refl ∙ rw (ne_eqb left 0 (λ z. omega arith))) ∙ f deep (omega arith)

mutual
  unfolding tagged args one_of pick done byte type_nodes arg_count

  pub type_spells : (t : Ty) → Fine t → (deep left : ℕ) (over : List ℕ) → type_nodes t ≤ left → left < deep → type_within deep left (spell t ++ over) ≡ read (part t (left - type_nodes t)) over
  type_spells UnitTy f deep left over h l = node_spells deep left 0 over h l (λ d k. refl)
  type_spells (RefTy k r t) f deep left over h l = node_spells deep left 1 _ (omega arith) l (λ d m.
      let e : left - 1 - type_nodes t ≡ left - suc (type_nodes t) = omega arith in
      step borrow_kind _ _ (kind_spells k _) ∙ step region _ _ (region_spells r _) ∙ step (type_within d (left - 1)) _ _ (type_spells t f d (left - 1) over (omega arith) m) ∙ rw e)
  type_spells (StructTy s given) f deep left over h l = node_spells deep left 2 _ (omega arith) l (λ d m.
      let e : left - 1 - arg_nodes given ≡ left - suc (arg_nodes given) = omega arith in
      step byte _ _ refl ∙ step (count 0 max_params) _ _ (count_in 0 max_params _ refl (omega arith) f.0) ∙ step (args (type_within d) (arg_count given) (left - 1)) _ _ (args_spells given f.1 d (left - 1) over (omega arith) m) ∙ rw e)
  type_spells (BoundTy b) f deep left over h l = node_spells deep left 3 _ h l (λ d k. step byte _ _ refl)

  pub args_spells : (given : Args) → FineArgs given → (deep left : ℕ) (over : List ℕ) → arg_nodes given ≤ left → left < deep → args (type_within deep) (arg_count given) left (spell_args given ++ over) ≡ read (part given (left - arg_nodes given)) over
  args_spells NoArgs f deep left over h l = rw sub-zero
  args_spells (RegionArg r given) f deep left over h l = step byte _ _ refl ∙ step region _ _ (region_spells r _) ∙ step (args (type_within deep) (arg_count given) left) _ _ (args_spells given f deep left over h l)
  args_spells (TypeArg t given) f deep left over h l =
      let e : left - type_nodes t - arg_nodes given ≡ left - (type_nodes t + arg_nodes given) = omega arith in
      step byte _ _ refl ∙ rw append_assoc (step (type_within deep left) _ _ (type_spells t f.0 deep left (spell_args given ++ over) (omega arith) l) ∙ step (args (type_within deep) (arg_count given) (left - type_nodes t)) _ _ (args_spells given f.1 deep (left - type_nodes t) over (omega arith) (omega arith)) ∙ rw e)
