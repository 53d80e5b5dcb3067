-- What each way through the writing of a type says of the bytes. Assumes nothing.
use mathlib.Core.Path.{◌≡◌, refl, sym, ap, subst as transport, ◌∙◌}
use mathlib.Core.List.{List, [], ◌∷◌, ◌++◌, append_assoc}
use Prim.Native.Nat.{ℕ, suc, ◌+◌, ◌-◌, ◌*◌, ◌≤◌, ◌<◌}
use native.Mathlib.Omega.{arith}
use native.Mathlib.Decide.{dec_lt}
use lib.ListN.{length, take, drop, length-append, length-drop}
use lib.Seq.{take_at}
use Rattle.std.proofs.lemmas.List.{length-take, drop_min}
use Rattle.nll_spec.specs.Syntax.{Ty, UnitTy, RefTy, StructTy, BoundTy, Args, NoArgs, RegionArg, TypeArg}
use Rattle.nll_spec.specs.Decode.{Reading, refused, read, Part, part, type_within}
use Rattle.nll_spec.specs.Types.{head_type, arg_count, bound_args, type_nodes, arg_nodes}
use Rattle.repr.specs.Reading.{rest}
use Rattle.repr.specs.Types.{left_of, nodes_says, TypeSays}
use Rattle.repr.specs.declared.Cursor.{Cursor}
use Rattle.repr.specs.declared.Argument.{Argument}
use Rattle.repr.specs.declared.Argument.TheVariants as arguments
use Rattle.repr.specs.declared.Rest.{Rest}
use Rattle.repr.specs.declared.refusal.Refusal.{Refusal}
use Rattle.std.specs.Prelude.{Option, Some, None, Result, Ok, Err, min}
use Rattle.repr.specs.Stands.{TypeTo}
use Rattle.repr.specs.Spelling.{spell, spell_args, Fine, FineArgs}
use Rattle.ty.specs.Written.{Given, FoundIs, FoundSays}
use Rattle.ty.specs.Writing.{Puts, Writes, Keeps, Room, CopySays, BoundSays}
use Rattle.ty.specs.declared.write.Arguments.{Arguments}
use Rattle.ty.specs.declared.write.Writer.{Writer}
use Rattle.repr.proofs.SpellLaws.{clash, Spelt}
use Rattle.repr.proofs.StandLaws.{type-bytes, type_once, type-passed}

-- ---- A type takes at most 15 bytes a node

mutual
  unfolding type_nodes arg_count

  pub spell-room : (t : Ty) → Fine t → length (spell t) ≤ 15 * type_nodes t
  spell-room UnitTy f = omega arith
  spell-room (RefTy k r t) f = let h = spell-room t f in omega arith
  spell-room (StructTy s given) f = let h = args-room given f.1 in let k = f.0 in omega arith
  spell-room (BoundTy b) f = omega arith

  args-room : (given : Args) → FineArgs given → length (spell_args given) ≤ 15 * arg_nodes given + 3 * arg_count given
  args-room NoArgs f = omega arith
  args-room (RegionArg r given) f = let h = args-room given f in omega arith
  args-room (TypeArg t given) f = let h = spell-room t f.0 in let k = args-room given f.1 in simp length-append (omega arith)

spell-some : (t : Ty) → 1 ≤ length (spell t)
spell-some UnitTy = omega arith
spell-some (RefTy k r t) = omega arith
spell-some (StructTy s given) = omega arith
spell-some (BoundTy b) = omega arith

-- ---- A type that was passed over, where it lies

-- the type of the bytes from `from` up to `to`, which leaves so many nodes
pub record Lies (s : List ℕ) (from to left rem : ℕ) : Type 0 where
  pub type : Ty
  pub stands : TypeTo (drop from s) type (drop to s)
  pub nodes : rem + type_nodes type ≡ left
  pub ordered : from ≤ to
  pub room : to - from ≤ 15 * type_nodes type
  pub bytes : take (to - from) (drop from s) ≡ spell type

left_got : (x : Reading (Part Ty)) {l : ℕ} {over : List ℕ} → left_of x ≡ read l over → (t : Ty) × (x ≡ read (part t l) over)
left_got (refused k) e = absurd (clash e)
left_got (read p o) {l} {over} e = (p.item, let i : p.left ≡ l = cc in let j : o ≡ over = cc in rw (← i, ← j))

lying : (s : List ℕ) (from to left rem : ℕ) (t : Ty) → TypeTo (drop from s) t (drop to s) → Spelt (drop from s) left t rem (drop to s) → to ≤ length s → Lies s from to left rem
lying s from to left rem t p w i =
    let q : length s - from ≡ length (spell t) + (length s - to) = simp (length-append, length-drop) at (ap length w.bytes) in
    let m = spell-some t in
    let l : from + length (spell t) ≡ to = omega arith in
    let k : length (spell t) ≡ to - from = omega arith in
    let o = spell-room t w.fine in
    record { type = t; stands = p; nodes = w.nodes; ordered = omega arith; room = omega arith; bytes = rw w.bytes (take_at (spell t) (drop to s) (to - from) k) }

pub lies : {s : List ℕ} {from left to : ℕ} {d : Result Rest Refusal} {x : Rest} → TypeSays s from left d → d ≡ Ok x → to ≡ min x.next.at (length s) → Lies s from to left x.left
lies {s} {from} {left} {to} {d} {x} v e b =
    let g = left_got (type_within (suc left) left (drop from s)) (sym (v.same (suc left) (omega arith)) ∙ ap (nodes_says s) e) in
    let p : TypeTo (drop from s) g.0 (drop to s) = record { deep = suc left; left = left; after = x.left; reads = rw (b, drop_min x.next.at s) g.1 } in
    lying s from to left x.left g.0 p (type-bytes p) (omega arith)

-- ---- One piece after another

module _ {w w₁ : Writer} {k : ℕ} {l : List ℕ} (p : Puts k l w w₁) where
  pub writes_more : (f over : List ℕ) (w₂ : Writer) (nodes all : ℕ) (bytes : List ℕ) → k + nodes ≡ all → (r : Option Cursor) → Writes f over nodes bytes w₁ w₂ r → Writes f over all (l ++ bytes) w w₂ r
  writes_more f over w₂ nodes all bytes g (Some c) (i, q) =
      (i, record { took = omega (arith, p.took, q.took); ends = simp length-append (omega (arith, p.ends, q.ends)); same = q.same ∙ p.same; stand = q.stand ∙ (ap (λ (x : List ℕ). x ++ bytes) p.stand ∙ append_assoc (take w.at w.out.now) l bytes) })
  writes_more f over w₂ nodes all bytes g None q = omega (arith, p.took)

  pub keeps_put : (more : ℕ) → length l ≤ 15 * k + more → Keeps more w w₁
  keeps_put more h = record { same = p.same; fewer = omega (arith, p.took); room = omega (arith, p.took, p.ends) }

  pub room-more : (more m : ℕ) (w₂ : Writer) → length l + m ≤ 15 * k + more → (r : Option Cursor) → Room m w₁ w₂ r → Room more w w₂ r
  room-more more m w₂ h (Some c) q = record { same = q.same ∙ p.same; fewer = omega (arith, p.took, q.fewer); room = omega (arith, p.took, p.ends, q.room) }
  room-more more m w₂ h None q = tt

pub room-then : {w w₁ : Writer} (m : ℕ) (w₂ : Writer) → Keeps 0 w w₁ → (r : Option Cursor) → Room m w₁ w₂ r → Room m w w₂ r
room-then m w₂ p (Some c) q = record { same = q.same ∙ p.same; fewer = omega (arith, p.fewer, q.fewer); room = omega (arith, p.room, q.room) }
room-then m w₂ p None q = tt

-- ---- A type as it is

module _ {s : List ℕ} {item : ℕ} {next : Cursor} {w w₁ : Writer} {d : Result Rest Refusal} (v : TypeSays s item w.left d) where
  pub copy_over : {k : Refusal} → d ≡ Err k → CopySays s item next w w₁ None
  copy_over e = record { says = λ f t over p. go t over p (dec_lt w.left (type_nodes t)); room = tt }
    where
      go : (t : Ty) (over : List ℕ) → TypeTo (drop item s) t over → Dec (w.left < type_nodes t) → w.left < type_nodes t
      go t over p (yes h) = h
      go t over p (no h) = absurd (clash (sym (ap (nodes_says s) e) ∙ type-passed v p (omega arith)))

  pub copied : {to : ℕ} {x : Rest} → d ≡ Ok x → to ≡ min x.next.at (length s) → Puts (w.left - x.left) (take (to - item) (drop item s)) w w₁ → CopySays s item next w w₁ (Some next)
  copied {to = to} {x = x} e b h =
      let y = lies v e b in
      let i : w.left - x.left ≡ type_nodes y.type = omega (arith, y.nodes) in
      record {
        says = λ f t over p. transport (λ (u : Ty). Writes f (rest f next) (type_nodes u) (spell u) w w₁ (Some next)) (type_once y.stands p) (refl, rw (i, y.bytes) at h);
        room = keeps_put h 0 (omega (arith, y.nodes, y.room, length-take (to - item) (drop item s)));
      }

-- ---- What a bound index means

pub found : {a : Arguments} {b : ℕ} {d x : Option Argument} → FoundSays a b d → d ≡ x → (g : Args) → Given a g → FoundIs a.bytes.now (bound_args g b) x
found {a} {b} v e g w = transport (λ (x : Option Argument). FoundIs a.bytes.now (bound_args g b) x) e (v.says g w)

pub unit_writes : (f over : List ℕ) (next : Cursor) {w w₁ : Writer} (t : Ty) → t ≡ UnitTy → rest f next ≡ over → Puts 1 (0 ∷ []) w w₁ → Writes f over (type_nodes t) (spell t) w w₁ (Some next)
unfolding type_nodes
unit_writes f over next t e i p = rw e (i, p)

module _ {a : Arguments} {b : ℕ} {next : Cursor} {w w₁ : Writer} where
  pub bound_type : {d : Option Argument} {item : Cursor} {r : Option Cursor} → FoundSays a b d → d ≡ Some (arguments.Type item) → CopySays a.bytes.now item.at next w w₁ r → BoundSays a b next w w₁ r
  bound_type v e u = record { says = λ f g y. let x = found v e g y in u.says f (head_type (bound_args g b)) x.over x.stands; room = u.room }

  pub bound_unit : ((g : Args) → Given a g → head_type (bound_args g b) ≡ UnitTy) → Puts 1 (0 ∷ []) w w₁ → BoundSays a b next w w₁ (Some next)
  bound_unit e p = record { says = λ f g y. unit_writes f (rest f next) next (head_type (bound_args g b)) (e g y) refl p; room = keeps_put p 0 (omega arith) }
