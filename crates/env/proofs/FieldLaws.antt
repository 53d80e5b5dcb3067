-- The fields of a struct, one after the other. Assumes nothing.
use mathlib.Core.Path.{◌≡◌, refl, sym, ap, ◌∙◌}
use mathlib.Core.Bool.{false, true≢false}
use mathlib.Core.List.{List, ◌∷◌}
use lib.Dec.{eqb}
use mathlib.Core.Option.{Option, none, some}
use Prim.Native.Nat.{ℕ, suc, ◌-◌, ◌≤◌}
use native.Mathlib.Omega.{arith}
use lib.ListN.{drop}
use borrow.Author.Tests.{eq-eqb, ne_eqb}
use Rattle.nll_spec.specs.Syntax.{Ty, Field}
use Rattle.nll_spec.specs.Decode.{read, done, max_nodes, type_within, items, type, field}
use Rattle.nll_spec.specs.Types.{type_nodes, field_type}
use Rattle.repr.specs.Reading.{rest, ended, end_says}
use Rattle.repr.specs.Parts.{field_says}
use Rattle.repr.specs.declared.Cursor.{Cursor}
use Rattle.repr.specs.declared.FieldName.{FieldName}
use Rattle.repr.specs.declared.refusal.Refusal.{Refusal}
use Rattle.std.specs.Prelude.{Result, Ok, Err}
use Rattle.repr.proofs.ReadLaws.{told}
use Rattle.repr.specs.Stands.{Stands}
use Rattle.repr.proofs.SpellLaws.{clash, carry, then, type_spelt}
use Rattle.repr.proofs.ItemLaws.{first_of, none_of}
use Rattle.repr.proofs.StandLaws.{type-stands}
use Rattle.env.specs.Fields.{TypeThere}

pub differ : {n f : ℕ} → false ≡ eqb n f → n ≡ f → ⊥
differ {n} {f} e h = true≢false (sym (eq-eqb n f h) ∙ sym e)

-- a type that is read has no more nodes than it may have
pub type-few : (bs : List ℕ) {t : Ty} {over : List ℕ} → type bs ≡ read t over → type_nodes t ≤ max_nodes
unfolding type done
type-few bs {t} {over} e =
    let w = then (type_within (suc max_nodes) max_nodes) _ bs e in
    let n = (type_spelt (suc max_nodes) max_nodes bs w.got w.mid w.first).nodes in
    carry (λ u o. type_nodes u ≤ max_nodes) w.last (omega arith)

-- ---- What the search keeps

-- The field of the number f is one of the `left` fields that are still to be read.
pub record Among (bs : List ℕ) (left f : ℕ) (o : Option Ty) : Type 0 where
  pub others : List Field
  pub end : List ℕ
  pub reads : items left field bs ≡ read others end
  pub same : o ≡ field_type others f

-- Of n fields from one place on, `left` are still to be read from another on, and the field of the number f is among them.
pub record Seeking (s : List ℕ) (from n f at left : ℕ) : Type 0 where
  pub goes : (xs : List Field) → Stands (items n field) xs (drop from s) → Among (drop at s) left f (field_type xs f)

-- a field's parts, where it was read
record Parts (s : List ℕ) (n : ℕ) (c : Cursor) (x : Field) (over : List ℕ) : Type 0 where
  pub number : x.number ≡ n
  pub reads : type (rest s c) ≡ read x.type over

field-here : (x : Field) (xs : List Field) {n f : ℕ} → x.number ≡ n → n ≡ f → field_type (x ∷ xs) f ≡ some x.type
unfolding field_type
field-here x xs {n} {f} e h = rw (eq-eqb x.number f (e ∙ h), field_type)

field-later : (x : Field) (xs : List Field) {n f : ℕ} → x.number ≡ n → (n ≡ f → ⊥) → field_type (x ∷ xs) f ≡ field_type xs f
unfolding field_type
field-later x xs {n} {f} e h = rw (ne_eqb x.number f (λ y. h (sym e ∙ y)), field_type)

module _ {s : List ℕ} {from n f at left : ℕ} (g : Seeking s from n f at left) where
  pub seeking_end : left ≡ 0 → (xs : List Field) → Stands (items n field) xs (drop from s) → field_type xs f ≡ none
  unfolding field_type
  seeking_end z xs w = let a = g.goes xs w in a.same ∙ rw (none_of field left (drop at s) z a.reads).0

  module _ (z : left ≡ 0 → ⊥) {v : Result (FieldName × Cursor) Refusal} (m : field_says s v ≡ field (drop at s)) where
    pub seeking_refused : {k : Refusal} → v ≡ Err k → (xs : List Field) → Stands (items n field) xs (drop from s) → field_type xs f ≡ none
    seeking_refused e xs w = let o = first_of field left (drop at s) z (g.goes xs w).reads in absurd (clash (sym (told (field_says s) m e) ∙ o.first))

    module _ {name : FieldName} {c : Cursor} (e : v ≡ Ok (name, c)) where
      parts : {x : Field} {over : List ℕ} → field (drop at s) ≡ read x over → Parts s name.0 c x over
      unfolding done
      parts i =
          let w = then type _ (rest s c) (sym (told (field_says s) m e) ∙ i) in
          carry (λ y o. Parts s name.0 c y o) w.last (record { number = refl; reads = w.first })

      pub seeking_found : name.0 ≡ f → (xs : List Field) → Stands (items n field) xs (drop from s) → TypeThere s c.at (field_type xs f)
      seeking_found h xs w =
          let a = g.goes xs w in
          let o = first_of field left (drop at s) z a.reads in
          let p = parts o.first in
          record {
            type = o.item.type;
            same = a.same ∙ (ap (λ (l : List Field). field_type l f) o.same ∙ field-here o.item o.others p.number h);
            stands = type-stands p.reads;
            few = type-few (rest s c) p.reads;
          }

      module _ (h : name.0 ≡ f → ⊥) {r : Result Cursor Refusal} (q : end_says s r ≡ ended (type (rest s c))) where
        pub seeking_short : {k : Refusal} → r ≡ Err k → (xs : List Field) → Stands (items n field) xs (drop from s) → field_type xs f ≡ none
        seeking_short i xs w =
            let o = first_of field left (drop at s) z (g.goes xs w).reads in
            let p = parts o.first in
            absurd (clash (sym (ap (end_says s) i) ∙ q ∙ ap ended p.reads))

        pub seeking_more : {next : Cursor} → r ≡ Ok next → Seeking s from n f next.at (left - 1)
        seeking_more {next} i = record {
          goes = λ xs w.
              let a = g.goes xs w in
              let o = first_of field left (drop at s) z a.reads in
              let p = parts o.first in
              let u = sym (ap (end_says s) i) ∙ q ∙ ap ended p.reads in
              let b : rest s next ≡ o.mid = cc in
              record {
                others = o.others;
                end = a.end;
                reads = rw b o.reads;
                same = a.same ∙ (ap (λ (l : List Field). field_type l f) o.same ∙ field-later o.item o.others p.number h);
              };
        }
