-- The names of a type, node by node. Assumes nothing.
use mathlib.Core.Path.{◌≡◌, refl, ap, ◌∙◌}
use mathlib.Core.Logic.{◌⊎◌, inl, inr}
use mathlib.Core.Bool.{Bool, true, false}
use Prim.Native.Nat.{ℕ, ◌-◌, ◌≤◌, ◌<◌}
use native.Mathlib.Omega.{arith}
use native.Mathlib.Nat.{le_refl}
use lib.Dec.{ltb}
use lib.ListN.{length}
use borrow.Author.Tests.{lt-ltb, le-ltb}
use Rattle.nll_spec.specs.Syntax.{Job}
use Rattle.nll_spec.specs.WellFormed.{region_named, type_named, args_named}
use Rattle.repr.specs.Reading.{region_of}
use Rattle.repr.specs.declared.Region as repr_region
use Rattle.repr.specs.Types.{node, NodeSays, ArgumentSays}
use Rattle.repr.specs.declared.Cursor.{Cursor}
use Rattle.repr.specs.declared.Row.{Row}
use Rattle.repr.specs.declared.BorrowKind as repr_kind
use Rattle.repr.specs.declared.StructName.{StructName}
use Rattle.record.specs.declared.Record.{Record}
use Rattle.refusals.specs.Tests.{Sized, TypeNamed, ArgumentsNamed}
use Rattle.refusals.proofs.WalkLaws as walks
use Rattle.refusals.proofs.WalkLaws.{fewer-still, rest-fewer}
use Rattle.std.specs.Prelude.{Result, Ok, Err}
use Rattle.repr.specs.declared.Node.{Node}
use Rattle.repr.specs.declared.Node.TheVariants as nodes
use Rattle.repr.specs.declared.Argument.{Argument}
use Rattle.repr.specs.declared.Argument.TheVariants as arguments
use Rattle.repr.specs.declared.Rest.{Rest}
use Rattle.repr.specs.declared.refusal.Refusal.{Refusal}

-- ---- A type

module _ {input : Record} {at left : ℕ} where
  pub named_none : {k : Refusal} → left ≡ 0 → TypeNamed input at left (Err k)
  named_none z = record { walks = λ j w. walks.type-none z; fewer = tt }

  module _ {d : Result Node Refusal} (m : NodeSays node input.bytes.now at d) where
    pub named-refused : {k l : Refusal} → d ≡ Err k → TypeNamed input at left (Err l)
    named-refused e = record { walks = λ j w. walks.type-refused m e; fewer = tt }

    named-unit : {c : Cursor} → d ≡ Ok (nodes.Unit c) → TypeNamed input at left (Ok (record { left = left - 1; next = c }))
    unfolding type_named
    named-unit e = record { walks = λ j w. walks.type-unit m e refl; fewer = omega arith }

    named_bound : {b : ℕ} {c : Cursor} → d ≡ Ok (nodes.Bound b c) → TypeNamed input at left (Ok (record { left = left - 1; next = c }))
    unfolding type_named
    named_bound e = record { walks = λ j w. walks.type_bound m e refl; fewer = omega arith }

    -- one that has no parts
    pub named-end : {n : Node} {c : Cursor} → d ≡ Ok n → (n ≡ nodes.Unit c) ⊎ ((b : ℕ) × (n ≡ nodes.Bound b c)) → TypeNamed input at left (Ok (record { left = left - 1; next = c }))
    named-end e (inl i) = named-unit (e ∙ ap Ok i)
    named-end e (inr i) = named_bound (e ∙ ap Ok i.1)

    module _ {q : repr_kind.BorrowKind} {o : repr_region.Region} {c : Cursor} (e : d ≡ Ok (nodes.Ref q o c)) {b : Bool} (f : (j : Job) → Sized input.head j → b ≡ region_named j (region_of o)) where
      pub named_ref : {r : Result Rest Refusal} → b ≡ true → (left ≡ 0 → ⊥) → TypeNamed input c.at (left - 1) r → TypeNamed input at left r
      unfolding type_named
      named_ref {r} i z v = record { walks = λ j w. walks.type_ref m e z (λ t. rw (← f j w, i)) (v.walks j w); fewer = fewer-still r v.fewer (omega arith) }

      pub ref_unnamed : {k : Refusal} → b ≡ false → TypeNamed input at left (Err k)
      unfolding type_named
      ref_unnamed i = record { walks = λ j w. walks.ref_fails m e (λ t. rw (← f j w, i)); fewer = tt }

    module _ {name : StructName} {row : Row} (e : d ≡ Ok (nodes.Struct name row)) where
      pub named_struct : {r : Result Rest Refusal} → name.0 < input.head.structs → (left ≡ 0 → ⊥) → ArgumentsNamed input row.from.at row.count (left - 1) r → TypeNamed input at left r
      unfolding type_named
      named_struct {r} i z v = record {
        walks = λ j w. walks.type_struct m e z (λ g. let l : ltb name.0 (length j.structs) ≡ true = lt-ltb name.0 (length j.structs) (omega (arith, w.structs)) in rw l) (v.walks j w);
        fewer = fewer-still r v.fewer (omega arith);
      }

      pub struct_unnamed : {k : Refusal} → input.head.structs ≤ name.0 → TypeNamed input at left (Err k)
      unfolding type_named
      struct_unnamed i = record {
        walks = λ j w. walks.struct_fails m e (λ g n. let l : ltb name.0 (length j.structs) ≡ false = le-ltb name.0 (length j.structs) (omega (arith, w.structs)) in rw l);
        fewer = tt;
      }

-- ---- Arguments

module _ {input : Record} {n left : ℕ} where
  pub arguments_none : (c : Cursor) → n ≡ 0 → ArgumentsNamed input c.at n left (Ok (record { left = left; next = c }))
  unfolding args_named
  arguments_none c z = record { walks = λ j w. walks.args_none c z refl; fewer = le_refl left }

  module _ {at : ℕ} {d : Result Argument Refusal} (m : ArgumentSays input.bytes.now at d) (z : n ≡ 0 → ⊥) where
    pub arguments_refused : {k l : Refusal} → d ≡ Err k → ArgumentsNamed input at n left (Err l)
    arguments_refused e = record { walks = λ j w. walks.args-refused m z e; fewer = tt }

    module _ {o : repr_region.Region} {c : Cursor} (e : d ≡ Ok (arguments.Region o c)) {b : Bool} (f : (j : Job) → Sized input.head j → b ≡ region_named j (region_of o)) where
      pub arguments_region : {r : Result Rest Refusal} → b ≡ true → ArgumentsNamed input c.at (n - 1) left r → ArgumentsNamed input at n left r
      unfolding args_named
      arguments_region i v = record { walks = λ j w. walks.args-region m z e (λ g. rw (← f j w, i)) (v.walks j w); fewer = v.fewer }

      pub region_unnamed : {k : Refusal} → b ≡ false → ArgumentsNamed input at n left (Err k)
      unfolding args_named
      region_unnamed i = record { walks = λ j w. walks.region-fails m z e (λ g. rw (← f j w, i)); fewer = tt }

    module _ {c : Cursor} (e : d ≡ Ok (arguments.Type c)) {w : Result Rest Refusal} (v : TypeNamed input c.at left w) where
      pub type_unnamed : {k l : Refusal} → w ≡ Err k → ArgumentsNamed input at n left (Err l)
      unfolding args_named
      type_unnamed i = record { walks = λ j y. walks.first-fails m z e (args_named j) (λ t g. refl) (v.walks j y) i; fewer = tt }

      pub arguments_type : {to : Rest} {r : Result Rest Refusal} → w ≡ Ok to → ArgumentsNamed input to.next.at (n - 1) to.left r → ArgumentsNamed input at n left r
      unfolding args_named
      arguments_type {r = r} i u = record { walks = λ j y. walks.args-type m z e (args_named j) (λ t g. refl) (v.walks j y) i (u.walks j y); fewer = fewer-still r u.fewer (rest-fewer v.fewer i) }
