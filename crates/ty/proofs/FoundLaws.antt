-- The argument that a bound index means. Assumes nothing.
use mathlib.Core.Path.{◌≡◌, refl, sym, ap, subst as transport, ◌∙◌}
use mathlib.Core.List.{List, ◌∷◌, ◌++◌, append_assoc}
use Prim.Native.Nat.{ℕ, zero, suc, ◌+◌, ◌-◌, ◌≤◌}
use native.Mathlib.Omega.{arith}
use native.Mathlib.Nat.{le_refl}
use Rattle.nll_spec.specs.Syntax.{Ty, Args, NoArgs, RegionArg, TypeArg}
use Rattle.nll_spec.specs.Decode.{read}
use Rattle.nll_spec.specs.Types.{head_region, head_type, arg_count, drop_args, bound_args, arg_nodes}
use Rattle.repr.specs.Reading.{rest}
use Rattle.repr.specs.Types.{ArgumentSays, nodes_says, ArgumentsSay}
use Rattle.repr.specs.declared.Cursor.{Cursor}
use Rattle.repr.specs.declared.Region.{Region}
use Rattle.repr.specs.declared.Region.TheVariants.{Free, Bound}
use Rattle.repr.specs.declared.Argument.{Argument}
use Rattle.repr.specs.declared.Argument.TheVariants as arguments
use Rattle.repr.specs.declared.Rest.{Rest}
use Rattle.repr.specs.declared.refusal.Refusal.{Refusal}
use Rattle.std.specs.Prelude.{Option, Some, None, Result, Ok, Err}
use Rattle.std.specs.Result.{result_ok}
use Rattle.ty.specs.declared.write.Arguments.{Arguments}
use Rattle.repr.specs.Stands.{TypeTo, ArgsTo}
use Rattle.repr.specs.Spelling.{spell, spell_args, FineArgs}
use Rattle.ty.specs.Written.{Given, FoundIs, FoundSays, RegionSays}
use Rattle.repr.proofs.SpellLaws.{clash, args_spells}
use Rattle.repr.proofs.StandLaws.{args-bytes, ArgumentIs, argument_is, none_is, args-passed}

-- ---- Some arguments, in two parts

abbrev take_args : ℕ → Args → Args
take_args zero g = NoArgs
take_args (suc k) NoArgs = NoArgs
take_args (suc k) (RegionArg r g) = RegionArg r (take_args k g)
take_args (suc k) (TypeArg t g) = TypeArg t (take_args k g)

record Parts (k : ℕ) (g front back : Args) : Type 0 where
  bytes : spell_args g ≡ spell_args front ++ spell_args back
  front_fine : FineArgs front
  back_fine : FineArgs back
  front_count : arg_count front ≡ k
  back_count : k + arg_count back ≡ arg_count g
  few : arg_nodes front ≤ arg_nodes g

parts : (k : ℕ) (g : Args) → FineArgs g → k ≤ arg_count g → Parts k g (take_args k g) (drop_args k g)
unfolding drop_args arg_count arg_nodes
parts zero g f h = record { bytes = refl; front_fine = tt; back_fine = f; front_count = refl; back_count = omega arith; few = omega arith }
parts (suc k) NoArgs f h = absurd (omega arith)
parts (suc k) (RegionArg r g) f h =
    let p = parts k g f (omega arith) in
    let c = p.back_count in
    record { bytes = rw p.bytes; front_fine = p.front_fine; back_fine = p.back_fine; front_count = ap suc p.front_count; back_count = omega arith; few = p.few }
parts (suc k) (TypeArg t g) f h =
    let p = parts k g f.1 (omega arith) in
    let c = p.back_count in
    let w = p.few in
    record {
      bytes = ap (λ (l : List ℕ). 1 ∷ l) (ap (λ (l : List ℕ). spell t ++ l) p.bytes ∙ sym (append_assoc (spell t) _ _));
      front_fine = (f.0, p.front_fine);
      back_fine = p.back_fine;
      front_count = ap suc p.front_count;
      back_count = omega arith;
      few = omega arith;
    }

-- bytes that spell them
pub args_to : (g : Args) (over : List ℕ) → FineArgs g → ArgsTo (spell_args g ++ over) (arg_count g) g over
args_to g over f = record { deep = suc (arg_nodes g); left = arg_nodes g; after = _; reads = args_spells g f (suc (arg_nodes g)) (arg_nodes g) over (le_refl _) (omega arith) }

record Split (bs : List ℕ) (n k : ℕ) (g : Args) (over : List ℕ) : Type 0 where
  mid : List ℕ
  front : ArgsTo bs k (take_args k g) mid
  back : ArgsTo mid (n - k) (drop_args k g) over
  few : arg_nodes (take_args k g) ≤ arg_nodes g

split : {bs : List ℕ} {n : ℕ} (k : ℕ) {g : Args} {over : List ℕ} → ArgsTo bs n g over → k ≤ n → Split bs n k g over
split {bs} {n} k {g} {over} p h =
    let b = args-bytes p in
    let c = b.count in
    let w = parts k g b.fine (omega arith) in
    let d = w.back_count in
    let e : bs ≡ spell_args (take_args k g) ++ (spell_args (drop_args k g) ++ over) = b.bytes ∙ (ap (λ (l : List ℕ). l ++ over) w.bytes ∙ append_assoc (spell_args (take_args k g)) _ _) in
    let i : arg_count (drop_args k g) ≡ n - k = omega arith in
    record {
      mid = spell_args (drop_args k g) ++ over;
      front = transport (λ (o : List ℕ). ArgsTo o k (take_args k g) (spell_args (drop_args k g) ++ over)) (sym e) (transport (λ (c : ℕ). ArgsTo (spell_args (take_args k g) ++ (spell_args (drop_args k g) ++ over)) c (take_args k g) (spell_args (drop_args k g) ++ over)) w.front_count (args_to (take_args k g) _ w.front_fine));
      back = transport (λ (c : ℕ). ArgsTo (spell_args (drop_args k g) ++ over) c (drop_args k g) over) i (args_to (drop_args k g) over w.back_fine);
      few = w.few;
    }

drop-none : (k : ℕ) → drop_args k NoArgs ≡ NoArgs
unfolding drop_args
drop-none zero = refl
drop-none (suc k) = drop-none k

-- ---- What was found

first_found : (s : List ℕ) (n : ℕ) (h : Args) (over : List ℕ) (d : Result Argument Refusal) → ArgumentIs s n h over d → FoundIs s h (result_ok d)
first_found s n h over (Ok (arguments.Region r c)) w = record { region = rw w.same; type = rw w.same }
first_found s n h over (Ok (arguments.Type c)) w =
    let i : head_type h ≡ w.item = ap head_type w.same in
    record { over = w.mid; stands = transport (λ (t : Ty). TypeTo (rest s c) t w.mid) (sym i) w.first; region = rw w.same }
first_found s n h over (Err k) w = absurd w

module _ {a : Arguments} where
  -- the arguments before number k are passed over
  there : {k : ℕ} {r : Result Rest Refusal} {g : Args} → ArgumentsSay a.bytes.now a.row.from.at k 32 r → k ≤ a.row.count → (w : Given a g) → (p : Split (rest a.bytes.now a.row.from) a.row.count k g w.over) × (nodes_says a.bytes.now r ≡ read (32 - arg_nodes (take_args k g)) p.mid)
  there {k = k} v h w = let p = split k w.stand h in let l = p.few in let m = w.few in (p, args-passed v p.front (omega arith))

  module _ {b : ℕ} where
    pub found_none : a.row.count ≡ 0 → FoundSays a b None
    found_none z = record {
      says = λ g w.
          let e : bound_args g b ≡ NoArgs = rw (none_is z w.stand).same (drop-none _) in
          record { region = ap head_region e; type = ap head_type e };
    }

    module _ {k : ℕ} {r : Result Rest Refusal} (z : a.row.count ≡ 0 → ⊥) (i : k ≡ a.row.count - b - 1) (v : ArgumentsSay a.bytes.now a.row.from.at k 32 r) where
      pub found-short : {j : Refusal} → r ≡ Err j → FoundSays a b None
      found-short e = record { says = λ g w. absurd (clash (sym (ap (nodes_says a.bytes.now) e) ∙ (there v (omega arith) w).1)) }

      pub found_at : {x : Rest} {d : Result Argument Refusal} → r ≡ Ok x → ArgumentSays a.bytes.now x.next.at d → FoundSays a b (result_ok d)
      found_at {x} {d} e o = record {
        says = λ g w.
            let p = there v (omega arith) w in
            let f = sym (ap (nodes_says a.bytes.now) e) ∙ p.1 in
            let m : p.0.mid ≡ rest a.bytes.now x.next = cc in
            let c = (args-bytes w.stand).count in
            let n : k ≡ arg_count g - suc b = omega arith in
            let st : ArgsTo (rest a.bytes.now x.next) (a.row.count - k) (drop_args k g) w.over = transport (λ (o : List ℕ). ArgsTo o (a.row.count - k) (drop_args k g) w.over) m p.0.back in
            transport (λ (j : ℕ). FoundIs a.bytes.now (drop_args j g) (result_ok d)) n (first_found a.bytes.now _ (drop_args k g) w.over d (argument_is o (λ q. omega arith) st));
      }

  -- ---- A region, with the arguments put in

  module _ {r : Region} where
    module _ {b : ℕ} {d : Option Argument} (e : r ≡ Bound b) (v : FoundSays a b d) where
      on-found : {x : Option Argument} → d ≡ x → (g : Args) → Given a g → FoundIs a.bytes.now (bound_args g b) x
      on-found f g w = transport (λ (q : Option Argument). FoundIs a.bytes.now (bound_args g b) q) f (v.says g w)

      pub region-found : {x : Region} {c : Cursor} → d ≡ Some (arguments.Region x c) → RegionSays a r x
      region-found f = record { says = λ g w. let h = on-found f g w in rw e (sym h.region) }

      pub region-type : {c : Cursor} → d ≡ Some (arguments.Type c) → RegionSays a r (Free (record { 0 = 0 }))
      region-type f = record { says = λ g w. let h = on-found f g w in rw e (sym h.region) }

      pub region-none : d ≡ None → RegionSays a r (Free (record { 0 = 0 }))
      region-none f = record { says = λ g w. let h = on-found f g w in rw e (sym h.region) }
