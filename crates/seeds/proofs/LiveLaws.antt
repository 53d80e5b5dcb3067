-- What the variables give to the regions' rows. Assumes nothing.
use mathlib.Core.Path.{◌≡◌, refl, sym, ap, ap₂, subst, ◌∙◌}
use mathlib.Core.Bool.{Bool, true, false, not, ◌&&◌, ◌||◌, true≢false}
use mathlib.Core.List.{List}
use Prim.Native.Nat.{ℕ, ◌+◌, ◌*◌, ◌/◌, ◌%◌, ◌^◌, ◌≤◌, ◌<◌}
use native.Mathlib.Nat.{zero-div}
use native.Mathlib.Omega.{arith}
use native.Mathlib.Numerals.{add-one}
use lib.ListN.{get_or, length, replicate, get_or-replicate, length-replicate}
use lib.Dec.{eqb, leb}
use Rattle.nll_spec.specs.Lists.{contains}
use Rattle.nll_spec.specs.Syntax.{Ty, UnitTy, Job}
use Rattle.nll_spec.specs.Types.{variable_type}
use Rattle.nll_spec.specs.Decode.{type}
use Rattle.nll_spec.specs.Output.{word_bits}
use Rattle.repr.specs.Reading.{rest}
use Rattle.repr.specs.declared.Cursor.{Cursor}
use Rattle.repr.specs.Stands.{Stands}
use Rattle.record.specs.Layout.{Holds}
use Rattle.record.specs.declared.Record.{Record}
use Rattle.record.proofs.AccessLaws.{variable_at}
use Rattle.bit_set.specs.Bits.{has}
use Rattle.bit_slice.specs.Some.{SomeSet}
use Rattle.liveness.specs.Rows.{row_bit}
use Rattle.bit_set.proofs.BitLaws.{digit}
use Rattle.seeds.specs.declared.Which.{Which}
use Rattle.seeds.specs.declared.Which.TheVariants.{Every, Dropped}
use Rattle.seeds.specs.Chosen.{add_all, chosen}
use Rattle.seeds.specs.Seeded.{Room, Adds, spreads, takes, any_to, live_in}
use Rattle.seeds.proofs.AddLaws.{has-added}
use Rattle.seeds.proofs.RowLaws.{adds_none, adds_same, adds_then, room-kept}

-- ---- One variable

-- nothing is in a set of zeros
zeros_empty : (n i : ℕ) → i / word_bits < n → has (replicate n 0) i ≡ false
zeros_empty n i h = ap (λ (w : ℕ). eqb (digit w (i % word_bits)) 1) (get_or-replicate n (i / word_bits) 0 0 h) ∙ ap (λ (x : ℕ). eqb (x % 2) 1) (zero-div (2 ^ (i % word_bits)))

pub live_adds : (input : Record) {w v : ℕ} (which : Which) (live names before after : List ℕ) (at : Cursor) → at.at ≡ get_or input.layout.now.variables v 0
    → ((j : Job) (ty : Ty) → Holds input j → Stands type ty (rest input.bytes.now at) → names ≡ add_all (replicate 4 0) 0 (chosen which j.structs ty))
    → (v < 64 → 64 * w ≤ length live → Room input.head w before → Adds w input.head.regions (spreads input.head.declared names w live v) before after)
    → (j : Job) → Holds input j → v < length j.variables → 64 * w ≤ length live → Room input.head w before → Adds w input.head.regions (takes j which w live v) before after
live_adds input {w} {v} which live names before after at e f g j l hv hl room =
    let k = l.variable_count in
    let m = l.variable_limit in
    let st : Stands type (variable_type j v) (rest input.bytes.now at) = rw e (variable_at l v UnitTy hv) in
    let n : names ≡ add_all (replicate 4 0) 0 (chosen which j.structs (variable_type j v)) = f j (variable_type j v) l st in
    adds_same (g (omega arith) hl room) (takes j which w live v) (λ r p hr hp. turn r p n (omega (arith, l.region_limit)) l.declared_count)
  where
    turn : (r p : ℕ) → names ≡ add_all (replicate 4 0) 0 (chosen which j.structs (variable_type j v)) → r < 128 → length j.outlives ≡ input.head.declared → spreads input.head.declared names w live v r p ≡ takes j which w live v r p
    turn r p n lr d =
        ap₂ (λ (a : ℕ) (b : Bool). leb a r && b && has live (row_bit w v p)) (sym d)
        (ap (λ (u : List ℕ). has u (word_bits * 0 + r)) n
        ∙ has-added (replicate 4 0) 0 (chosen which j.structs (variable_type j v)) r (rw length-replicate (omega arith))
        ∙ ap (λ (b : Bool). b || contains (chosen which j.structs (variable_type j v)) r) (zeros_empty 4 (word_bits * 0 + r) (omega arith)))

-- no live point, so that nothing is put
pub live_none : {n w v k : ℕ} (which : Which) (live ws : List ℕ) {some : Bool} → k ≡ v → SomeSet live (k * w) w some → not some ≡ true → (j : Job) → Adds w n (takes j which w live v) ws ws
live_none {n} {w} {v} {k} which live ws {some} e x q j =
    adds_none w n (takes j which w live v) ws (λ r p hr hp. none (leb (length j.outlives) r) (contains (chosen which j.structs (variable_type j v)) r) (at p hp))
  where
    no : (b : Bool) → not b ≡ true → b ≡ false
    no false q = refl
    no true q = absurd (true≢false (sym q))

    at : (p : ℕ) → p < word_bits * w → has live (row_bit w v p) ≡ false
    at p hp = subst (λ (u : ℕ). has live (row_bit w u p) ≡ false) e (x.none (no some q) p hp)

    none : (a b : Bool) {c : Bool} → c ≡ false → (a && b && c) ≡ false
    none true true q = q
    none true false q = refl
    none false b q = refl

-- ---- Every variable

pub record Giving (input : Record) (used dropped : List ℕ) (w v : ℕ) (before ws : List ℕ) : Type 0 where
  pub size : length ws ≡ length before
  pub adds : (j : Job) → Holds input j → 64 * w ≤ length used → 64 * w ≤ length dropped → Room input.head w before → Adds w input.head.regions (λ r p. any_to (live_in j w used dropped r p) v) before ws

pub giving_start : (input : Record) (used dropped : List ℕ) (w : ℕ) (ws : List ℕ) → Giving input used dropped w 0 ws ws
giving_start input used dropped w ws = record { size = refl; adds = λ j l hu hd room. adds_none w input.head.regions _ ws (λ r p hr hp. refl) }

module _ {input : Record} {used dropped : List ℕ} {w v : ℕ} {before ws : List ℕ} (x : Giving input used dropped w v before ws) where
  pub giving_more : {us vs : List ℕ} → v < input.head.variables → length us ≡ length ws → length vs ≡ length us
      → ((j : Job) → Holds input j → v < length j.variables → 64 * w ≤ length used → Room input.head w ws → Adds w input.head.regions (takes j Every w used v) ws us)
      → ((j : Job) → Holds input j → v < length j.variables → 64 * w ≤ length dropped → Room input.head w us → Adds w input.head.regions (takes j Dropped w dropped v) us vs)
      → Giving input used dropped w (v + 1) before vs
  giving_more hv eu ev f g = record {
    size = ev ∙ eu ∙ x.size;
    adds = λ j l hu hd room.
        let k = l.variable_count in
        let rw₁ = room-kept x.size room in
        adds_same (adds_then (x.adds j l hu hd room) (adds_then (f j l (omega arith) hu rw₁) (g j l (omega arith) hd (room-kept eu rw₁))))
        (λ r p. any_to (live_in j w used dropped r p) (v + 1)) (λ r p hr hp. sym (ap (any_to (live_in j w used dropped r p)) (add-one v)));
  }

  pub giving_end : v ≡ input.head.variables → (j : Job) → Holds input j → 64 * w ≤ length used → 64 * w ≤ length dropped → Room input.head w before
      → Adds w input.head.regions (λ r p. any_to (live_in j w used dropped r p) input.head.variables) before ws
  giving_end e j l hu hd room = subst (λ (z : ℕ). Adds w input.head.regions (λ r p. any_to (live_in j w used dropped r p) z) before ws) e (x.adds j l hu hd room)
