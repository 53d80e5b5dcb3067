-- The paths of a job that was read are short. Assumes nothing.
use mathlib.Core.Path.{◌≡◌, sym, subst}
use mathlib.Core.Bool.{Bool, true}
use mathlib.Core.List.{List, [], ◌∷◌}
use Prim.Native.Nat.{ℕ, zero, suc}
use native.Mathlib.Omega.{arith}
use lib.ListN.{length}
use lib.Dec.{T, leb}
use borrow.Author.Tests.{le-leb}
use Rattle.nll_spec.specs.Lists.{every, gather}
use Rattle.nll_spec.specs.Syntax.{Path, Action, Block}
use Rattle.nll_spec.specs.Decode.{read, done, byte, count, items, counted, path, action, max_steps, max_sources}
use Rattle.nll_spec.specs.WellFormed.{paths_of}
use Rattle.nll_spec.proofs.Tests.{and_intro}
use Rattle.nll_spec.proofs.Lookup.{every_append}
use Rattle.record.specs.Rows.{Standing}
use Rattle.record.specs.Rows as rows
use Rattle.record.specs.Blocks.{Coded}
use Rattle.record.specs.Blocks as blocks
use Rattle.record.proofs.LayoutLaws.{count_most}
use Rattle.repr.proofs.SpellLaws.{carry, then}
use Rattle.repr.proofs.ActionLaws.{ActionParts, noop, init, borrowed, assigned, constraint, used, dropped, dead, action-read}
use Rattle.repr.proofs.ItemLaws.{items-length}

abbrev pub short : Path → Bool
short q = leb (length q.steps) max_steps

path-short : (bs : List ℕ) {q : Path} {over : List ℕ} → path bs ≡ read q over → T (short q)
unfolding path done
path-short bs e =
    let n = then (count 0 max_steps) _ bs e in
    let v = then byte _ n.mid n.last in
    let f = then (items n.got byte) _ v.mid v.last in
    let l = items-length byte n.got v.mid f.first in
    let m = count_most 0 max_steps bs n.first in
    carry (λ p o. T (short p)) f.last (subst T (sym (le-leb (length f.got) max_steps (omega arith))) tt)

paths-short : (n : ℕ) (bs : List ℕ) {qs : List Path} {over : List ℕ} → items n path bs ≡ read qs over → T (every short qs)
unfolding items done
paths-short zero bs e = carry (λ p o. T (every short p)) e tt
paths-short (suc n) bs e =
    let w = then path _ bs e in
    let v = then (items n path) _ w.mid w.last in
    carry (λ p o. T (every short p)) v.last (and_intro (short w.got) (every short v.got) (path-short bs w.first) (paths-short n w.mid v.first))

abbrev pub all_short : Action → Bool
all_short a = every short (paths_of a)

two-short : (p q : Path) → T (short p) → T (short q) → T (every short (p ∷ q ∷ []))
two-short p q h k = and_intro (short p) (every short (q ∷ [])) h (and_intro (short q) true k tt)

counted-short : (bs : List ℕ) {qs : List Path} {over : List ℕ} → counted max_sources path bs ≡ read qs over → T (every short qs)
unfolding counted
counted-short bs e = let n = then (count 0 max_sources) _ bs e in paths-short n.got n.mid n.last

parts_short : {n : ℕ} {a : Action} → ActionParts n a → T (all_short a)
unfolding paths_of
parts_short noop = tt
parts_short (init {p} {qs} {bs} {cs} h k) = and_intro (short p) (every short qs) (path-short bs h.reads) (counted-short cs k.reads)
parts_short (borrowed {p} {q} {bs} {cs} h k) = two-short p q (path-short bs h.reads) (path-short cs k.reads)
parts_short (assigned {p} {q} {bs} {cs} h k) = two-short p q (path-short bs h.reads) (path-short cs k.reads)
parts_short constraint = tt
parts_short (used {p} {bs} h) = and_intro (short p) true (path-short bs h.reads) tt
parts_short (dropped {p} {bs} h) = and_intro (short p) true (path-short bs h.reads) tt
parts_short dead = tt

standing_short : {s os : List ℕ} {xs : List Action} → Standing action s os xs → T (every all_short xs)
standing_short rows.none = tt
standing_short {xs = x ∷ xs} (rows.more k r) = and_intro (all_short x) (every all_short xs) (parts_short (action-read _ k.reads).parts) (standing_short r)

pub coded-short : {s es : List ℕ} {bs : List Block} → Coded s es bs → T (every all_short (gather (λ b. b.actions) bs))
coded-short blocks.none = tt
coded-short {bs = b ∷ bs} (blocks.more k r) = every_append all_short b.actions (gather (λ (d : Block). d.actions) bs) (standing_short k) (coded-short r)
