-- An action of a job that was read has at most 9 accesses. Assumes nothing.
use mathlib.Core.Path.{◌≡◌, sym, subst}
use mathlib.Core.Bool.{Bool}
use mathlib.Core.List.{List, [], ◌∷◌}
use Prim.Native.Nat.{ℕ, zero, suc, ◌≤◌}
use native.Mathlib.Omega.{arith}
use lib.ListN.{length, length-map}
use lib.Dec.{T, leb, leb→le}
use borrow.Author.Tests.{le-leb}
use Rattle.nll_spec.specs.Lists.{every, gather}
use Rattle.nll_spec.specs.Syntax.{Point, Path, BorrowKind, Mut, Shared, Action, Noop, Init, Borrow, Assign, Constraint, Use, Drop, StorageDead, Block, Job}
use Rattle.nll_spec.specs.Decode.{read, done, refuse, ◌>>=◌, byte, count, pick, one_of, counted, borrow_kind, path, action, max_sources}
use Rattle.nll_spec.specs.Graph.{graph_of, statements_of, action_at}
use Rattle.nll_spec.specs.Access.{Read, accesses}
use Rattle.nll_spec.proofs.Tests.{and_intro}
use Rattle.nll_spec.proofs.Lookup.{every_append}
use Rattle.nll_spec.proofs.GraphLaws.{every-action}
use Rattle.record.specs.Rows.{Standing}
use Rattle.record.specs.Rows as rows
use Rattle.record.specs.Blocks.{Coded}
use Rattle.record.specs.Blocks as blocks
use Rattle.record.specs.Layout.{Layout}
use Rattle.record.specs.declared.Head.{Head}
use Rattle.record.specs.declared.Offsets.{Offsets}
use Rattle.record.proofs.LayoutLaws.{count_most}
use Rattle.repr.proofs.SpellLaws.{clash, carry, then}
use Rattle.repr.proofs.ItemLaws.{items-length}

abbrev few : Action → Bool
few a = leb (length (accesses a)) 9

borrow-few : (d q : Path) (r : ℕ) (k : BorrowKind) → T (few (Borrow d r k q))
unfolding accesses
borrow-few d q r Mut = tt
borrow-few d q r Shared = tt

action-few : (bs : List ℕ) {a : Action} {over : List ℕ} → action bs ≡ read a over → T (few a)
unfolding action one_of pick done refuse counted accesses
action-few bs {a} {over} e = let w = then byte _ bs e in go w.got w.mid w.last
  where
    go : (tag : ℕ) (mid : List ℕ)
        → pick
        (done Noop
        ∷ (do p ← path; qs ← counted max_sources path; done (Init p qs))
        ∷ (do p ← path; r ← byte; k ← borrow_kind; q ← path; done (Borrow p r k q))
        ∷ (do p ← path; q ← path; done (Assign p q))
        ∷ (do sup ← byte; sub ← byte; done (Constraint sup sub))
        ∷ (do p ← path; done (Use p))
        ∷ (do p ← path; done (Drop p))
        ∷ (do v ← byte; done (StorageDead v))
        ∷ [])
        tag
        mid
        ≡ read a over
        → T (few a)
    go zero mid e = carry (λ x o. T (few x)) e tt
    go (suc zero) mid e =
        let p = then path _ mid e in
        let qs = then (counted max_sources path) _ p.mid p.last in
        let n = then (count 0 max_sources) _ p.mid qs.first in
        let l = items-length path n.got n.mid n.last in
        let m = count_most 0 max_sources p.mid n.first in
        let o = length-map qs.got Read in
        carry (λ x o. T (few x)) qs.last (subst T (sym (le-leb (length (accesses (Init p.got qs.got))) 9 (omega (arith, l, m, o)))) tt)
    go (suc (suc zero)) mid e =
        let p = then path _ mid e in
        let r = then byte _ p.mid p.last in
        let k = then borrow_kind _ r.mid r.last in
        let q = then path _ k.mid k.last in
        carry (λ x o. T (few x)) q.last (borrow-few p.got q.got r.got k.got)
    go (suc (suc (suc zero))) mid e =
        let p = then path _ mid e in
        let q = then path _ p.mid p.last in
        carry (λ x o. T (few x)) q.last tt
    go (suc (suc (suc (suc zero)))) mid e =
        let p = then byte _ mid e in
        let q = then byte _ p.mid p.last in
        carry (λ x o. T (few x)) q.last tt
    go (suc (suc (suc (suc (suc zero))))) mid e = let p = then path _ mid e in carry (λ x o. T (few x)) p.last tt
    go (suc (suc (suc (suc (suc (suc zero)))))) mid e = let p = then path _ mid e in carry (λ x o. T (few x)) p.last tt
    go (suc (suc (suc (suc (suc (suc (suc zero))))))) mid e = let p = then byte _ mid e in carry (λ x o. T (few x)) p.last tt
    go (suc (suc (suc (suc (suc (suc (suc (suc n)))))))) mid e = absurd (clash e)

standing_few : {s os : List ℕ} {xs : List Action} → Standing action s os xs → T (every few xs)
standing_few rows.none = tt
standing_few {xs = x ∷ xs} (rows.more k r) = and_intro (few x) (every few xs) (action-few _ k.reads) (standing_few r)

coded-few : {s es : List ℕ} {bs : List Block} → Coded s es bs → T (every few (gather (λ b. b.actions) bs))
coded-few blocks.none = tt
coded-few {bs = b ∷ bs} (blocks.more k r) = every_append few b.actions (gather (λ (d : Block). d.actions) bs) (standing_few k) (coded-few r)

pub few-at : {s : List ℕ} {t : Offsets} {h : Head} {j : Job} → Layout s t h j → (p : Point) → length (accesses (action_at (graph_of j) p)) ≤ 9
unfolding graph_of statements_of accesses
few-at {j = j} w p = leb→le (length (accesses (action_at (graph_of j) p))) 9 (every-action few j.blocks 0 0 j.blocks tt (coded-few w.blocks.coded) p)
