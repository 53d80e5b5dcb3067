-- An action that is read: its tag, and its parts where they stand. Assumes nothing.
use mathlib.Core.Path.{◌≡◌}
use mathlib.Core.List.{List, [], ◌∷◌}
use Prim.Native.Nat.{ℕ, zero, suc}
use Rattle.nll_spec.specs.Syntax.{Path, RegionName, BorrowKind, Variable, Action, Noop, Init, Borrow, Assign, Constraint, Use, Drop, StorageDead}
use Rattle.nll_spec.specs.Decode.{read, done, refuse, ◌>>=◌, byte, pick, one_of, counted, borrow_kind, path, action, max_sources}
use Rattle.repr.specs.Stands.{Stands}
use Rattle.repr.proofs.SpellLaws.{clash, carry, then}

-- An action with this tag, whose paths stand in some bytes.
pub data ActionParts : ℕ → Action → Type 0 where
  noop : ActionParts 0 Noop
  init : {p : Path} {qs : List Path} {bs cs : List ℕ} → Stands path p bs → Stands (counted max_sources path) qs cs → ActionParts 1 (Init p qs)
  borrowed : {p q : Path} {r : RegionName} {k : BorrowKind} {bs cs : List ℕ} → Stands path p bs → Stands path q cs → ActionParts 2 (Borrow p r k q)
  assigned : {p q : Path} {bs cs : List ℕ} → Stands path p bs → Stands path q cs → ActionParts 3 (Assign p q)
  constraint : {sup sub : RegionName} → ActionParts 4 (Constraint sup sub)
  used : {p : Path} {bs : List ℕ} → Stands path p bs → ActionParts 5 (Use p)
  dropped : {p : Path} {bs : List ℕ} → Stands path p bs → ActionParts 6 (Drop p)
  dead : {v : Variable} → ActionParts 7 (StorageDead v)

-- The bytes begin with the tag, and the action has the parts of that tag.
pub record ActionRead (bs : List ℕ) (a : Action) : Type 0 where
  pub tag : ℕ
  pub first : Stands byte tag bs
  pub parts : ActionParts tag a

pub action-read : (bs : List ℕ) {a : Action} {over : List ℕ} → action bs ≡ read a over → ActionRead bs a
unfolding action one_of pick done refuse
action-read bs {a} {over} e = let w = then byte _ bs e in record { tag = w.got; first = record { over = w.mid; reads = w.first }; parts = go w.got w.mid w.last }
  where
    go : (tag : ℕ) (mid : List ℕ)
        → pick
        (done Noop
        ∷ (do p ← path; qs ← counted max_sources path; done (Init p qs))
        ∷ (do p ← path; r ← byte; k ← borrow_kind; q ← path; done (Borrow p r k q))
        ∷ (do p ← path; q ← path; done (Assign p q))
        ∷ (do sup ← byte; sub ← byte; done (Constraint sup sub))
        ∷ (do p ← path; done (Use p))
        ∷ (do p ← path; done (Drop p))
        ∷ (do v ← byte; done (StorageDead v))
        ∷ [])
        tag
        mid
        ≡ read a over
        → ActionParts tag a
    go zero mid e = carry (λ x o. ActionParts 0 x) e noop
    go (suc zero) mid e =
        let p = then path _ mid e in
        let qs = then (counted max_sources path) _ p.mid p.last in
        carry (λ x o. ActionParts 1 x) qs.last (init (record { over = p.mid; reads = p.first }) (record { over = qs.mid; reads = qs.first }))
    go (suc (suc zero)) mid e =
        let p = then path _ mid e in
        let r = then byte _ p.mid p.last in
        let k = then borrow_kind _ r.mid r.last in
        let q = then path _ k.mid k.last in
        carry (λ x o. ActionParts 2 x) q.last (borrowed (record { over = p.mid; reads = p.first }) (record { over = q.mid; reads = q.first }))
    go (suc (suc (suc zero))) mid e =
        let p = then path _ mid e in
        let q = then path _ p.mid p.last in
        carry (λ x o. ActionParts 3 x) q.last (assigned (record { over = p.mid; reads = p.first }) (record { over = q.mid; reads = q.first }))
    go (suc (suc (suc (suc zero)))) mid e = let p = then byte _ mid e in let q = then byte _ p.mid p.last in carry (λ x o. ActionParts 4 x) q.last constraint
    go (suc (suc (suc (suc (suc zero))))) mid e = let p = then path _ mid e in carry (λ x o. ActionParts 5 x) p.last (used (record { over = p.mid; reads = p.first }))
    go (suc (suc (suc (suc (suc (suc zero)))))) mid e = let p = then path _ mid e in carry (λ x o. ActionParts 6 x) p.last (dropped (record { over = p.mid; reads = p.first }))
    go (suc (suc (suc (suc (suc (suc (suc zero))))))) mid e = let p = then byte _ mid e in carry (λ x o. ActionParts 7 x) p.last dead
    go (suc (suc (suc (suc (suc (suc (suc (suc n)))))))) mid e = absurd (clash e)
