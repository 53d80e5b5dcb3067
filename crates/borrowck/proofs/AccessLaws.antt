-- The accesses of an action. Assumes nothing.
use mathlib.Core.Path.{◌≡◌, refl, sym, ap, subst, ◌∙◌}
use mathlib.Core.Logic.{◌⊎◌, inl, inr}
use mathlib.Core.List.{List, [], ◌∷◌, ◌++◌, map, map-append, append_assoc, append-nil}
use Prim.Native.Nat.{ℕ, ◌+◌, ◌-◌, ◌≤◌, ◌<◌, min}
use native.Mathlib.Omega.{arith}
use native.Mathlib.Nat.{sub-zero}
use lib.ListN.{length, length-map, length-set, set, take, drop}
use lib.Seq.{length-take-le}
use Rattle.std.proofs.lemmas.List.{take_more_set}
use Rattle.nll_spec.specs.Syntax.{Path}
use Rattle.nll_spec.specs.Syntax as syntax
use Rattle.nll_spec.specs.Decode.{read, done, items, path}
use Rattle.nll_spec.specs.Access.{Access, Read, Write, MutBorrow, Move, Dead, accesses, intersects, freezes, conflicts}
use Rattle.repr.specs.Reading.{rest, path_of, says}
use Rattle.repr.specs.Parts.{action_says}
use Rattle.repr.specs.declared.Cursor.{Cursor}
use Rattle.repr.specs.declared.RegionName.{RegionName}
use Rattle.repr.specs.declared.Variable.{Variable}
use Rattle.repr.specs.declared.BorrowKind.{BorrowKind}
use Rattle.repr.specs.declared.BorrowKind.TheVariants as kinds
use Rattle.repr.specs.declared.Path as repr
use Rattle.repr.specs.declared.refusal.Refusal.{Refusal}
use Rattle.std.specs.Prelude.{Result, Ok, Err}
use Rattle.repr.specs.declared.Action.{Action}
use Rattle.repr.specs.declared.Action.TheVariants as action
use Rattle.repr.proofs.ItemLaws.{FirstOf, first_of, none_of, items-length}
use Rattle.repr.proofs.ReadLaws.{told}
use Rattle.repr.proofs.SpellLaws.{clash, carry, then}
use Rattle.borrowck.specs.Accesses.{reading, writing, borrowing, moving, dying, lending, Means, accesses_in, Mean, none, more, WithSources, AccessesOf}
use Rattle.borrowck.specs.declared.Access as own
use Rattle.borrowck.specs.declared.accesses.Accesses.{Accesses}

-- ---- One access

module _ (s : List ℕ) where
  means-read : (q : repr.Path) → Means s (reading q) (Read (path_of s q))
  unfolding conflicts intersects
  means-read q = record { same = λ j loan. refl; kind = refl }

  means-write : (q : repr.Path) → Means s (writing q) (Write (path_of s q))
  unfolding conflicts freezes
  means-write q = record { same = λ j loan. refl; kind = refl }

  means-borrow : (q : repr.Path) → Means s (borrowing q) (MutBorrow (path_of s q))
  unfolding conflicts intersects
  means-borrow q = record { same = λ j loan. refl; kind = refl }

  means_move : (q : repr.Path) → Means s (moving q) (Move (path_of s q))
  unfolding conflicts intersects
  means_move q = record { same = λ j loan. refl; kind = refl }

  means_dead : (v : Variable) → Means s (dying v) (Dead (record { base = v.0; steps = [] }))
  unfolding conflicts freezes
  means_dead v = record { same = λ j loan. refl; kind = refl }

-- one access more
mean_more : {s : List ℕ} {xs : List own.Access} {bs : List Access} {x : own.Access} {b : Access} → Mean s xs bs → Means s x b → Mean s (xs ++ x ∷ []) (bs ++ b ∷ [])
mean_more none m = more m none
mean_more (more v w) m = more v (mean_more w m)

-- ---- The sources of an Init

module _ (s : List ℕ) (x : own.Access) where
  -- Of these paths some are gathered and the others are left to read: so many, from a place on.
  pub record Others (qs : List Path) (at left n : ℕ) (list : List own.Access) : Type 0 where
    pub done : List Path
    pub others : List Path
    pub over : List ℕ
    pub whole : qs ≡ done ++ others
    pub reads : items left path (drop at s) ≡ read others over
    pub mean : (a : Access) → Means s x a → Mean s (take n list) (a ∷ map Read done)

  -- What the loop keeps, i of the sources gathered.
  pub record Sourcing (from many at i : ℕ) (list : List own.Access) : Type 0 where
    pub size : length list ≡ 9
    pub goes : (qs : List Path) (over : List ℕ) → items many path (drop from s) ≡ read qs over → Others qs at (many - i) (i + 1) list

module _ {s : List ℕ} {x : own.Access} {from many : ℕ} where
  pub sourcing_all : {list : List own.Access} → length list ≡ 9 → take 1 list ≡ x ∷ [] → Sourcing s x from many from 0 list
  sourcing_all {list} l e = record {
    size = l;
    goes = λ qs over i. record { done = []; others = qs; over = over; whole = refl; reads = rw (sub-zero many) i; mean = λ a m. subst (λ (xs : List own.Access). Mean s xs (a ∷ [])) (sym e) (more m none) };
  }

  module _ {at n : ℕ} {list : List own.Access} (g : Sourcing s x from many at n list) (few : n ≤ 8) where
    all : length (take (n + 1) list) ≡ n + 1
    all = length-take-le (n + 1) list (omega (arith, g.size, few))

    module _ {d : repr.Path} (o : x ≡ writing d) where
      pub sources_end : {m : ℕ} {room : m + 1 ≤ 9} → m ≡ n → m ≡ min many 8 → WithSources s d from many (record { list = list; count = m + 1; room = room })
      sources_end {m} {room} k z = record {
        all = length-take-le (m + 1) list (omega (arith, g.size, room));
        says = λ qs over e l.
            let w = g.goes qs over e in
            let i : qs ≡ w.done = w.whole ∙ ap (λ (ys : List Path). w.done ++ ys) (none_of path (many - n) (drop at s) (omega (arith, k, z)) w.reads).0 ∙ append-nil w.done in
            let x : Mean s (take (m + 1) list) (Write (path_of s d) ∷ map Read qs) = rw (k, i) (w.mean (Write (path_of s d)) (rw o (means-write s d))) in
            x;
      }

    module _ (z : n < many) {v : Result (repr.Path × Cursor) Refusal} (m : says (path_of s) s v ≡ path (drop at s)) where
      pub sources_refused : {k : Refusal} {d : repr.Path} {room : n + 1 ≤ 9} → v ≡ Err k → WithSources s d from many (record { list = list; count = n + 1; room = room })
      sources_refused i = record {
        all = all;
        says = λ qs over e l. let w = g.goes qs over e in let f = first_of path (many - n) (drop at s) (λ h. omega arith) w.reads in absurd (clash (sym (told (says (path_of s) s) m i) ∙ f.first));
      }

      module _ {q : repr.Path} {next : Cursor} (i : v ≡ Ok (q, next)) {y : own.Access} (e : y ≡ reading q) where
        -- the path that is read, as the first of those that are left
        split : {qs : List Path} {over : List ℕ} (f : FirstOf path (many - n) (drop at s) qs over) → (qs ≡ path_of s q ∷ f.others) × (items (many - n - 1) path (rest s next) ≡ read f.others over)
        split {qs} {over} f = carry (λ x o. (qs ≡ x ∷ f.others) × (items (many - n - 1) path o ≡ read f.others over)) (sym f.first ∙ told (says (path_of s) s) m i) (f.same, f.reads)

        grown : n < 8 → take (n + 1 + 1) (set list (n + 1) y) ≡ take (n + 1) list ++ y ∷ []
        grown l = take_more_set list (n + 1) y (omega (arith, g.size))

        pub sourcing_more : n < 8 → Sourcing s x from many next.at (n + 1) (set list (n + 1) y)
        sourcing_more l = record {
          size = length-set list (n + 1) y ∙ g.size;
          goes = λ qs over k.
              let w = g.goes qs over k in
              let f = first_of path (many - n) (drop at s) (λ h. omega arith) w.reads in
              record {
                done = w.done ++ path_of s q ∷ [];
                others = f.others;
                over = w.over;
                whole = w.whole ∙ ap (λ (ys : List Path). w.done ++ ys) (split f).0 ∙ sym (append_assoc w.done (path_of s q ∷ []) f.others);
                reads = let b : many - (n + 1) ≡ many - n - 1 = omega arith in rw b (split f).1;
                mean = λ a o. rw (grown l, map-append Read w.done (path_of s q ∷ [])) (mean_more (w.mean a o) (rw e (means-read s q)));
              };
        }

-- ---- An action

module _ {s : List ℕ} {c : Cursor} {r : Accesses} where
  -- its accesses, as it is read
  as_read : {a : Action} {x : syntax.Action} {over : List ℕ} → action_says s (Ok (a, c)) ≡ read x over → length (accesses_in r) ≡ r.count → Mean s (accesses_in r) (accesses x) → AccessesOf s a c r
  as_read e l w = record { all = l; says = λ y over i o. carry (λ z o. Mean s (accesses_in r) (accesses z)) (sym e ∙ i) w }

  pub action_idle : {a : Action} → (a ≡ action.Noop) ⊎ ((sup : RegionName) × (sub : RegionName) × (a ≡ action.Constraint sup sub)) → (r.count ≡ 0) × (accesses_in r ≡ []) → AccessesOf s a c r
  unfolding accesses
  action_idle (inl e) w = rw e (as_read refl (ap length w.1 ∙ sym w.0) (rw w.1 none))
  action_idle (inr (sup, sub, e)) w = rw e (as_read refl (ap length w.1 ∙ sym w.0) (rw w.1 none))

  module _ {a : Action} where
    module _ {x : own.Access} (w : (r.count ≡ 1) × (accesses_in r ≡ x ∷ [])) where
      single : {y : syntax.Action} {b : Access} {over : List ℕ} → action_says s (Ok (a, c)) ≡ read y over → accesses y ≡ b ∷ [] → Means s x b → AccessesOf s a c r
      single e k m = as_read e (ap length w.1 ∙ sym w.0) (rw (w.1, k) (more m none))

      pub action_use : {q : repr.Path} → a ≡ action.Use q → x ≡ reading q → AccessesOf s a c r
      unfolding accesses
      action_use {q} e i = single (ap (λ (b : Action). action_says s (Ok (b, c))) e) refl (rw i (means-read s q))

      pub action-drop : {q : repr.Path} → a ≡ action.Drop q → x ≡ moving q → AccessesOf s a c r
      unfolding accesses
      action-drop {q} e i = single (ap (λ (b : Action). action_says s (Ok (b, c))) e) refl (rw i (means_move s q))

      pub action_dead : {v : Variable} → a ≡ action.StorageDead v → x ≡ dying v → AccessesOf s a c r
      unfolding accesses
      action_dead {v} e i = single (ap (λ (b : Action). action_says s (Ok (b, c))) e) refl (rw i (means_dead s v))

    module _ {x y : own.Access} (w : (r.count ≡ 2) × (accesses_in r ≡ x ∷ y ∷ [])) {d : repr.Path} (i : x ≡ writing d) where
      pair : {z : syntax.Action} {b : Access} {over : List ℕ} → action_says s (Ok (a, c)) ≡ read z over → accesses z ≡ Write (path_of s d) ∷ b ∷ [] → Means s y b → AccessesOf s a c r
      pair e k m = as_read e (ap length w.1 ∙ sym w.0) (rw (w.1, k) (more {x = x} {a = Write (path_of s d)} (rw i (means-write s d)) (more m none)))

      pub action_assign : {q : repr.Path} → a ≡ action.Assign d q → y ≡ reading q → AccessesOf s a c r
      unfolding accesses
      action_assign {q} e k = pair (ap (λ (b : Action). action_says s (Ok (b, c))) e) refl (rw k (means-read s q))

      pub action-borrow : {q : repr.Path} {region : RegionName} {k : BorrowKind} → a ≡ action.Borrow d region k q → y ≡ lending k q → AccessesOf s a c r
      unfolding accesses
      action-borrow {q} {region} {k} e o = go k e o
        where
          go : (l : BorrowKind) → a ≡ action.Borrow d region l q → y ≡ lending l q → AccessesOf s a c r
          go kinds.Mut u v = pair (ap (λ (b : Action). action_says s (Ok (b, c))) u) refl (rw v (means-borrow s q))
          go kinds.Shared u v = pair (ap (λ (b : Action). action_says s (Ok (b, c))) u) refl (rw v (means-read s q))

    pub action_init : {d : repr.Path} {n : ℕ} → a ≡ action.Init d n → WithSources s d c.at n r → AccessesOf s a c r
    unfolding accesses done
    action_init {d} {n} e w = rw e (record {
      all = w.all;
      says = λ x over i l.
          let y = then (items n path) _ (rest s c) i in
          let k = items-length path n (rest s c) y.first in
          let o = length-map y.got Read in
          carry (λ z o. length (accesses z) ≤ 9 → Mean s (accesses_in r) (accesses z)) y.last (λ h. w.says y.got y.mid y.first (omega (arith, k, o, h))) l;
    })
