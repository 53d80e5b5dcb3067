-- The constraints of an action: of a borrow, of an assignment, and of any other. Assumes nothing.
use lib.ListN.{length, get_or, take}
use mathlib.Core.Path.{◌≡◌, refl, sym, ap, ◌∙◌, subst}
use mathlib.Core.List.{List, [], ◌++◌, append-nil}
use Prim.Native.Nat.{ℕ, zero, suc, ◌+◌, ◌-◌, min, ◌≤◌, ◌<◌}
use native.Mathlib.Omega.{arith}
use native.Mathlib.Numerals.{add-one}
use lib.Dec.{T}
use Rattle.nll_spec.specs.Syntax as syntax
use Rattle.nll_spec.specs.Syntax.{Job, Point, Free, RefTy, Co, Contra}
use Rattle.nll_spec.specs.Decode.{read, done, items, path, code_count}
use Rattle.nll_spec.specs.WellFormed.{shape_fits, refusal}
use Rattle.nll_spec.specs.Graph.{graph_of, action_at}
use Rattle.nll_spec.specs.Constraints.{Outlives, require_outlives, relate_source, constraints_at}
use Rattle.nll_spec.proofs.AcceptedLaws.{accepted-job}
use Rattle.nll_spec.proofs.GraphLaws.{code-count}
use Rattle.repr.specs.Reading.{rest, path_of, borrow_kind_of}
use Rattle.repr.specs.Parts.{action_read}
use Rattle.repr.specs.declared.Cursor.{Cursor}
use Rattle.repr.specs.declared.Path.{Path}
use Rattle.repr.specs.declared.RegionName.{RegionName}
use Rattle.repr.specs.declared.BorrowKind.{BorrowKind}
use Rattle.repr.specs.declared.Action.{Action}
use Rattle.repr.specs.declared.Action.TheVariants as actions
use Rattle.record.specs.Layout.{Layout, Holds}
use Rattle.record.specs.declared.Head.{Head}
use Rattle.record.specs.Access.{Acts}
use Rattle.record.specs.declared.Record.{Record}
use Rattle.record.specs.declared.Offsets.{Offsets}
use Rattle.repr.proofs.SpellLaws.{clash, carry, then}
use Rattle.std.proofs.lemmas.List.{get_or-map, length-map, length-take, get_or-take, get_or_past}
use Rattle.env.specs.Steps.{kind_in, kinds_of, name_in, names_of}
use Rattle.env.specs.declared.Step.{Step}
use Rattle.env.specs.declared.Step.TheVariants.{Owned}
use Rattle.env.specs.Prefixes.{ShortestIn}
use Rattle.env.specs.Paths.{PathType, PathResult, PathSays}
use Rattle.env.specs.declared.paths.Found.TheVariants as found
use Rattle.env.proofs.PathLaws.{stepless}
use Rattle.env.proofs.PrefixLaws.{shortest-of}
use Rattle.env.proofs.ShortestLaws.{taken-leaves}
use Rattle.constraint_list.specs.Listed.{Adds}
use Rattle.constraint_list.proofs.ListLaws.{adds_none, adds-append}
use Rattle.constraints.specs.Constraining.{constraints_of, step_constraints, source_constraints, Takes, SourceIs, SourceSays, PlaceSays, first, second, along_source, TypesAdd, PathsAdd, PairAdds, Constrains}
use Rattle.constraints.specs.declared.Source.{Source}
use Rattle.constraints.specs.declared.Place.{Place}
use Rattle.constraints.specs.declared.Pair.{Pair}
use Rattle.constraints.specs.declared.Related.{Related}
use Rattle.constraints.specs.declared.Related.TheVariants.{Assigned, Borrowed}
use Rattle.constraints.proofs.ListLaws.{gather-below}
use Rattle.constraints.proofs.ActionLaws.{assign_takes, borrow-takes}
use Rattle.constraints.proofs.SourceLaws.{source-same}
use Rattle.repr.specs.declared.refusal.Refusal.{Refusal}
use Rattle.std.specs.Prelude.{Result, Ok, Err, Option, Some, None}

-- ---- A step of a borrow's source

adds_as : {cs ds : List Outlives} {ls ls' : List ℕ} → cs ≡ ds → Adds cs ls ls' → Adds ds ls ls'
adds_as {ls = ls} {ls' = ls'} e x = subst (λ (cs : List Outlives). Adds cs ls ls') e x

module _ (at : Point) (taken : List Step) (shortest r : ℕ) where
  abbrev made : ℕ → List Outlives
  made = source_constraints at (kinds_of taken) (names_of taken) shortest r

  abbrev step_made : ℕ → List Outlives
  step_made = step_constraints at (kinds_of taken) (names_of taken) shortest r

  pub source_more : {ls ls₁ ls₂ : List ℕ} (n i : ℕ) → i < length (take n taken) → Adds (made i) ls ls₁
      → (let step = get_or (take n taken) i Owned in Adds (constraints_of at (kind_in step) (name_in step) shortest r i) ls₁ ls₂) → Adds (made (i + 1)) ls ls₂
  source_more {ls} {ls₁} {ls₂} n i l x y =
      let z : length (take n taken) ≡ min n (length taken) = length-take n taken in
      let b : (i < n) × (i < length taken) = (omega arith, omega arith) in
      let k = get_or-map kind_in taken i Owned 0 b.1 in
      let m = get_or-map name_in taken i Owned 0 b.1 in
      let w : Adds (step_made i) ls₁ ls₂ = rw (k, m, ← get_or-take n taken i Owned b.0) y in
      adds_as (sym (gather-below step_made i)) (adds-append x w)

  -- a step past those that there are makes nothing
  step_none : (i : ℕ) → length taken ≤ i → step_made i ≡ []
  step_none i l = rw (get_or_past (kinds_of taken) i 0 (rw (length-map taken kind_in) l)) refl

  past : {ls ls' : List ℕ} (n i : ℕ) → ((k : ℕ) → i ≤ k → k < i + n → length taken ≤ k) → Adds (made i) ls ls' → Adds (made (i + n)) ls ls'
  past zero i l x = adds_as (ap made (omega arith)) x
  past (suc n) i l x =
      adds_as (sym (gather-below step_made (i + n)) ∙ ap made (omega arith)) (adds-append (past n i (λ k a b. l k a (omega arith)) x) (adds_none (step_none (i + n) (l (i + n) (omega arith) (omega arith)))))

  pub source_all : {ls ls' : List ℕ} (n steps i : ℕ) → n ≡ min steps 8 → length taken ≡ 8 → length (take n taken) ≤ i → i ≤ length (take n taken) → Adds (made i) ls ls' → Adds (made steps) ls ls'
  source_all n steps i e size l m x =
      let z : length (take n taken) ≡ min n 8 = length-take n taken ∙ ap (min n) size in
      let o : i ≤ steps = omega arith in
      adds_as (ap made (omega arith)) (past (steps - i) i (λ k a b. omega arith) x)

-- ---- Two types, where they stand

module _ {input : Record} {p : Path} {out kinds names : List ℕ} {d : Option PathType} (v : PathSays input p out kinds names d) (j : Job) (l : Holds input j) (w : Takes input.bytes.now j p) where
  result : {x : Option PathType} → d ≡ x → PathResult j (path_of input.bytes.now p) input.bytes.now out kinds names x
  result e = subst (λ (x : Option PathType). PathResult j (path_of input.bytes.now p) input.bytes.now out kinds names x) e (v.says j l w.named)

module _ {pair : Pair} {a b k n kinds names : List ℕ} {d e : Option PathType} (u : PathSays pair.input.now pair.p a k n d) (v : PathSays pair.input.now pair.q b kinds names e) where
  pub paths_add : {f g : PathType} {x y : Place} {ls ls' : List ℕ} → d ≡ Some f → e ≡ Some g → PlaceSays pair.input.now.bytes.now a f x → PlaceSays pair.input.now.bytes.now b g y → TypesAdd pair x y ls ls' → PathsAdd pair ls ls'
  paths_add f g p q t = record {
    adds = λ j l wp wq kind z.
        let r = p.says _ _ _ _ (result u j l wp f) in
        let o = q.says _ _ _ _ (result v j l wq g) in
        t.adds j l _ _ kind r.stands o.stands r.few o.few z;
  }

-- ---- An assignment and a borrow

then_none : (cs : List Outlives) {ds : List Outlives} → ds ≡ [] → cs ++ ds ≡ cs
then_none cs e = ap (λ (ds : List Outlives). cs ++ ds) e ∙ append-nil cs

-- what the steps of a source make, if there is one
abbrev source_made : Point → List ℕ → List ℕ → Option Source → List Outlives
source_made at kinds names (Some of) = source_constraints at kinds names of.supporting of.region.0 of.steps
source_made at kinds names None = []

no_steps : (how : Related) (at : Point) (j : Job) (q : syntax.Path) → q.steps ≡ [] → along_source how at j q ≡ []
unfolding relate_source
no_steps Assigned at j q e = refl
no_steps (Borrowed r) at j q e = rw e

module _ {input : Record} {q : Path} {b kinds names : List ℕ} {d : Option PathType} (v : PathSays input q b kinds names d) (at : Point) (j : Job) (l : Holds input j) (accepted : refusal j ≡ 0) (w : Takes input.bytes.now j q) where
  along : (how : Related) (r : Option Source) → SourceIs input.bytes.now q how kinds r → source_made at kinds names r ≡ along_source how at j (path_of input.bytes.now q)
  along Assigned r u = ap (source_made at kinds names) u
  along (Borrowed m) None u = absurd u
  along (Borrowed m) (Some of) u =
      let leaves = taken-leaves j (path_of input.bytes.now q) input.bytes.now b d w.fits (v.says j l w.named) in
      let o = shortest-of j (path_of input.bytes.now q) leaves v.sizes.0 w.short (subst (λ (n : ℕ). ShortestIn kinds n u.of) u.steps u.shortest) in
      ap (λ (n : ℕ). source_constraints at kinds names n of.region.0 of.steps) u.supporting
      ∙ ap (λ (n : RegionName). source_constraints at kinds names u.of.supporting n.0 of.steps) u.same
      ∙ ap (source_constraints at kinds names u.of.supporting m.0) u.steps
      ∙ source-same j accepted (path_of input.bytes.now q) leaves w.short o at m.0

-- the type stands in the record
stays : {s out : List ℕ} {x : Place} → x.bytes.now ≡ s → PlaceSays s out (found.Inside x.at) x
stays e = record { says = λ j p k n r. rw e r }

module _ {pair : Pair} {ls : List ℕ} where
  pub pair_stepless : (x y : Place) {ls' : List ℕ} → (pair.p.steps ≡ 0) × (pair.q.steps ≡ 0)
      → (x.bytes.now ≡ pair.input.now.bytes.now) × (x.at.at ≡ get_or pair.input.now.layout.now.variables pair.p.base.0 0)
      → (y.bytes.now ≡ pair.input.now.bytes.now) × (y.at.at ≡ get_or pair.input.now.layout.now.variables pair.q.base.0 0)
      → TypesAdd pair x y ls ls' → PairAdds pair ls ls'
  pair_stepless x y z vp vq u =
      record {
        adds = λ j l accepted wp wq k same.
            adds_as (sym (then_none _ (no_steps pair.how pair.at j (second pair) (rw z.1))))
            ((paths_add (stepless pair.p x.at z.0 vp.1) (stepless pair.q y.at z.1 vq.1) refl refl (stays vp.0) (stays vq.0) u).adds j l wp wq k same);
      }

  pair_made : {b kinds names : List ℕ} {d : Option PathType} {ls₁ ls₂ : List ℕ} {r x : Option Source} → PathSays pair.input.now pair.q b kinds names d
      → PathsAdd pair ls ls₁
      → SourceSays pair kinds r → r ≡ x → Adds (source_made pair.at kinds names x) ls₁ ls₂
      → PairAdds pair ls ls₂
  pair_made {kinds = kinds} {names = names} {r = r} v u o e src = record { adds = λ j l accepted wp wq k z. adds-append (u.adds j l wp wq k z) (adds_as (ap (source_made pair.at kinds names) (sym e) ∙ along v pair.at j l accepted wq pair.how r o.says) src) }

  pub pair_adds : {b kinds names : List ℕ} {d : Option PathType} {ls₁ ls₂ : List ℕ} {r : Option Source} {of : Source} → PathSays pair.input.now pair.q b kinds names d
      → PathsAdd pair ls ls₁
      → SourceSays pair kinds r → r ≡ Some of → Adds (source_constraints pair.at kinds names of.supporting of.region.0 of.steps) ls₁ ls₂
      → PairAdds pair ls ls₂
  pair_adds v u o e src = pair_made v u o e src

  pub pair_sourceless : {b kinds names : List ℕ} {d : Option PathType} {ls₁ : List ℕ} {r : Option Source} → PathSays pair.input.now pair.q b kinds names d
      → PathsAdd pair ls ls₁
      → SourceSays pair kinds r → r ≡ None → PairAdds pair ls ls₁
  pair_sourceless v u o e = pair_made v u o e (adds_none refl)

-- ---- An action

module _ {input : Record} {at : Point} {ls : List ℕ} where
  pub point_far : 1024 < at → Constrains input at ls ls
  point_far f = record { adds = λ j l accepted h. absurd (omega (arith, f, h, code-count j, l.few)) }

module _ {s : List ℕ} {t : Offsets} {h : Head} {at p : Point} {r : Result (Action × Cursor) Refusal} (same : p ≡ at) (act : (j : Job) → Layout s t h j → p < code_count j.blocks → Acts s (action_at (graph_of j) p) r) (j : Job) (l : Layout s t h j) (k : at < (graph_of j).code) where
  acts : {x : Result (Action × Cursor) Refusal} → r ≡ x → Acts s (action_at (graph_of j) at) x
  acts e =
      subst (λ (x : Result (Action × Cursor) Refusal). Acts s (action_at (graph_of j) at) x) e
      (subst (λ (n : Point). Acts s (action_at (graph_of j) n) r) same (act j l (omega (arith, same, k, code-count j))))

  is : {a x : Action} {c : Cursor} → r ≡ Ok (a, c) → a ≡ x → Acts s (action_at (graph_of j) at) (Ok (x, c))
  is {c = c} e i = subst (λ (x : Action). Acts s (action_at (graph_of j) at) (Ok (x, c))) i (acts e)

-- what any other action makes
none_made : (s : List ℕ) (c : Cursor) (j : Job) (p : Point) (b : Action) → ((d : Path) (m : RegionName) (k : BorrowKind) (q : Path) → b ≡ actions.Borrow d m k q → ⊥) → ((d q : Path) → b ≡ actions.Assign d q → ⊥) → ((m n : RegionName) → b ≡ actions.Constraint m n → ⊥) → {x : syntax.Action} {over : List ℕ} → action_read s b c ≡ read x over
    → constraints_at j p x ≡ []
unfolding constraints_at done
none_made s c j p actions.Noop o u v i = carry (λ y z. constraints_at j p y ≡ []) i refl
none_made s c j p (actions.Init d n) o u v i = let w = then (items n path) _ (rest s c) i in carry (λ y z. constraints_at j p y ≡ []) w.last refl
none_made s c j p (actions.Borrow d m k q) o u v i = absurd (o d m k q refl)
none_made s c j p (actions.Assign d q) o u v i = absurd (u d q refl)
none_made s c j p (actions.Constraint m n) o u v i = absurd (v m n refl)
none_made s c j p (actions.Use q) o u v i = carry (λ y z. constraints_at j p y ≡ []) i refl
none_made s c j p (actions.Drop q) o u v i = carry (λ y z. constraints_at j p y ≡ []) i refl
none_made s c j p (actions.StorageDead w) o u v i = carry (λ y z. constraints_at j p y ≡ []) i refl

module _ {input : Record} {at p : Point} {ls : List ℕ} {r : Result (Action × Cursor) Refusal} (same : p ≡ at) (act : (j : Job) → Holds input j → p < code_count j.blocks → Acts input.bytes.now (action_at (graph_of j) p) r) where
  pub action-refused : {k : Refusal} → r ≡ Err k → Constrains input at ls ls
  action-refused e = record { adds = λ j l accepted h. absurd (clash (acts same act j l h e).reads) }

  module _ {a : Action} {c : Cursor} (e : r ≡ Ok (a, c)) where
    pub action_other : ((d : Path) (m : RegionName) (k : BorrowKind) (q : Path) → a ≡ actions.Borrow d m k q → ⊥) → ((d q : Path) → a ≡ actions.Assign d q → ⊥) → ((m n : RegionName) → a ≡ actions.Constraint m n → ⊥) → Constrains input at ls ls
    action_other o u v = record { adds = λ j l accepted h. adds_none (none_made input.bytes.now c j at a o u v (acts same act j l h e).reads) }

    pub action-constraint : {m n : RegionName} {ls' : List ℕ} → a ≡ actions.Constraint m n → Adds (require_outlives at (Free m.0) (Free n.0)) ls ls' → Constrains input at ls ls'
    unfolding constraints_at
    action-constraint {m} {n} i b =
        record { adds = λ j l accepted h. adds_as (ap (constraints_at j at) (sym (carry (λ x y. x ≡ syntax.Constraint m.0 n.0) (is same act j l h e i).reads refl))) b }

module _ {pair : Pair} {at p : Point} {r : Result (Action × Cursor) Refusal} (same : p ≡ at) (act : (j : Job) → Holds pair.input.now j → p < code_count j.blocks → Acts pair.input.now.bytes.now (action_at (graph_of j) p) r) {a : Action} {c : Cursor} (e : r ≡ Ok (a, c)) (next : pair.at ≡ at + 1) {ls ls' : List ℕ} where
  pub action-borrow : {o : RegionName} {k : BorrowKind} → pair.how ≡ Borrowed o → a ≡ actions.Borrow pair.p o k pair.q → PairAdds pair ls ls' → Constrains pair.input.now at ls ls'
  unfolding constraints_at shape_fits
  action-borrow {o} {k} how i b =
      record {
        adds = λ j l accepted h.
            let u : action_at (graph_of j) at ≡ syntax.Borrow (first pair) o.0 (borrow_kind_of k) (second pair) = carry (λ x y. x ≡ syntax.Borrow (first pair) o.0 (borrow_kind_of k) (second pair)) (is same act j l h e i).reads refl in
            let w = borrow-takes l accepted at pair.p pair.q u in
            let z : T (shape_fits j (syntax.Borrow (first pair) o.0 (borrow_kind_of k) (second pair))) = subst (λ (x : syntax.Action). T (shape_fits j x)) u ((accepted-job j accepted).shapes at) in
            adds_as (ap (constraints_at j at) (sym u)) (rw (how, next, add-one) at (b.adds j l accepted w.0 w.1 (borrow_kind_of k) (rw how z)));
      }

  pub action_assign : pair.how ≡ Assigned → a ≡ actions.Assign pair.q pair.p → PairAdds pair ls ls' → Constrains pair.input.now at ls ls'
  unfolding constraints_at shape_fits
  action_assign how i b =
      record {
        adds = λ j l accepted h.
            let u : action_at (graph_of j) at ≡ syntax.Assign (second pair) (first pair) = carry (λ x y. x ≡ syntax.Assign (second pair) (first pair)) (is same act j l h e i).reads refl in
            let w = assign_takes l accepted at pair.q pair.p u in
            let z : T (shape_fits j (syntax.Assign (second pair) (first pair))) = subst (λ (x : syntax.Action). T (shape_fits j x)) u ((accepted-job j accepted).shapes at) in
            adds_as (ap (constraints_at j at) (sym u)) (adds_as (append-nil _) (rw (how, next, add-one) at (b.adds j l accepted w.1 w.0 syntax.Mut (rw how z))));
      }
