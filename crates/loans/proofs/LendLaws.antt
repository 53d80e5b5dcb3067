-- Each way that a point may lend. Assumes nothing.
use mathlib.Core.Path.{◌≡◌, refl, sym, ap, subst, ◌∙◌}
use mathlib.Core.Bool.{Bool, true, false}
use mathlib.Core.List.{List, [], ◌∷◌, ◌++◌, append-nil}
use Prim.Native.Nat.{ℕ, ◌+◌, ◌*◌, ◌≤◌, ◌<◌}
use native.Mathlib.Omega.{arith}
use lib.ListN.{length, set, length-append, length-set}
use lib.Dec.{T}
use Rattle.nll_spec.specs.Syntax.{Path, Point, Action, Borrow, Job}
use Rattle.nll_spec.specs.Syntax as syntax
use Rattle.nll_spec.specs.Decode.{read, done, items, path, code_count}
use Rattle.nll_spec.specs.WellFormed.{named, paths_fit, path_fits}
use Rattle.nll_spec.specs.Graph.{graph_of, action_at, is_walked}
use Rattle.nll_spec.specs.Loans as spec
use Rattle.nll_spec.specs.Loans.{loan_at, loans_of}
use Rattle.nll_spec.specs.Output.{word_bits}
use Rattle.nll_spec.proofs.GraphLaws.{code-count}
use Rattle.repr.specs.Reading.{rest, path_of, borrow_kind_of}
use Rattle.repr.specs.Parts.{action_says, action_read}
use Rattle.repr.specs.declared.Cursor.{Cursor}
use Rattle.repr.specs.declared.RegionName.{RegionName}
use Rattle.repr.specs.declared.BorrowKind.{BorrowKind}
use Rattle.repr.specs.declared.Path as repr
use Rattle.repr.specs.declared.Action as acts
use Rattle.repr.specs.declared.Action.TheVariants as action
use Rattle.record.specs.Layout.{Holds}
use Rattle.record.specs.Access.{Acts, kind_of}
use Rattle.record.specs.declared.ActionKind.{ActionKind}
use Rattle.record.specs.declared.ActionKind.TheVariants as kinds
use Rattle.graph.specs.declared.tables.FuncGraph.{FuncGraph}
use Rattle.bit_set.specs.Bits.{has}
use Rattle.repr.proofs.SpellLaws.{carry, then}
use Rattle.env.specs.Prefixes.{ShortestOf}
use Rattle.env.specs.declared.Shortest.{Shortest}
use Rattle.loans.specs.declared.LoanTable.{LoanTable}
use Rattle.graph.specs.Search.{WalkedIn}
use Rattle.loans.specs.Loans.{loans_below, Listed, LoansAt, Given, Lends}
use Rattle.loans.proofs.ListLaws.{below_unwalked, below-walked, below_more, listed_more}
use Rattle.loans.proofs.ActionLaws.{source-named, source_fits, source-short}
use Rattle.repr.specs.declared.refusal.Refusal.{Refusal}
use Rattle.std.specs.Prelude.{Result, Ok}

-- no other action lends
not-borrow : (s : List ℕ) (a : acts.Action) (c : Cursor) {x : Action} {over : List ℕ} → ((d : repr.Path) (r : RegionName) (k : BorrowKind) (q : repr.Path) → a ≡ action.Borrow d r k q → ⊥) → action_read s a c ≡ read x over → (p : Point) → loan_at p x ≡ []
unfolding loan_at done
not-borrow s action.Noop c h e p = carry (λ y o. loan_at p y ≡ []) e refl
not-borrow s (action.Init d n) c h e p = let w = then (items n path) _ (rest s c) e in carry (λ y o. loan_at p y ≡ []) w.last refl
not-borrow s (action.Borrow d r k q) c h e p = absurd (h d r k q refl)
not-borrow s (action.Assign d q) c h e p = carry (λ y o. loan_at p y ≡ []) e refl
not-borrow s (action.Constraint sup sub) c h e p = carry (λ y o. loan_at p y ≡ []) e refl
not-borrow s (action.Use q) c h e p = carry (λ y o. loan_at p y ≡ []) e refl
not-borrow s (action.Drop q) c h e p = carry (λ y o. loan_at p y ≡ []) e refl
not-borrow s (action.StorageDead v) c h e p = carry (λ y o. loan_at p y ≡ []) e refl

-- nor does one of another kind
other_kind : (x : syntax.Action) → (kind_of x ≡ kinds.Borrow → ⊥) → (p : Point) → loan_at p x ≡ []
unfolding loan_at
other_kind syntax.Noop h p = refl
other_kind (syntax.Init d qs) h p = refl
other_kind (syntax.Borrow d r k q) h p = absurd (h refl)
other_kind (syntax.Assign d q) h p = refl
other_kind (syntax.Constraint sup sub) h p = refl
other_kind (syntax.Use q) h p = refl
other_kind (syntax.Drop q) h p = refl
other_kind (syntax.StorageDead v) h p = refl

module _ {graph : FuncGraph} {p : ℕ} (lent : LoanTable) (size : length lent.loans ≡ 128) (few : lent.count ≤ 128) (point : p < 1024) {b : Bool} (tests : b ≡ has graph.walked (word_bits * 0 + p)) where
  walks : (j : Job) → Given graph j → is_walked (graph_of j) p ≡ b
  walks j g = let e : word_bits * 0 + p ≡ p = omega arith in sym (tests ∙ ap (has graph.walked) e ∙ g.walks p point)

  -- the point lends nothing
  pub lends_nothing : ((j : Job) → Given graph j → p < code_count j.blocks → loans_below (graph_of j) (p + 1) ≡ loans_below (graph_of j) p) → Lends graph p lent lent
  lends_nothing f = record { size = size; few = few; more = λ j g l w. subst (λ (xs : List spec.Loan). Listed graph.input.bytes.now j xs lent.loans lent.count) (sym (f j g l)) w }

  pub lends_unwalked : b ≡ false → Lends graph p lent lent
  lends_unwalked e = lends_nothing λ j g l. below_unwalked (graph_of j) p (walks j g ∙ e)

  pub lends_other_kind : b ≡ true → {kind : ActionKind} → ((j : Job) → Holds graph.input j → p < code_count j.blocks → kind ≡ kind_of (action_at (graph_of j) p)) → (kind ≡ kinds.Borrow → ⊥) → Lends graph p lent lent
  lends_other_kind e m o = lends_nothing λ j g l. below-walked (graph_of j) p (walks j g ∙ e) ∙ rw (other_kind (action_at (graph_of j) p) (λ i. o (m j g.layout l ∙ i)) p, append-nil (loans_below (graph_of j) p))

  module _ (e : b ≡ true) {r : Result (acts.Action × Cursor) Refusal} (m : (j : Job) → Holds graph.input j → p < code_count j.blocks → Acts graph.input.bytes.now (action_at (graph_of j) p) r) where
    module _ {a : acts.Action} {c : Cursor} (i : r ≡ Ok (a, c)) where
      reads : (j : Job) (g : Given graph j) (l : p < code_count j.blocks) → action_read graph.input.bytes.now a c ≡ read (action_at (graph_of j) p) (m j g.layout l).over
      reads j g l = sym (ap (action_says graph.input.bytes.now) i) ∙ (m j g.layout l).reads

      pub lends_other : ((d : repr.Path) (r : RegionName) (k : BorrowKind) (q : repr.Path) → a ≡ action.Borrow d r k q → ⊥) → Lends graph p lent lent
      lends_other o = lends_nothing λ j g l. below-walked (graph_of j) p (walks j g ∙ e) ∙ rw (not-borrow graph.input.bytes.now a c o (reads j g l) p, append-nil (loans_below (graph_of j) p))

      module _ {d source : repr.Path} {region : RegionName} {kind : BorrowKind} (k : a ≡ action.Borrow d region kind source) where
        borrows : (j : Job) → Given graph j → p < code_count j.blocks → action_at (graph_of j) p ≡ Borrow (path_of graph.input.bytes.now d) region.0 (borrow_kind_of kind) (path_of graph.input.bytes.now source)
        borrows j g l = carry (λ x o. x ≡ Borrow (path_of graph.input.bytes.now d) region.0 (borrow_kind_of kind) (path_of graph.input.bytes.now source)) (subst (λ (y : acts.Action). action_read graph.input.bytes.now y c ≡ read (action_at (graph_of j) p) (m j g.layout l).over) k (reads j g l)) refl

        below : (j : Job) (g : Given graph j) (l : p < code_count j.blocks) → loans_below (graph_of j) (p + 1) ≡ loans_below (graph_of j) p ++ (record { point = p; region = region.0; kind = borrow_kind_of kind; path = path_of graph.input.bytes.now source } ∷ [])
        unfolding loan_at
        below j g l = below-walked (graph_of j) p (walks j g ∙ e) ∙ ap (λ (x : Action). loans_below (graph_of j) p ++ loan_at p x) (borrows j g l)

        -- there are no more loans than the table has room for
        room : (j : Job) (g : Given graph j) (l : p < code_count j.blocks) → length (loans_below (graph_of j) p) < 128
        unfolding loans_of
        room j g l =
            let x = below_more (graph_of j) (p + 1) (graph_of j).code (omega (arith, code-count j)) in
            let y = ap length (below j g l) ∙ length-append (loans_below (graph_of j) p) (record { point = p; region = region.0; kind = borrow_kind_of kind; path = path_of graph.input.bytes.now source } ∷ []) in
            omega (arith, x, y, g.few)

        pub lends_full : lent.count ≡ 128 → Lends graph p lent lent
        lends_full f = record { size = size; few = few; more = λ j g l w. absurd (omega (arith, room j g l, w.count)) }

        pub lends-more : {x : Shortest} → ((j : Job) → Holds graph.input j → source.base.0 < length j.variables → path_fits j (path_of graph.input.bytes.now source) ≡ true → length (path_of graph.input.bytes.now source).steps ≤ 8 → ShortestOf j (path_of graph.input.bytes.now source) x)
            → (lent.count ≡ 128 → ⊥) → Lends graph p lent (record { loans = set lent.loans lent.count (record { point = p; region = region; kind = kind; path = source; shortest = x }); count = lent.count + 1 })
        lends-more {x} f z =
            record {
              size = length-set lent.loans lent.count _ ∙ size;
              few = omega arith;
              more = λ j g l w.
                  let q = borrows j g l in
                  let v = source-short g.layout p q in
                  rw (below j g l) (listed_more w _ (omega arith) refl (f j g.layout (source-named g.layout p q g.names) (source_fits g.layout p q g.paths) (omega arith)));
            }

-- ---- All points

-- What the loop keeps.
pub record Lending (graph : FuncGraph) (p : ℕ) (lent : LoanTable) : Type 0 where
  pub size : length lent.loans ≡ 128
  pub few : lent.count ≤ 128
  pub are : (j : Job) → Given graph j → p ≤ code_count j.blocks → Listed graph.input.bytes.now j (loans_below (graph_of j) p) lent.loans lent.count

pub lending-all : {graph : FuncGraph} {p code : ℕ} {lent : LoanTable} → Lending graph p lent → p ≤ code → code ≤ p → (graph.input.head.code ≤ 1024 → code ≡ graph.input.head.code) → (j : Job) → Holds graph.input j → T (named j) → T (paths_fit j)
    → WalkedIn j graph.walked → length (loans_of (graph_of j)) ≤ 128 → LoansAt graph.input.bytes.now j lent.loans lent.count
unfolding loans_of
lending-all {graph} {p = p} {lent = lent} w a b c j l named paths walks few =
    let i = code-count j in
    let e : p ≡ (graph_of j).code = omega (arith, c (omega (arith, l.code, l.few)), l.code) in
    let v = subst (λ (q : ℕ). Listed graph.input.bytes.now j (loans_below (graph_of j) q) lent.loans lent.count) e (w.are j (record { layout = l; names = named; paths = paths; walks = walks; few = few }) (omega (arith, i))) in
    record { count = v.count; few = w.few; same = v.same; shortest = v.shortest }
