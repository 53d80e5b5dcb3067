-- What the offsets of an accepted job give, by number: where each part stands. Assumes nothing.
use mathlib.Core.Path.{◌≡◌, refl, sym, ap, subst, ◌∙◌}
use mathlib.Core.Logic.{◌⊎◌, inl, inr}
use mathlib.Core.Bool.{Bool, true, false, cond}
use mathlib.Core.List.{List, [], ◌∷◌, ◌++◌, map}
use Prim.Native.Nat.{ℕ, zero, suc, ◌+◌, ◌-◌, ◌≤◌, ◌<◌}
use native.Mathlib.Omega.{arith}
use native.Mathlib.Numerals.{add-one}
use native.Mathlib.Decide.{dec_lt}
use lib.ListN.{length, get_or, take, drop, drop_of_length-le, get_or-eq_default}
use lib.Seq.{get_or-take, get_or-append-add}
use lib.Dec.{eqb}
use borrow.Author.Tests.{eqb-true, eqb-false}
use Rattle.std.proofs.Common.{rules}
use Rattle.nll_spec.specs.Syntax.{Ty, StructDecl, Action, Noop, Field, Block, Job, RegionName, Point, BlockIndex}
use Rattle.nll_spec.specs.Decode.{Reading, refused, read, Reader, done, byte, one_of, items, counted, max_outlived, param, field, struct_decl, type, block, action, code_count}
use Rattle.nll_spec.specs.Types.{struct_of}
use Rattle.nll_spec.specs.Graph.{Statement, first_point, block_statements, statements_from, statements_of, statement_at, graph_of, action_at}
use Rattle.repr.specs.Reading.{rest, says, itself}
use Rattle.repr.specs.Parts.{struct_says, StructSays, action_says}
use Rattle.repr.specs.Parts as parts
use Rattle.repr.specs.declared.Cursor.{Cursor}
use Rattle.repr.specs.declared.StructDecl as declared
use Rattle.repr.specs.declared.Action as declared_action
use Rattle.repr.specs.declared.Action.TheVariants as actions
use Rattle.repr.proofs.ReadLaws.{step, stop, told, clash}
use Rattle.repr.specs.Stands.{Stands}
use Rattle.record.specs.Rows.{Standing, none, more}
use Rattle.record.specs.Blocks.{block_end, firsts, Coded}
use Rattle.record.specs.Blocks as blocks
use Rattle.record.specs.Layout.{Layout}
use Rattle.record.specs.Access.{point_of, Declared, Acts, kind_of_tag, kind_of}
use Rattle.record.specs.declared.ActionKind.{ActionKind}
use Rattle.record.specs.declared.ActionKind.TheVariants as kinds
use Rattle.record.specs.declared.Head.{Head}
use Rattle.record.specs.declared.Offsets.{Offsets}
use Rattle.record.proofs.RowLaws.{standing_length}
use Rattle.record.proofs.KindLaws.{byte_kind, byte-refused}
use Rattle.repr.specs.declared.refusal.Refusal.{Refusal}
use Rattle.std.specs.Prelude.{Result, Ok, Err, Option, Some, None}

-- ---- The entry of a point

-- what the answer says of the entry
end_is : (o : ℕ) → point_of o ≡ None → o ≡ block_end
end_is o = go (eqb o block_end) refl
  where
    go : (b : Bool) → eqb o block_end ≡ b → cond {A = Option Cursor} b None (Some (record { at = o })) ≡ None → o ≡ block_end
    go true q e = eqb-true o block_end q
    go false q e = absurd (search rules)

action-is : (o : ℕ) {c : Cursor} → point_of o ≡ Some c → (o ≡ block_end → ⊥) × (o ≡ c.at)
action-is o {c} = go (eqb o block_end) refl
  where
    at : Option Cursor → ℕ
    at (Some d) = d.at
    at None = 0

    go : (b : Bool) → eqb o block_end ≡ b → cond {A = Option Cursor} b None (Some (record { at = o })) ≡ Some c → (o ≡ block_end → ⊥) × (o ≡ c.at)
    go true q e = absurd (search rules)
    go false q e = (eqb-false o block_end q, ap at e)

-- ---- A row

standing_at : {A : Type 0} {m : Reader A} {s os : List ℕ} {xs : List A} → Standing m s os xs → (i : ℕ) (d : A) → i < length xs → Stands m (get_or xs i d) (drop (get_or os i 0) s)
standing_at none i d h = absurd (omega arith)
standing_at (more k r) zero d h = k
standing_at (more k r) (suc i) d h = standing_at r i d (omega arith)

row_at : {A : Type 0} {m : Reader A} {s : List ℕ} (os : List ℕ) (n : ℕ) {xs : List A} → Standing m s (take n os) xs → length xs ≡ n → (i : ℕ) (d : A) → i < length xs → Stands m (get_or xs i d) (drop (get_or os i 0) s)
row_at {m = m} {s = s} os n {xs} r e i d h = subst (λ (o : ℕ). Stands m (get_or xs i d) (drop o s)) (get_or-take n os i 0 (omega arith)) (standing_at r i d h)

-- ---- Points

firsts_at : (bs : List Block) (p b : ℕ) → b < length bs → get_or (firsts p bs) b 0 ≡ first_point bs p b
unfolding first_point
firsts_at [] p b h = absurd (omega arith)
firsts_at (d ∷ ds) p zero h = refl
firsts_at (d ∷ ds) p (suc b) h = firsts_at ds (p + suc (length d.actions)) b (omega arith)

-- An entry is a block's end, where nothing is done, or where the action stands.
abbrev AtPoint : List ℕ → ℕ → Action → Type 0
AtPoint s o a = ((o ≡ block_end) × (a ≡ Noop)) ⊎ Stands action a (drop o s)

-- the action at a point of some statements
abbrev action_in : List Statement → Point → Action
action_in ns p = (statement_at ns p).action

-- the points of a block
block-point : {s os : List ℕ} {acts : List Action} → Standing action s os acts → (es : List ℕ) (b : BlockIndex) (after : List Point) (p : Point) (ns : List Statement) (q : ℕ) → q ≤ length acts
    → AtPoint s (get_or (os ++ block_end ∷ es) q 0) (action_in (block_statements b after p acts ++ ns) q)
unfolding block_statements
block-point none es b after p ns zero h = inl (refl, refl)
block-point none es b after p ns (suc q) h = absurd (omega arith)
block-point (more k r) es b after p ns zero h = inr k
block-point (more k r) es b after p ns (suc q) h = block-point r es b after (suc p) ns q (omega arith)

-- past the points of a block
past_entries : (os es : List ℕ) (k : ℕ) → get_or (os ++ block_end ∷ es) (suc (length os) + k) 0 ≡ get_or es k 0
past_entries os es k = let j : suc (length os) + k ≡ length os + (k + 1) = omega arith in rw (j, get_or-append-add os (block_end ∷ es) (k + 1) 0, add-one)

length-block : (b : BlockIndex) (after : List Point) (p : Point) (acts : List Action) → length (block_statements b after p acts) ≡ suc (length acts)
unfolding block_statements
length-block b after p [] = refl
length-block b after p (a ∷ acts) = ap suc (length-block b after (suc p) acts)

past_statements : (b : BlockIndex) (after : List Point) (p : Point) (acts : List Action) (ns : List Statement) (k : ℕ) → action_in (block_statements b after p acts ++ ns) (suc (length acts) + k) ≡ action_in ns k
past_statements b after p acts ns k =
    let xs = block_statements b after p acts in
    ap (λ (n : ℕ). action_in (xs ++ ns) (n + k)) (sym (length-block b after p acts)) ∙ ap (λ (n : Statement). n.action) (get_or-append-add xs ns k (record { block = 0; action = Noop; next = [] }))

-- the points of all blocks
coded-point : {s es : List ℕ} {bs : List Block} → Coded s es bs → (all : List Block) (b : BlockIndex) (p : Point) (q : ℕ) → q < code_count bs → AtPoint s (get_or es q 0) (action_in (statements_from all b p bs) q)
unfolding statements_from code_count
coded-point blocks.none all b p q h = absurd (omega arith)
coded-point {s} (blocks.more {offsets = os} {entries = es} {b = d} {bs = ds} k r) all b p q h = go (dec_lt (length d.actions) q) λ l. coded-point r all (suc b) (p + suc (length d.actions)) (q - suc (length d.actions)) (omega arith)
  where
    after : List Point
    after = map (first_point all 0) d.successors

    others : List Statement
    others = statements_from all (suc b) (p + suc (length d.actions)) ds

    m : ℕ
    m = q - suc (length d.actions)

    here : List Statement
    here = block_statements b after p d.actions ++ others

    go : Dec (length d.actions < q) → (length d.actions < q → AtPoint s (get_or es m 0) (action_in others m)) → AtPoint s (get_or (os ++ block_end ∷ es) q 0) (action_in here q)
    go (no l) f = block-point k es b after p others q (omega arith)
    go (yes l) f =
        let i : q ≡ suc (length os) + m = omega (arith, standing_length k) in
        let n : q ≡ suc (length d.actions) + m = omega arith in
        let e : get_or (os ++ block_end ∷ es) q 0 ≡ get_or es m 0 = ap (λ (x : ℕ). get_or (os ++ block_end ∷ es) x 0) i ∙ past_entries os es m in
        let g : action_in here q ≡ action_in others m = ap (action_in here) n ∙ past_statements b after p d.actions others m in
        subst (λ (o : ℕ). AtPoint s o (action_in here q)) (sym e) (subst (AtPoint s (get_or es m 0)) (sym g) (f l))

-- the mark of a block's end is no offset of an action
pub action-below : (s : List ℕ) (o : ℕ) {a : Action} → length s ≤ 65535 → Stands action a (drop o s) → o < block_end
unfolding action one_of byte
action-below s o {a} l h = go (dec_lt o 65535)
  where
    go : Dec (o < 65535) → o < 65535
    go (yes k) = k
    go (no k) = absurd (let e = ap action (drop_of_length-le s (let j : length s ≤ o = omega arith in j)) in clash (sym (stop byte _ [] refl) ∙ sym e ∙ h.reads))

-- ---- A struct that was read

-- its parameters and its fields
struct_parts : {s : List ℕ} {at : ℕ} {r : Result declared.StructDecl Refusal} {d : declared.StructDecl} {x : StructDecl} → StructSays s at r → r ≡ Ok d → Stands struct_decl x (drop at s) → Declared s x d
unfolding parts.struct_of done
struct_parts {s} {at} {r} {d} {x} m e h = go (items d.fields.count field (rest s d.fields.from)) refl
  where
    params : parts.Readable (items d.parameters.count param) (rest s d.parameters.from)
    params = subst (parts.ParametersRead s) e m.declared

    -- reading the fields, where the parameters are read
    both : parts.struct_of s d ≡ read x h.over
    both = sym (told (struct_says s) m.same e) ∙ h.reads

    go : (q : Reading (List Field)) → items d.fields.count field (rest s d.fields.from) ≡ q → Declared s x d
    go (refused k) i = absurd (clash (sym (step _ _ _ params.reads ∙ stop (items d.fields.count field) _ (rest s d.fields.from) i) ∙ both))
    go (read fs over) i =
        let c : read (record { params = params.item; fields = fs }) over ≡ read x h.over = sym (step _ _ _ params.reads ∙ step (items d.fields.count field) _ (rest s d.fields.from) i) ∙ both in
        let same : ◌≡◌ {A = StructDecl} (record { params = params.item; fields = fs }) x = cc in
        subst (λ (y : StructDecl). Declared s y d) same (record { params = record { over = params.over; reads = params.reads }; fields = record { over = over; reads = i } })

-- ---- The parts of an accepted job, by number

module _ {s : List ℕ} {t : Offsets} {h : Head} {j : Job} (w : Layout s t h j) where
  pub struct_at : (i : ℕ) (d : StructDecl) → i < length j.structs → Stands struct_decl (get_or j.structs i d) (drop (get_or t.structs i 0) s)
  struct_at = row_at t.structs h.structs w.structs w.struct_count

  pub outlives-at : (i : ℕ) (d : List RegionName) → i < length j.outlives → Stands (counted max_outlived byte) (get_or j.outlives i d) (drop (get_or t.outlives i 0) s)
  outlives-at = row_at t.outlives h.declared w.outlives w.declared_count

  pub variable_at : (i : ℕ) (d : Ty) → i < length j.variables → Stands type (get_or j.variables i d) (drop (get_or t.variables i 0) s)
  variable_at = row_at t.variables h.variables w.variables w.variable_count

  pub block-at : (i : ℕ) (d : Block) → i < length j.blocks → Stands block (get_or j.blocks i d) (drop (get_or t.blocks i 0) s)
  block-at = row_at t.blocks h.blocks w.blocks.stands w.block_count

  pub first-at : (b : BlockIndex) → b < length j.blocks → get_or t.first b 0 ≡ first_point j.blocks 0 b
  first-at b l =
      sym (get_or-take h.blocks t.first b 0 (omega (arith, w.block_count)))
      ∙ ap (λ (x : List ℕ). get_or x b 0) w.blocks.first
      ∙ firsts_at j.blocks 0 b l

  -- what stands at a point of the blocks
  point-is : (p : Point) → p < code_count j.blocks → AtPoint s (get_or t.points p 0) (action_at (graph_of j) p)
  unfolding graph_of statements_of
  point-is p l =
      let e = ap (λ (x : List ℕ). get_or x p 0) (sym (w.blocks.points w.few)) ∙ get_or-take (code_count j.blocks) t.points p 0 l in
      subst (λ (o : ℕ). AtPoint s o (action_at (graph_of j) p)) e (coded-point w.blocks.coded j.blocks 0 0 p l)

  module _ {p : Point} (l : p < code_count j.blocks) {d : Option Cursor} (same : d ≡ point_of (get_or t.points p 0)) where
    pub acts_end : (c : Cursor) → d ≡ None → Acts s (action_at (graph_of j) p) (Ok (actions.Noop, c))
    acts_end c e = go (point-is p l)
      where
        last : get_or t.points p 0 ≡ block_end
        last = end_is (get_or t.points p 0) (sym same ∙ e)

        go : AtPoint s (get_or t.points p 0) (action_at (graph_of j) p) → Acts s (action_at (graph_of j) p) (Ok (actions.Noop, c))
        go (inl k) = record { over = rest s c; reads = ap (λ (a : Action). read a (rest s c)) (sym k.1) }
        go (inr k) = absurd (omega (arith, action-below s (get_or t.points p 0) w.short k, last))

    pub kind_end : d ≡ None → kinds.Noop ≡ kind_of (action_at (graph_of j) p)
    kind_end e = go (point-is p l)
      where
        go : AtPoint s (get_or t.points p 0) (action_at (graph_of j) p) → kinds.Noop ≡ kind_of (action_at (graph_of j) p)
        go (inl k) = ap kind_of (sym k.1)
        go (inr k) = absurd (omega (arith, action-below s (get_or t.points p 0) w.short k, end_is (get_or t.points p 0) (sym same ∙ e)))

    module _ {c : Cursor} (e : d ≡ Some c) where
      action-there : Stands action (action_at (graph_of j) p) (drop c.at s)
      action-there = go (point-is p l)
        where
          at : (get_or t.points p 0 ≡ block_end → ⊥) × (get_or t.points p 0 ≡ c.at)
          at = action-is (get_or t.points p 0) (sym same ∙ e)

          go : AtPoint s (get_or t.points p 0) (action_at (graph_of j) p) → Stands action (action_at (graph_of j) p) (drop c.at s)
          go (inl k) = absurd (at.0 k.0)
          go (inr k) = subst (λ (o : ℕ). Stands action (action_at (graph_of j) p) (drop o s)) at.1 k

      pub acts_there : {r : Result (declared_action.Action × Cursor) Refusal} → action_says s r ≡ action (drop c.at s) → Acts s (action_at (graph_of j) p) r
      acts_there i = record { over = action-there.over; reads = i ∙ action-there.reads }

      pub kind_there : {r : Result (ℕ × Cursor) Refusal} → says itself s r ≡ byte (drop c.at s) → {n : ℕ} {next : Cursor} → r ≡ Ok (n, next) → kind_of_tag n ≡ kind_of (action_at (graph_of j) p)
      kind_there i = byte_kind s action-there i

      pub kind_refused : {r : Result (ℕ × Cursor) Refusal} → says itself s r ≡ byte (drop c.at s) → {o : ActionKind} {k : Refusal} → r ≡ Err k → o ≡ kind_of (action_at (graph_of j) p)
      kind_refused i e = absurd (byte-refused s action-there i e)

  -- the struct of a name
  module _ {name x : ℕ} (there : x ≡ get_or t.structs name 0) where
    pub struct_past : {c : Cursor} → h.structs ≤ name → Declared s (struct_of j.structs name) (record { parameters = record { from = c; count = 0 }; fields = record { from = c; count = 0 } })
    unfolding items done
    struct_past {c} l =
        subst (λ (y : StructDecl). Declared s y (record { parameters = record { from = c; count = 0 }; fields = record { from = c; count = 0 } })) (sym (get_or-eq_default j.structs _ (let k : length j.structs ≤ name = omega (arith, w.struct_count) in k)))
        (record { params = record { over = rest s c; reads = refl }; fields = record { over = rest s c; reads = refl } })

    module _ (l : name < h.structs) {r : Result declared.StructDecl Refusal} (m : StructSays s x r) where
      stands : Stands struct_decl (struct_of j.structs name) (drop x s)
      stands = subst (λ (o : ℕ). Stands struct_decl (struct_of j.structs name) (drop o s)) (sym there) (struct_at name _ (omega (arith, w.struct_count)))

      pub struct_there : {d : declared.StructDecl} → r ≡ Ok d → Declared s (struct_of j.structs name) d
      struct_there e = struct_parts m e stands

      pub struct_refused : {k : Refusal} {d : declared.StructDecl} → r ≡ Err k → Declared s (struct_of j.structs name) d
      struct_refused e = absurd (clash (sym (told (struct_says s) m.same e) ∙ stands.reads))
