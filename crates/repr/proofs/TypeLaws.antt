-- What each way through the reading of a type, or of arguments, says of the definition. Assumes nothing.
use mathlib.Core.Path.{◌≡◌, refl, sym, ap, subst, ◌∙◌}
use mathlib.Core.List.{List, [], ◌∷◌}
use mathlib.Core.Logic.{◌⊎◌, inl, inr}
use Prim.Native.Nat.{ℕ, zero, suc, ◌+◌, ◌-◌, ◌*◌, ◌≤◌, ◌<◌}
use native.Mathlib.Omega.{arith}
use native.Mathlib.Nat.{zero-add}
use lib.ListN.{drop}
use borrow.Author.Tests.{eq-eqb, ne_eqb}
use Rattle.nll_spec.specs.Syntax as syntax
use Rattle.nll_spec.specs.Syntax.{Ty, Args, RegionArg, TypeArg}
use Rattle.nll_spec.specs.Decode.{Reading, refused, read, Reader, done, refuse, ◌>>=◌, byte, pick, one_of, Part, part, region, node_tag, args, type_within, type, max_nodes}
use Rattle.repr.specs.Reading.{rest, ended}
use Rattle.repr.specs.Types.{Inner, node, node_says, NodeSays, argument_says, ArgumentSays, left_of, nodes_says, AtMost, onward, opened_says, Falls, OpenedSays, FirstSays, TypeSays, ArgumentsSay}
use Rattle.std.proofs.Common.{rules}
use Rattle.repr.specs.declared.Cursor.{Cursor}
use Rattle.repr.specs.declared.BorrowKind.{BorrowKind}
use Rattle.repr.specs.declared.Region.{Region}
use Rattle.repr.specs.declared.StructName.{StructName}
use Rattle.repr.proofs.ReadLaws.{step, stop, told}
use Rattle.repr.proofs.DepthLaws.{deeper, args_deeper}
use Rattle.repr.specs.declared.Node.{Node}
use Rattle.repr.specs.declared.Row.{Row}
use Rattle.repr.specs.declared.Node.TheVariants as nodes
use Rattle.repr.specs.declared.Argument.{Argument}
use Rattle.repr.specs.declared.Argument.TheVariants as arguments
use Rattle.repr.specs.declared.Opened.{Opened}
use Rattle.repr.specs.declared.Rest.{Rest}
use Rattle.repr.specs.declared.refusal.Refusal.{Refusal}
use Rattle.repr.specs.declared.refusal.Refusal.TheVariants.{Range}
use Rattle.repr.specs.Refusals.{number_of}
use Rattle.std.specs.Prelude.{Result, Ok, Err}

-- a part of a type up to so many arguments
abbrev opened : ℕ → ℕ → Cursor → Result Opened Refusal
opened count left next = Ok (record { count = count; left = left; next = next })

-- the end of a part of a type
abbrev rest_at : ℕ → Cursor → Result Rest Refusal
rest_at left next = Ok (record { left = left; next = next })

-- ---- What is left after a part does not depend on what the part is made into

module _ {A B : Type 0} (m : Reader (Part A)) (g : Part A → B) (bs : List ℕ) where
  pub left-done : left_of (◌>>=◌ m (λ t. done (part (g t) t.left)) bs) ≡ left_of (m bs)
  unfolding ◌>>=◌ done
  left-done = go (m bs)
    where
      go : (x : Reading (Part A)) → left_of {A = B} (elim x as (λ y. Reading (Part B)) [ refused n ↦ refused n | read t over ↦ read (part (g t) t.left) over ]) ≡ left_of x
      go (refused n) = refl
      go (read t over) = refl

module _ {A B : Type 0} (m : Reader (Part A)) (f : Part A → Reader (Part B)) (bs : List ℕ) where
  pub left_stop : {k : ℕ} → left_of (m bs) ≡ refused k → left_of (◌>>=◌ m f bs) ≡ refused k
  unfolding ◌>>=◌
  left_stop {k} e = go (m bs) e
    where
      go : (x : Reading (Part A)) → left_of x ≡ refused k → left_of {A = B} (elim x as (λ y. Reading (Part B)) [ refused n ↦ refused n | read t over ↦ f t over ]) ≡ refused k
      go (refused n) e = let z : n ≡ k = cc in rw z
      go (read t over) e = absurd (search rules)

  pub left_then : {l : ℕ} {after : List ℕ} {y : Reading ℕ} → left_of (m bs) ≡ read l after → ((t : Part A) → t.left ≡ l → left_of (f t after) ≡ y) → left_of (◌>>=◌ m f bs) ≡ y
  unfolding ◌>>=◌
  left_then {l} {after} {y} e k = go (m bs) e
    where
      go : (x : Reading (Part A)) → left_of x ≡ read l after → left_of {A = B} (elim x as (λ y. Reading (Part B)) [ refused n ↦ refused n | read t over ↦ f t over ]) ≡ y
      go (refused n) e = absurd (search rules)
      go (read t over) e = let i : t.left ≡ l = cc in let j : over ≡ after = cc in rw j (k t i)

-- ---- Arguments

-- a type argument that leaves l nodes, and what follows it
left-more : (inner : Inner) (n left : ℕ) (bs : List ℕ) (g : Ty → Args → Args) {l : ℕ} {after : List ℕ} → left_of (inner left bs) ≡ read l after → left_of (◌>>=◌ (inner left) (λ t. ◌>>=◌ (args inner n t.left) (λ more. done (part (g t.item more.item) more.left))) bs) ≡ left_of (args inner n l after)
left-more inner n left bs g {l} {after} e = left_then (inner left) _ bs e (λ t i. left-done (args inner n t.left) (λ more. g t.item more.item) after ∙ ap (λ (k : ℕ). left_of (args inner n k after)) i)

-- a type argument, and what follows it
left-onward : (inner : Inner) (n left : ℕ) (bs : List ℕ) (g : Ty → Args → Args) → left_of (◌>>=◌ (inner left) (λ t. ◌>>=◌ (args inner n t.left) (λ more. done (part (g t.item more.item) more.left))) bs) ≡ onward inner n (left_of (inner left bs))
left-onward inner n left bs g = go (left_of (inner left bs)) refl
  where
    go : (x : Reading ℕ) → left_of (inner left bs) ≡ x → left_of (◌>>=◌ (inner left) (λ t. ◌>>=◌ (args inner n t.left) (λ more. done (part (g t.item more.item) more.left))) bs) ≡ onward inner n (left_of (inner left bs))
    go (refused k) e = left_stop (inner left) _ bs e ∙ sym (ap (onward inner n) e)
    go (read l over) e = left-more inner n left bs g e ∙ sym (ap (onward inner n) e)

onward-none : (inner : Inner) (x : Reading ℕ) → onward inner 0 x ≡ x
unfolding args done
onward-none inner (refused k) = refl
onward-none inner (read l over) = refl

-- a and n arguments are a, then n
args_more : (inner : Inner) (a n left : ℕ) (bs : List ℕ) → left_of (args inner (a + n) left bs) ≡ onward inner n (left_of (args inner a left bs))
unfolding args done one_of pick refuse
args_more inner zero n left bs = rw zero-add
args_more inner (suc a) n left bs = let e : suc a + n ≡ suc (a + n) = omega arith in rw e (go (byte bs) refl (args_more inner a n))
  where
    rest_of : ℕ → ℕ → List ℕ → Reading (Part Args)
    rest_of m tag over =
        pick
        ((do r ← region; rest ← args inner m left; done (part (RegionArg r rest.item) rest.left))
        ∷ (do t ← inner left; rest ← args inner m t.left; done (part (TypeArg t.item rest.item) rest.left))
        ∷ []) tag over

    tag_of : (tag : ℕ) (over : List ℕ) → ((left : ℕ) (bs : List ℕ) → left_of (args inner (a + n) left bs) ≡ onward inner n (left_of (args inner a left bs)))
        → left_of (rest_of (a + n) tag over) ≡ onward inner n (left_of (rest_of a tag over))
    tag_of zero over rec = region-of (region over) refl
      where
        region-of : (x : Reading syntax.Region) → region over ≡ x → left_of (rest_of (a + n) 0 over) ≡ onward inner n (left_of (rest_of a 0 over))
        region-of (refused k) e = ap left_of (stop _ _ _ e) ∙ sym (ap (λ (y : Reading (Part Args)). onward inner n (left_of y)) (stop _ _ _ e))
        region-of (read r mid) e =
            ap left_of (step _ _ _ e) ∙ left-done (args inner (a + n) left) _ mid ∙ rec left mid
            ∙ sym (ap (onward inner n) (ap left_of (step _ _ _ e) ∙ left-done (args inner a left) _ mid))
    tag_of (suc zero) over rec = left-onward inner (a + n) left over TypeArg ∙ type-of (left_of (inner left over)) ∙ sym (ap (onward inner n) (left-onward inner a left over TypeArg))
      where
        type-of : (x : Reading ℕ) → onward inner (a + n) x ≡ onward inner n (onward inner a x)
        type-of (refused k) = refl
        type-of (read l mid) = rec l mid
    tag_of (suc (suc k)) over rec = refl

    go : (x : Reading ℕ) → byte bs ≡ x → ((left : ℕ) (bs : List ℕ) → left_of (args inner (a + n) left bs) ≡ onward inner n (left_of (args inner a left bs)))
        → left_of (args inner (suc (a + n)) left bs) ≡ onward inner n (left_of (args inner (suc a) left bs))
    go (refused k) e rec = ap left_of (stop _ _ _ e) ∙ sym (ap (λ (y : Reading (Part Args)). onward inner n (left_of y)) (stop _ _ _ e))
    go (read tag over) e rec = ap left_of (step _ _ _ e) ∙ tag_of tag over rec ∙ sym (ap (λ (y : Reading (Part Args)). onward inner n (left_of y)) (step _ _ _ e))

-- ---- A node

node_of : (depth left : ℕ) (bs : List ℕ) → (left ≡ 0 → ⊥) → type_within (suc depth) left bs ≡ node (type_within depth) (left - 1) bs
unfolding type_within node_tag node done
node_of depth left bs z = go (byte bs) refl
  where
    go : (x : Reading ℕ) → byte bs ≡ x → type_within (suc depth) left bs ≡ node (type_within depth) (left - 1) bs
    go (refused k) e = stop _ _ _ (stop _ _ _ e) ∙ sym (stop _ _ _ e)
    go (read tag over) e = step _ _ _ (step _ _ _ e ∙ rw (ne_eqb left 0 z)) ∙ sym (step _ _ _ e)

-- a type up to a place: reading it is reading a type of at most `few` nodes there
pub record Down (s : List ℕ) (at left c few : ℕ) : Type 0 where
  pub same : (depth : ℕ) → left < depth → left_of (type_within depth left (drop at s)) ≡ left_of (type_within depth few (drop c s))
  pub fewer : few ≤ left

module _ {s : List ℕ} {at left c few : ℕ} (x : Down s at left c few) where
  -- the tag is missing
  pub opened_missing : {k : Refusal} → byte (drop c s) ≡ refused (number_of k) → OpenedSays s at left (Err k)
  unfolding type_within node_tag
  opened_missing {k} e = record { same = λ depth n h. sym (ap (onward (type_within depth) n) (x.same depth h ∙ go depth (omega (arith, h, x.fewer)))); falls = tt }
    where
      go : (depth : ℕ) → few < depth → left_of (type_within depth few (drop c s)) ≡ refused (number_of k)
      go zero h = absurd (omega arith)
      go (suc depth) h = ap left_of (stop _ _ _ (stop _ _ _ e))

  -- no node is left for it
  pub opened_full : {tag : ℕ} {over : List ℕ} → byte (drop c s) ≡ read tag over → few ≡ 0 → OpenedSays s at left (Err Range)
  unfolding type_within node_tag refuse
  opened_full {tag} {over} e z = record { same = λ depth n h. sym (ap (onward (type_within depth) n) (x.same depth h ∙ go depth (omega (arith, h, x.fewer)))); falls = tt }
    where
      go : (depth : ℕ) → few < depth → left_of (type_within depth few (drop c s)) ≡ refused 4
      go zero h = absurd (omega arith)
      go (suc depth) h = ap left_of (stop _ _ _ (step _ _ _ e ∙ rw (eq-eqb few 0 z)))

  module _ {d : Result Node Refusal} (y : NodeSays node s c d) (z : few ≡ 0 → ⊥) where
    -- its first node
    first-node : {n : Result Node Refusal} → d ≡ n → (depth : ℕ) → left < suc depth → left_of (type_within (suc depth) left (drop at s)) ≡ left_of (node_says (type_within depth) (few - 1) s n)
    first-node e depth h = x.same (suc depth) h ∙ ap left_of (node_of depth few (drop c s) z ∙ told (node_says (type_within depth) (few - 1) s) (y.same (type_within depth) (few - 1)) e)

    pub down_ref : {k : BorrowKind} {r : Region} {referent : Cursor} → d ≡ Ok (nodes.Ref k r referent) → Down s at left referent.at (few - 1)
    down_ref {referent = referent} e = record { same = go; fewer = omega (arith, x.fewer) }
      where
        go : (depth : ℕ) → left < depth → left_of (type_within depth left (drop at s)) ≡ left_of (type_within depth (few - 1) (drop referent.at s))
        go zero h = absurd (omega arith)
        go (suc depth) h = first-node e depth h ∙ left-done (type_within depth (few - 1)) _ (rest s referent) ∙ ap left_of (deeper depth (few - 1) (rest s referent) (omega (arith, h, x.fewer, z)))

    pub opened_refused : {k : Refusal} → d ≡ Err k → OpenedSays s at left (Err k)
    opened_refused {k} e = record { same = go; falls = tt }
      where
        go : (depth n : ℕ) → left < depth → opened_says (type_within depth) n s (Err k) ≡ onward (type_within depth) n (left_of (type_within depth left (drop at s)))
        go zero n h = absurd (omega arith)
        go (suc depth) n h = sym (ap (onward (type_within (suc depth)) n) (first-node e depth h))

    -- a node without arguments
    opened_leaf : {n : Result Node Refusal} {next : Cursor} → d ≡ n → ((depth : ℕ) → left_of (node_says (type_within depth) (few - 1) s n) ≡ read (few - 1) (rest s next)) → OpenedSays s at left (opened 0 (few - 1) next)
    opened_leaf {next = next} e f = record { same = go; falls = omega (arith, x.fewer, z) }
      where
        go : (depth n : ℕ) → left < depth → opened_says (type_within depth) n s (opened 0 (few - 1) next) ≡ onward (type_within depth) n (left_of (type_within depth left (drop at s)))
        go zero n h = absurd (omega arith)
        go (suc depth) n h = rw zero-add (sym (ap (onward (type_within (suc depth)) n) (first-node e depth h ∙ f depth)))

    opened_unit : {next : Cursor} → d ≡ Ok (nodes.Unit next) → OpenedSays s at left (opened 0 (few - 1) next)
    opened_unit e = opened_leaf e (λ depth. refl)

    opened_bound : {b : ℕ} {next : Cursor} → d ≡ Ok (nodes.Bound b next) → OpenedSays s at left (opened 0 (few - 1) next)
    opened_bound e = opened_leaf e (λ depth. refl)

    -- a node that has no parts
    pub opened_end : {n : Node} {next : Cursor} → d ≡ Ok n → (n ≡ nodes.Unit next) ⊎ ((b : ℕ) × (n ≡ nodes.Bound b next)) → OpenedSays s at left (opened 0 (few - 1) next)
    opened_end e (inl h) = opened_unit (e ∙ ap Ok h)
    opened_end e (inr h) = opened_bound (e ∙ ap Ok h.1)

    pub opened_struct : {name : StructName} {row : Row} → d ≡ Ok (nodes.Struct name row) → row.count < 256 → OpenedSays s at left (opened row.count (few - 1) row.from)
    opened_struct {row = row} e l = record { same = go; falls = omega (arith, x.fewer, z, l) }
      where
        go : (depth n : ℕ) → left < depth → opened_says (type_within depth) n s (opened row.count (few - 1) row.from) ≡ onward (type_within depth) n (left_of (type_within depth left (drop at s)))
        go zero n h = absurd (omega arith)
        go (suc depth) n h = args_more (type_within (suc depth)) row.count n (few - 1) (rest s row.from) ∙ sym (ap (onward (type_within (suc depth)) n) (first-node e depth h ∙ left-done (args (type_within depth) row.count (few - 1)) _ (rest s row.from) ∙ ap left_of (args_deeper depth row.count (few - 1) (rest s row.from) (omega (arith, h, x.fewer, z)))))

-- ---- The first argument

module _ {s : List ℕ} {at : ℕ} (left : ℕ) {d : Result Argument Refusal} (y : ArgumentSays s at d) where
  says_argument : {x : Result Argument Refusal} → d ≡ x → (depth n : ℕ) → left_of (argument_says (type_within depth) n left s x) ≡ left_of (args (type_within depth) (suc n) left (drop at s))
  says_argument e depth n = sym (ap left_of (told (argument_says (type_within depth) n left s) (y.same (type_within depth) n left) e))

  pub first-refused : {k : Refusal} → d ≡ Err k → FirstSays s at left (Err k)
  first-refused e = record { same = λ depth n h. says_argument e depth n; falls = tt }

  pub first-region : {r : Region} {next : Cursor} → d ≡ Ok (arguments.Region r next) → FirstSays s at left (opened 0 left next)
  first-region {next = next} e = record { same = λ depth n h. rw zero-add (sym (left-done (args (type_within depth) n left) _ (rest s next)) ∙ says_argument e depth n); falls = omega arith }

  pub first-type : {ty : Cursor} {r : Result Opened Refusal} → d ≡ Ok (arguments.Type ty) → OpenedSays s ty.at left r → FirstSays s at left r
  first-type {ty} e o = record { same = λ depth n h. o.same depth n h ∙ sym (left-onward (type_within depth) n left (rest s ty) TypeArg) ∙ says_argument e depth n; falls = o.falls }

-- ---- All arguments

-- `count` arguments up to a place: reading them is reading n arguments of at most `few` nodes there
pub record Along (s : List ℕ) (at count left c n few : ℕ) : Type 0 where
  pub same : (depth : ℕ) → left < depth → left_of (args (type_within depth) count left (drop at s)) ≡ left_of (args (type_within depth) n few (drop c s))
  pub falls : n + 256 * few ≤ count + 256 * left

pub along-none : {s : List ℕ} {at count left n : ℕ} → n ≡ count → Along s at count left at n left
along-none {s} {at} {count} {left} e = record { same = λ depth h. ap (λ (m : ℕ). left_of (args (type_within depth) m left (drop at s))) (sym e); falls = omega (arith, e) }

module _ {s : List ℕ} {at count left c n few : ℕ} (x : Along s at count left c n few) (small : count < 256) where
  depth-left : few ≤ left
  depth-left = omega (arith, x.falls, small)

  first_then : {r : Result Opened Refusal} → FirstSays s c few r → (n ≡ 0 → ⊥) → (depth : ℕ) → left < depth → left_of (args (type_within depth) count left (drop at s)) ≡ opened_says (type_within depth) (n - 1) s r
  first_then f z depth h = x.same depth h ∙ ap (λ (m : ℕ). left_of (args (type_within depth) m few (drop c s))) (omega (arith, z)) ∙ sym (f.same depth (n - 1) (omega (arith, h, depth-left)))

  pub along-refused : {r : Result Opened Refusal} {k : Refusal} → FirstSays s c few r → (n ≡ 0 → ⊥) → r ≡ Err k → ArgumentsSay s at count left (Err k)
  along-refused f z e = record { same = λ depth h. sym (first_then f z depth h ∙ ap (opened_says (type_within depth) (n - 1) s) e); fewer = tt }

  pub along-more : {r : Result Opened Refusal} {more l : ℕ} {next : Cursor} → FirstSays s c few r → (n ≡ 0 → ⊥) → r ≡ opened more l next → Along s at count left next.at (n - 1 + more) l
  along-more {more = more} {l = l} {next = next} f z e = record {
    same = λ depth h.
        first_then f z depth h ∙ ap (opened_says (type_within depth) (n - 1) s) e ∙ ap (λ (m : ℕ). left_of (args (type_within depth) m l (rest s next))) (omega arith);
    falls = let p = subst (Falls few) e f.falls in omega (arith, x.falls, p, z);
  }

  pub along-ended : {c' : Cursor} → c'.at ≡ c → n ≡ 0 → ArgumentsSay s at count left (rest_at few c')
  unfolding args done
  along-ended {c'} i z = record { same = λ depth h. sym (x.same depth h ∙ ap (λ (m : ℕ). left_of (args (type_within depth) m few (drop c s))) z ∙ ap (λ (m : ℕ). read few (drop m s)) (sym i)); fewer = depth-left }

-- ---- A type

module _ {s : List ℕ} {at left : ℕ} {r : Result Opened Refusal} (o : OpenedSays s at left r) where
  pub type-refused : {k : Refusal} → r ≡ Err k → TypeSays s at left (Err k)
  type-refused e = record { same = λ depth h. sym (ap (opened_says (type_within depth) 0 s) e) ∙ o.same depth 0 h ∙ onward-none (type_within depth) _; fewer = tt }

  pub type_arguments : {count few : ℕ} {next : Cursor} {a : Result Rest Refusal} → r ≡ opened count few next → ArgumentsSay s next.at count few a → TypeSays s at left a
  type_arguments {count} {few} {next} {a} e y = record {
    same = λ depth h.
        y.same depth (omega (arith, h, few-left)) ∙ ap (λ (m : ℕ). left_of (args (type_within depth) m few (rest s next))) (omega arith) ∙ sym (ap (opened_says (type_within depth) 0 s) e) ∙ o.same depth 0 h ∙ onward-none (type_within depth) _;
    fewer = fewer-still (nodes_says s a) y.fewer few-left;
  }
    where
      few-left : few ≤ left
      few-left = let p = subst (Falls left) e o.falls in omega (arith, p)

      fewer-still : (x : Reading ℕ) → AtMost few x → few ≤ left → AtMost left x
      fewer-still (read k over) h g = omega arith
      fewer-still (refused k) h g = tt

-- ---- A whole type

pub end-left : (bs : List ℕ) → ended (type bs) ≡ ended (left_of (type_within (suc max_nodes) max_nodes bs))
unfolding type ◌>>=◌ done
end-left bs = go (type_within (suc max_nodes) max_nodes bs)
  where
    go : (x : Reading (Part Ty)) → ended {A = Ty} (elim x as (λ y. Reading Ty) [ refused n ↦ refused n | read t over ↦ read t.item over ]) ≡ ended (left_of x)
    go (refused n) = refl
    go (read t over) = refl
