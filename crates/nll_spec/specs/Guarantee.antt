-- Demand 3: in a job without access errors, what a borrow lends stays untouched, until it is overwritten, on every path to a use of a holder. Paths and
-- holders as document 01 has them; both are read from the record alone.
use Rattle.std.specs.Prelude.{◌≡◌, Bool, true, false, ◌||◌, ◌&&◌, not, cond, List, [], ◌∷◌, ℕ, ◌<◌, T, eqb}
use Rattle.nll_spec.specs.Lists.{any, contains}
use Rattle.nll_spec.specs.Syntax.{Variable, RegionName, Point, BorrowKind, Path, Job}
use Rattle.nll_spec.specs.Syntax.{Action, Noop, Init, Borrow, Assign, Constraint, Use, Drop, StorageDead}
use Rattle.nll_spec.specs.Decode.{decoded, decode, point_count}
use Rattle.nll_spec.specs.Graph.{Graph, graph_of, action_at, next_of}
use Rattle.nll_spec.specs.Liveness.{is_plain, uses}
use Rattle.nll_spec.specs.Loans.{Loan, kills}
use Rattle.nll_spec.specs.Access.{action_conflicts}
use Rattle.nll_spec.specs.Regions.{EndRule}
use Rattle.nll_spec.specs.Output.{analyse}
use Rattle.nll_spec.specs.Meaning.{Reached, verdict_in}

-- ---- Holders

-- A set of variables. Holder is 01's term for a variable that holds the loan.
abbrev pub Holders : Type 0
Holders = Variable → Bool

-- the set of one variable
abbrev pub only : Variable → Holders
only v w = eqb w v

-- the set with v in it or not
abbrev pub put : Variable → Bool → Holders → Holders
put v inside h w = cond (eqb w v) inside (h w)

-- What an action leaves in the set. Assign from a plain u into a plain v: v is in exactly if u was. Init, or Assign from a stepped path, into a plain v,
-- and Borrow into any path with base v: v is out. All else: unchanged.
unfoldable pub holders_after : Action → Holders → Holders
holders_after Noop h = h
holders_after (Init d qs) h = cond (is_plain d) (put d.base false h) h
holders_after (Borrow d r k q) h = put d.base false h
holders_after (Assign d q) h = cond (is_plain d) (put d.base (is_plain q && h q.base) h) h
holders_after (Constraint sup sub) h = h
holders_after (Use q) h = h
holders_after (Drop q) h = h
holders_after (StorageDead v) h = h

-- ---- Paths

-- The first of the points follows p, and each other the one before it.
unfoldable pub is_path : Graph → Point → List Point → Bool
is_path g p [] = true
is_path g p (q ∷ qs) = contains (next_of g p) q && is_path g q qs

-- The last of the points uses a holder, judged before its own step; h are the holders before the first.
unfoldable pub uses_holder : Graph → Holders → List Point → Bool
uses_holder g h [] = false
uses_holder g h (q ∷ []) = any h (uses (action_at g q))
uses_holder g h (q ∷ q' ∷ qs) = uses_holder g (holders_after (action_at g q) h) (q' ∷ qs)

-- No action on the path after p conflicts with the loan, as long as none before it, p's own included, overwrote the loan's path or a prefix.
unfoldable pub untouched : Job → Graph → Loan → Point → List Point → Bool
untouched j g loan p [] = true
untouched j g loan p (q ∷ qs) = kills j (action_at g p) loan || not (action_conflicts j (action_at g q) loan) && untouched j g loan q qs

-- ---- The claim

-- The call accepts the record, and writes kind 0 at every point.
pub record WithoutErrors (ends : EndRule) (input ws bs : List ℕ) (j : Job) : Type 0 where
  pub reads : decode input ≡ decoded j
  pub accepted : (analyse ends input ws bs).number ≡ 0
  pub quiet : (p : Point) → p < point_count j → (verdict_in (analyse ends input ws bs).bytes p).kind ≡ 0

-- From the bytes handed in to the bytes written: each path from a borrow of a walked block into a plain variable to a use of a holder.
abbrev pub Guarantee : EndRule → Type 0
Guarantee ends =
    (input ws bs : List ℕ) (j : Job) → WithoutErrors ends input ws bs j
    → (p : Point) (d : Path) (r : RegionName) (k : BorrowKind) (q : Path) → action_at (graph_of j) p ≡ Borrow d r k q → Reached j p → T (is_plain d)
    → (path : List Point) → T (is_path (graph_of j) p path) → T (uses_holder (graph_of j) (only d.base) path)
    → T (untouched j (graph_of j) (record { point = p; region = r; kind = k; path = q }) p path)
