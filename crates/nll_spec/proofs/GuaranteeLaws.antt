-- Demand 3: `guarantee`, for either end rule. It follows from what the written words and bytes mean: the borrow's region has the whole path, so the loan
-- stays in scope on it until it is overwritten, and a conflict there would be a fault.
-- Assumes nothing.
use mathlib.Core.Path.{◌≡◌, refl, sym, subst}
use mathlib.Core.Logic.{◌⊎◌, inl, inr}
use mathlib.Core.Bool.{Bool, true, false, ◌&&◌, ◌||◌, not}
use mathlib.Core.List.{List, [], ◌∷◌}
use Prim.Native.Nat.{ℕ, ◌<◌}
use lib.Dec.{T, not_T}
use Rattle.nll_spec.specs.Lists.{every, contains, Member}
use Rattle.nll_spec.specs.Syntax.{Point, Job}
use Rattle.nll_spec.specs.Decode.{point_count}
use Rattle.nll_spec.specs.Graph.{graph_of, action_at, next_of}
use Rattle.nll_spec.specs.Regions.{EndRule}
use Rattle.nll_spec.specs.Loans.{Loan, kills}
use Rattle.nll_spec.specs.Access.{Access, accesses, conflicts, action_conflicts}
use Rattle.nll_spec.specs.Output.{analyse}
use Rattle.nll_spec.specs.Meaning.{Sets, LoanOf, ScopePath, first, more, sets_in, verdict_in, Means}
use Rattle.nll_spec.specs.Guarantee.{is_path, untouched, Guarantee}
use Rattle.nll_spec.proofs.Tests.{and_intro, and_left, and_right}
use Rattle.nll_spec.proofs.Members.{any_element}
use Rattle.nll_spec.proofs.GraphLaws.{next_in_code, code_in_points}
use Rattle.nll_spec.proofs.AcceptedLaws.{Accepted}
use Rattle.nll_spec.proofs.OutputLaws.{points-of}
use Rattle.nll_spec.proofs.VerdictLaws.{scope_reached}
use Rattle.nll_spec.proofs.HolderLaws.{borrow-region}
use Rattle.nll_spec.proofs.MeansLaws.{accepted_record, answers_mean}

module _ (ends : EndRule) (j : Job) (ok : Accepted j) (old-ws old-bs ws bs : List ℕ) (means : Means ends j old-ws old-bs ws bs) (quiet : (p : Point) → p < point_count j → (verdict_in bs p).kind ≡ 0) where
  abbrev sets : Sets
  sets = sets_in (point_count j) ws

  -- where no point is faulted, no action conflicts with a loan in scope
  no_conflict : (loan : Loan) → LoanOf j loan → (q : Point) → q < point_count j → ScopePath j (sets loan.region) loan q → T (action_conflicts j (action_at (graph_of j) q) loan) → ⊥
  unfolding action_conflicts
  no_conflict loan l q h path t =
      (means.faults q h).1 (scope_reached j (sets loan.region) loan l q path, (x.0, x.1, record { loan = loan; of-job = l; in_scope = path; conflict = x.2 })) (quiet q h)
    where
      x : (a : Access) × Member a (accesses (action_at (graph_of j) q)) × T (conflicts j a loan)
      x = any_element (λ (a : Access). conflicts j a loan) (accesses (action_at (graph_of j) q)) t

  -- a path that the loan's region has is untouched
  untouched-on : (loan : Loan) → LoanOf j loan → (p : Point) (qs : List Point) → (p ≡ loan.point) ⊎ ScopePath j (sets loan.region) loan p → T (is_path (graph_of j) p qs) → T (every (sets loan.region) qs)
      → T (untouched j (graph_of j) loan p qs)
  unfolding untouched is_path
  untouched-on loan l p [] from path inside = tt
  untouched-on loan l p (q ∷ qs) from path inside =
      go (kills j (action_at (graph_of j) p) loan) refl (λ s. untouched-on loan l q qs (inr s) (and_right (contains (next_of (graph_of j) p) q) (is_path (graph_of j) q qs) path) (and_right (sets loan.region q) (every (sets loan.region) qs) inside))
    where
      next : T (contains (next_of (graph_of j) p) q)
      next = and_left (contains (next_of (graph_of j) p) q) (is_path (graph_of j) q qs) path

      region : T (sets loan.region q)
      region = and_left (sets loan.region q) (every (sets loan.region) qs) inside

      is-point : q < point_count j
      is-point = subst (λ (n : ℕ). q < n) (points-of j) (code_in_points j q (next_in_code j ok.successors-named p q next))

      step : (p ≡ loan.point) ⊎ ScopePath j (sets loan.region) loan p → T (not (kills j (action_at (graph_of j) p) loan)) → ScopePath j (sets loan.region) loan q
      step (inl e) kept = first (subst (λ (x : Point). T (contains (next_of (graph_of j) x) q)) e next) region (subst (λ (x : Point). T (not (kills j (action_at (graph_of j) x) loan))) e kept)
      step (inr s) kept = more s next region kept

      go : (b : Bool) → kills j (action_at (graph_of j) p) loan ≡ b → (ScopePath j (sets loan.region) loan q → T (untouched j (graph_of j) loan q qs))
          → T (b || not (action_conflicts j (action_at (graph_of j) q) loan) && untouched j (graph_of j) loan q qs)
      go true e ih = tt
      go false e ih =
          let s : ScopePath j (sets loan.region) loan q = step from (subst (λ (b : Bool). T (not b)) (sym e) tt) in
          and_intro (not (action_conflicts j (action_at (graph_of j) q) loan)) (untouched j (graph_of j) loan q qs) (not_T (action_conflicts j (action_at (graph_of j) q) loan) (no_conflict loan l q is-point s)) (ih s)

pub guarantee : (ends : EndRule) → Guarantee ends
guarantee ends input ws bs j clean p d r k q borrow at plain path follows used =
    untouched-on ends j ok ws bs (analyse ends input ws bs).words (analyse ends input ws bs).bytes means clean.quiet loan (record { into = d; borrow = borrow; walked = at }) p path (inl refl) follows
    (borrow-region ends j ok (sets_in (point_count j) (analyse ends input ws bs).words) means.least-sets.solves p d r k q borrow at plain path follows used)
  where
    ok : Accepted j
    ok = accepted_record ends input ws bs j clean.reads clean.accepted

    means : Means ends j ws bs (analyse ends input ws bs).words (analyse ends input ws bs).bytes
    means = answers_mean ends input ws bs j clean.reads clean.accepted

    loan : Loan
    loan = record { point = p; region = r; kind = k; path = q }
