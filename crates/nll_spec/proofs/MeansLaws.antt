-- Demand 2: what an accepting call writes means what document 01 says, `answers_mean`, for either end rule. And the facts of an accepted record, `accepted_record`.
-- Assumes nothing.
use mathlib.Core.Path.{◌≡◌, refl, sym, ◌∙◌, subst, fun_ext}
use mathlib.Core.Logic.{◌↔◌}
use mathlib.Core.Bool.{Bool, true, false, ◌&&◌, not}
use mathlib.Core.List.{List}
use Prim.Native.Nat.{ℕ, ◌+◌, ◌*◌, ◌<◌, ◌≤◌}
use native.Mathlib.Omega.{arith}
use lib.ListN.{length, get_or}
use lib.Dec.{T, T_not, not_T}
use Rattle.nll_spec.specs.Lists.{any, below, Member}
use Rattle.nll_spec.specs.Fixpoint.{holds}
use Rattle.nll_spec.specs.Syntax.{Job, Point, RegionName}
use Rattle.nll_spec.specs.Decode.{decoded, decode, point_count}
use Rattle.nll_spec.specs.Graph.{graph_of, action_at}
use Rattle.nll_spec.specs.Constraints.{constraints_of}
use Rattle.nll_spec.specs.Regions.{EndRule, seed_table, is_grown}
use Rattle.nll_spec.specs.Access.{Access, accesses, Verdict}
use Rattle.nll_spec.specs.Output.{bit, answer, words_of, bytes_of, verdict_bytes, words_needed, bytes_needed, overwrite, analyse}
use Rattle.nll_spec.specs.Meaning.{Reached, Seed, ConstraintOf, LeastSolution, Faulted, Judged, sets_in, verdict_in, Kept, Means, AnswersMean}
use Rattle.nll_spec.proofs.Tests.{and_intro, and_left, and_right, contains-below, any_of, any_found}
use Rattle.nll_spec.proofs.Least.{held-inside}
use Rattle.nll_spec.proofs.AcceptedLaws.{Accepted, accepted-job}
use Rattle.nll_spec.proofs.SeedLaws.{seed_table_lem, table_seed}
use Rattle.nll_spec.proofs.Names.{sets_of}
use Rattle.nll_spec.proofs.OutputLaws.{Written, written, words-kept, bytes-kept, sized-sets, sets_written, unused_zero, verdict_written, grown_written}
use Rattle.nll_spec.proofs.RegionLaws.{both_named, table_least, least-same, constraint-of, of-constraint}
use Rattle.nll_spec.proofs.VerdictLaws.{judged_fault, scope_reached, verdict_judged}

bit-set : (b : Bool) → bit b ≡ 1 → T b
bit-set true e = tt
bit-set false e = absurd (omega arith)

set-bit : (b : Bool) → T b → bit b ≡ 1
set-bit true t = refl
set-bit false t = elim t [ ]

bit-small : (b : Bool) → bit b ≤ 1
bit-small true = omega arith
bit-small false = omega arith

module _ (ends : EndRule) (j : Job) (ok : Accepted j) (ws bs : List ℕ) where
  abbrev words : List ℕ
  words = overwrite (words_of (answer ends j)) ws

  abbrev bytes : List ℕ
  bytes = overwrite (bytes_of (answer ends j)) bs

  same-sets : (r : RegionName) → r < j.regions → holds (sets_of ends j) r ≡ sets_in (point_count j) words r
  same-sets r h = fun_ext (λ p. sym (sets_written ends j ws r p h))

  least_written : LeastSolution ends (graph_of j) j.regions (Seed j) (ConstraintOf j) (sets_in (point_count j) words)
  least_written =
      least-same ends (graph_of j) j.regions (λ c. Member c (constraints_of j (graph_of j))) (ConstraintOf j) (both_named ends j ok) (λ r q. T (holds (seed_table j (graph_of j)) r q)) (Seed j) (holds (sets_of ends j)) (sets_in (point_count j) words)
      (λ r q h. (seed_table_lem j r q h, table_seed j ok r q h)) (λ c. (constraint-of j c, of-constraint j ok c)) same-sets (table_least ends j ok)

  judged_written : (p : Point) → p < point_count j → Judged (Faulted j (sets_in (point_count j) words) p) 0 (accesses (action_at (graph_of j) p)) (verdict_in bytes p)
  judged_written p h = subst (λ (v : Verdict). Judged (Faulted j (sets_in (point_count j) words) p) 0 (accesses (action_at (graph_of j) p)) v) (sym (verdict_written ends j bs p h)) (verdict_judged j ok (sets_of ends j) (sets_in (point_count j) words) same-sets p)

  fault_written : (p : Point) → p < point_count j
      → ((verdict_in bytes p).kind ≡ 0 → ⊥) ↔ (Reached j p × ((x : Access) × Member x (accesses (action_at (graph_of j) p)) × Faulted j (sets_in (point_count j) words) p x))
  fault_written p h = (λ e. let f = both.0 e in (reached f.0 f.2, f), λ f. both.1 f.1)
    where
      both : ((verdict_in bytes p).kind ≡ 0 → ⊥) ↔ ((x : Access) × Member x (accesses (action_at (graph_of j) p)) × Faulted j (sets_in (point_count j) words) p x)
      both = judged_fault (Faulted j (sets_in (point_count j) words) p) 0 (accesses (action_at (graph_of j) p)) (verdict_in bytes p) (judged_written p h)

      reached : (x : Access) → Faulted j (sets_in (point_count j) words) p x → Reached j p
      reached x f = scope_reached j (sets_in (point_count j) words f.loan.region) f.loan f.of-job p f.in_scope

  module _ (r : RegionName) (declared : r < length j.outlives) where
    is-region : r < j.regions
    is-region = omega (arith, ok.declared-named)

    beyond : Point → Bool
    beyond p = holds (sets_of ends j) r p && not (holds (seed_table j (graph_of j)) r p)

    mark : get_or bytes (verdict_bytes * point_count j + r) 0 ≡ bit (any beyond (below (graph_of j).points))
    unfolding is_grown beyond
    mark = grown_written ends j bs r declared

    grown_iff : (get_or bytes (verdict_bytes * point_count j + r) 0 ≡ 1) ↔ ((p : Point) × T (sets_in (point_count j) words r p) × (Seed j r p → ⊥))
    unfolding beyond
    grown_iff = (exceeds, exceeding)
      where
        exceeds : get_or bytes (verdict_bytes * point_count j + r) 0 ≡ 1 → (p : Point) × T (sets_in (point_count j) words r p) × (Seed j r p → ⊥)
        exceeds e =
            let (p, c, t) = any_found beyond (below (graph_of j).points) (bit-set (any beyond (below (graph_of j).points)) (sym mark ∙ e)) in (
              p,
              subst (λ (s : Point → Bool). T (s p)) (same-sets r is-region) (and_left (holds (sets_of ends j) r p) (not (holds (seed_table j (graph_of j)) r p)) t),
              λ s. T_not (holds (seed_table j (graph_of j)) r p) (and_right (holds (sets_of ends j) r p) (not (holds (seed_table j (graph_of j)) r p)) t) (table_seed j ok r p is-region s),
            )

        exceeding : (p : Point) × T (sets_in (point_count j) words r p) × (Seed j r p → ⊥) → get_or bytes (verdict_bytes * point_count j + r) 0 ≡ 1
        exceeding (p, t, out) =
            mark
            ∙ set-bit (any beyond (below (graph_of j).points))
            (any_of beyond (below (graph_of j).points) p (contains-below (graph_of j).points p (held-inside (sets_of ends j) r p (sized-sets ends j) inside).1)
            (and_intro (holds (sets_of ends j) r p) (not (holds (seed_table j (graph_of j)) r p)) inside (not_T (holds (seed_table j (graph_of j)) r p) (λ s. out (seed_table_lem j r p is-region s)))))
          where
            inside : T (holds (sets_of ends j) r p)
            inside = subst (λ (s : Point → Bool). T (s p)) (sym (same-sets r is-region)) t

  answer-means : Kept (words_needed j) ws words → Kept (bytes_needed j) bs bytes → Means ends j ws bs words bytes
  answer-means words-kept bytes-kept =
      record {
        words-kept = words-kept;
        bytes-kept = bytes-kept;
        least-sets = least_written;
        unused = unused_zero ends j ws;
        verdicts = judged_written;
        faults = fault_written;
        grown = grown_iff;
        marks = λ r h. subst (λ (n : ℕ). n ≤ 1) (sym (mark r h)) (bit-small (any (beyond r h) (below (graph_of j).points)));
      }

-- an accepting call's job has none of refusals 6 to 9
pub accepted_record : (ends : EndRule) (input ws bs : List ℕ) (j : Job) → decode input ≡ decoded j → (analyse ends input ws bs).number ≡ 0 → Accepted j
accepted_record ends input ws bs j e n = accepted-job j (written ends input ws bs j e n).not-refused

pub answers_mean : (ends : EndRule) → AnswersMean ends
answers_mean ends input ws bs j e n =
    subst (λ (x : List ℕ). Means ends j ws bs x (analyse ends input ws bs).bytes) (sym w.words)
    (subst (λ (x : List ℕ). Means ends j ws bs (overwrite (words_of (answer ends j)) ws) x) (sym w.bytes)
    (answer-means ends j (accepted_record ends input ws bs j e n) ws bs
    (subst (λ (x : List ℕ). Kept (words_needed j) ws x) w.words (words-kept ends input ws bs j w))
    (subst (λ (x : List ℕ). Kept (bytes_needed j) bs x) w.bytes (bytes-kept ends input ws bs j w))))
  where
    w : Written ends input ws bs j
    w = written ends input ws bs j e n
