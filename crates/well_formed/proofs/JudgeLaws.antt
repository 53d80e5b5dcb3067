-- The refusal of a record. Assumes nothing.
use mathlib.Core.Path.{◌≡◌, refl, sym, ap, subst, ◌∙◌}
use mathlib.Core.List.{List}
use Prim.Native.Nat.{ℕ, zero, suc}
use Rattle.nll_spec.specs.Syntax.{Job}
use Rattle.nll_spec.specs.Decode as decode
use Rattle.nll_spec.specs.WellFormed.{refusal}
use Rattle.nll_spec.specs.Output.{judge_job, judge}
use Rattle.record.specs.Layout.{Layout, Verdict, DecodedSays}
use Rattle.record.specs.declared.Head.{Head}
use Rattle.record.specs.declared.Offsets.{Offsets}
use Rattle.repr.specs.declared.refusal.Refusal.{Refusal}
use Rattle.well_formed.proofs.PointLaws.{some_number}
use Rattle.repr.specs.Refusals.{number_of}
use Rattle.std.specs.Prelude.{Result, Ok, Err}

job-accepted : (j : Job) → refusal j ≡ 0 → judge_job j ≡ decode.decoded j
unfolding judge_job
job-accepted j e = ap (λ (x : ℕ). elim x [ zero ↦ decode.decoded j | suc n ↦ decode.rejected (suc n) ]) e

job-rejected : (j : Job) (k : ℕ) → k ≡ refusal j → (k ≡ 0 → ⊥) → judge_job j ≡ decode.rejected k
unfolding judge_job
job-rejected j zero e z = absurd (z refl)
job-rejected j (suc k) e z = ap (λ (x : ℕ). elim x [ zero ↦ decode.decoded j | suc n ↦ decode.rejected (suc n) ]) (sym e)

judge-rejected : (s : List ℕ) {k : ℕ} → decode.decode s ≡ decode.rejected k → judge s ≡ decode.rejected k
unfolding judge
judge-rejected s e = ap (λ (x : decode.Decoded). elim x [ decode.rejected n ↦ decode.rejected n | decode.decoded j ↦ judge_job j ]) e

judge-decoded : (s : List ℕ) {j : Job} → decode.decode s ≡ decode.decoded j → judge s ≡ judge_job j
unfolding judge
judge-decoded s e = ap (λ (x : decode.Decoded). elim x [ decode.rejected n ↦ decode.rejected n | decode.decoded j ↦ judge_job j ]) e

module _ {s : List ℕ} {t : Offsets} {d : Result Head Refusal} (v : DecodedSays (decode.decode s) s t d) where
  verdict_at_lem : {x : Result Head Refusal} → d ≡ x → Verdict (decode.decode s) s t x
  verdict_at_lem e = subst (Verdict (decode.decode s) s t) e v.says

  pub record_refused : {k : Refusal} → d ≡ Err k → DecodedSays (judge s) s t (Err k)
  record_refused e = record { says = judge-rejected s (verdict_at_lem e) }

  module _ {h : Head} (e : d ≡ Ok h) {k : ℕ} (f : (j : Job) → Layout s t h j → k ≡ refusal j) where
    judged : judge s ≡ judge_job (verdict_at_lem e).job
    judged = judge-decoded s (verdict_at_lem e).is

    number_is : k ≡ refusal (verdict_at_lem e).job
    number_is = f (verdict_at_lem e).job (verdict_at_lem e).layout

    pub record_accepted : k ≡ 0 → DecodedSays (judge s) s t (Ok h)
    record_accepted z = let a = verdict_at_lem e in record { says = record { job = a.job; is = judged ∙ job-accepted a.job (sym number_is ∙ z); points = a.points; loans = a.loans; layout = a.layout } }

    pub job-refused : {refused : Refusal} → k ≡ number_of refused → DecodedSays (judge s) s t (Err refused)
    job-refused {refused} i = record { says = judged ∙ job-rejected (verdict_at_lem e).job (number_of refused) (sym i ∙ number_is) (some_number refused) }
