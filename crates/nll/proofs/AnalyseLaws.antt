-- The call's promise, from `nll_spec`'s theorems. Assumes nothing.
use mathlib.Core.Path.{◌≡◌, refl, sym, ap, ap₂, subst, ◌∙◌}
use mathlib.Core.Bool.{Bool, true, false, ◌&&◌}
use mathlib.Core.List.{List}
use Prim.Native.Nat.{ℕ, ◌≤◌}
use native.Mathlib.Omega.{arith}
use lib.ListN.{length}
use lib.Dec.{leb}
use Rattle.nll_spec.specs.Syntax.{Job}
use Rattle.nll_spec.specs.Decode.{rejected, decoded, point_count}
use Rattle.nll_spec.specs.WellFormed.{refusal}
use Rattle.nll_spec.specs.Regions.{every_end}
use Rattle.nll_spec.specs.Output.{Outcome, answer, words_of, bytes_of, words_needed, bytes_needed, overwrite, unchanged, judge, analyse}
use Rattle.nll_spec.specs.Meaning.{Room}
use Rattle.nll_spec.proofs.OutputLaws.{Leaves, rejecting, overfull, accepting, analyse-leaves, refuses}
use Rattle.nll_spec.proofs.MeansLaws.{answers_mean}
use Rattle.nll_spec.proofs.GuaranteeLaws.{guarantee}
use Rattle.std.specs.Prelude.{Result, Ok, Err}
use Rattle.repr.specs.Refusals.{number_of}
use Rattle.repr.specs.declared.refusal.Refusal.{Refusal}
use Rattle.record.specs.Layout.{Accepted, DecodedSays}
use Rattle.record.specs.declared.Head.{Head}
use Rattle.record.specs.declared.Record.{Record}
use Rattle.record.specs.declared.Offsets.{Offsets}
use Rattle.infer.specs.declared.Shape.{Shape}
use Rattle.nll.specs.Analysis.{AnalyseSays, points_of}
use Rattle.nll.specs.Steps.{shape_of, room_for, JobAt, Writes}
use Rattle.nll.proofs.JobLaws.{points-are, room-is}
use Rattle.nll.proofs.RoomLaws.{both, none}

-- what an accepting call leaves
abbrev answered : List ℕ → List ℕ → Job → Outcome
answered ws bs j = record { number = 0; words = overwrite (words_of (answer every_end j)) ws; bytes = overwrite (bytes_of (answer every_end j)) bs }

module _ (input ws bs : List ℕ) where
  -- what the definition gives promises all of it
  defined : AnalyseSays input ws bs (analyse every_end input ws bs).number (analyse every_end input ws bs).words (analyse every_end input ws bs).bytes
  defined =
      let r = refuses every_end input ws bs in
      record {
        number = refl;
        words = refl;
        bytes = refl;
        refuses = record { one_of_ten = r.one_of_ten; accepted = r.accepted; too_short = r.too_short; refused = r.refused; unchanged = r.untouched };
        means = answers_mean every_end input ws bs;
        guarantee = λ j w. guarantee every_end input ws bs j (record { reads = w.reads; accepted = w.accepted; quiet = w.quiet });
      }

  promised : {n : ℕ} {ws' bs' : List ℕ} → analyse every_end input ws bs ≡ record { number = n; words = ws'; bytes = bs' } → AnalyseSays input ws bs n ws' bs'
  promised e = subst (λ (o : Outcome). AnalyseSays input ws bs o.number o.words o.bytes) e defined

  -- ---- What the definition leaves

  leaves-refused : {k : ℕ} → judge input ≡ rejected k → analyse every_end input ws bs ≡ unchanged k ws bs
  leaves-refused {k} q = go (analyse every_end input ws bs) (analyse-leaves every_end input ws bs)
    where
      clash : (j : Job) → judge input ≡ decoded j → ⊥
      clash j f = let z : ◌≡◌ {A = ℕ} 0 1 = cc in omega arith

      same : (n : ℕ) → judge input ≡ rejected n → n ≡ k
      same n f = cc

      go : (o : Outcome) → Leaves every_end input ws bs o → o ≡ unchanged k ws bs
      go o (rejecting n p l h) = ap (λ (m : ℕ). unchanged m ws bs) (same n p)
      go o (overfull j p no_room) = absurd (clash j p)
      go o (accepting j p d r room) = absurd (clash j p)

  module _ {j : Job} (q : judge input ≡ decoded j) where
    clash : (n : ℕ) → judge input ≡ rejected n → ⊥
    clash n f = let z : ◌≡◌ {A = ℕ} 0 1 = cc in omega arith

    same : (k : Job) → judge input ≡ decoded k → k ≡ j
    same k f = cc

    leaves-short : (Room j ws bs → ⊥) → analyse every_end input ws bs ≡ unchanged 10 ws bs
    leaves-short none = go (analyse every_end input ws bs) (analyse-leaves every_end input ws bs)
      where
        go : (o : Outcome) → Leaves every_end input ws bs o → o ≡ unchanged 10 ws bs
        go o (rejecting n p l h) = absurd (clash n p)
        go o (overfull k p no_room) = refl
        go o (accepting k p d r room) = absurd (none (subst (λ (x : Job). Room x ws bs) (same k p) room))

    leaves-answer : Room j ws bs → (refusal j ≡ 0) × (analyse every_end input ws bs ≡ answered ws bs j)
    leaves-answer room = go (analyse every_end input ws bs) (analyse-leaves every_end input ws bs)
      where
        go : (o : Outcome) → Leaves every_end input ws bs o → (refusal j ≡ 0) × (o ≡ answered ws bs j)
        go o (rejecting n p l h) = absurd (clash n p)
        go o (overfull k p no_room) = absurd (no_room (subst (λ (x : Job). Room x ws bs) (sym (same k p)) room))
        go o (accepting k p d r h) = let e = same k p in (ap refusal (sym e) ∙ r, ap (answered ws bs) e)

-- ---- The points

-- what is said of an answer is said of what it is
pub judged : {input : List ℕ} {t : Offsets} {r x : Result Head Refusal} → DecodedSays (judge input) input t r → r ≡ x → DecodedSays (judge input) input t x
judged {input} {t} m e = subst (DecodedSays (judge input) input t) e m

-- a refused record has no points
pub no_points : {input : List ℕ} {t : Offsets} {k : Refusal} → DecodedSays (judge input) input t (Err k) → 0 ≡ points_of (judge input)
no_points m = sym (ap points_of m.says)

module _ {input : List ℕ} {t : Offsets} {h : Head} (m : DecodedSays (judge input) input t (Ok h)) {shape : Shape} (s : shape ≡ shape_of h) where
  counted : shape.points ≡ point_count m.says.job
  counted = ap (λ (x : Shape). x.points) s ∙ points-are m.says.layout

  pub points-fit : shape.points ≤ 1024
  points-fit = omega (arith, counted, m.says.points)

  pub points-counted : shape.points ≡ points_of (judge input)
  points-counted = counted ∙ sym (ap points_of m.says.is)

-- ---- The call

pub refuses_record : {input : List ℕ} {t : Offsets} {k : Refusal} → DecodedSays (judge input) input t (Err k) → (ws bs : List ℕ) → AnalyseSays input ws bs (number_of k) ws bs
refuses_record {input = input} m ws bs = promised input ws bs (leaves-refused input ws bs m.says)

module _ {input : List ℕ} {t : Offsets} {h : Head} (m : DecodedSays (judge input) input t (Ok h)) (ws bs : List ℕ) {room : Bool} (tested : room ≡ room_for h (length ws) (length bs)) where
  job : Accepted (judge input) input t h
  job = m.says

  room_test : room ≡ (leb (words_needed job.job) (length ws) && leb (bytes_needed job.job) (length bs))
  room_test = tested ∙ room-is job.layout (length ws) (length bs)

  pub refuses-short : room ≡ false → AnalyseSays input ws bs 10 ws bs
  refuses-short missing =
      promised input ws bs (leaves-short input ws bs job.is (none (words_needed job.job) (length ws) (bytes_needed job.job) (length bs) (sym room_test ∙ missing)))

  pub write-room : room ≡ true → (h.declared ≤ 128) × (room_for h (length ws) (length bs) ≡ true)
  write-room there = (omega (arith, job.layout.declared_limit), sym tested ∙ there)

  pub answers-job : room ≡ true → {r : Record} → r.bytes.now ≡ input → r.layout.now ≡ t → r.head ≡ h → {ws' bs' : List ℕ} → Writes r ws bs ws' bs' → AnalyseSays input ws bs 0 ws' bs'
  answers-job there {r} es et eh w =
      let k : Room job.job ws bs = both (words_needed job.job) (length ws) (bytes_needed job.job) (length bs) (sym room_test ∙ there) in
      let l = leaves-answer input ws bs job.is k in
      let a : JobAt r job.job = record { layout = rw (es, et, eh) job.layout; accepted = l.0; points = job.points; loans = job.loans } in
      promised input ws bs (l.1 ∙ ap₂ (λ (x y : List ℕ). unchanged 0 x y) (sym (w.words job.job a k)) (sym (w.bytes job.job a k)))
