-- `infer::is_subset`. The loop's invariant: lacks is `or_grows` of the words so far. Assumes nothing.
use Prim.Native.Nat.{ℕ, ◌+◌}
use denote.Ref.{Bor}
use Rattle.std.proofs.lemmas.Slice.Zip.{zip_turn}
use Rattle.infer.proofs.SubsetLaws.{run, compare_more}
use Rattle.infer.proofs.is_subset.Goals as goal

pub loop-inner-preserved : goal.loop-inner-preserved
loop-inner-preserved c =
    let a = c.args in
    let l = c.loop-inner in
    let p : Bor ℕ × Bor ℕ = (c.in-Some.inner, c.in-Some.outer) in
    let t = zip_turn (run a.words.now a.from (a.from + a.n)) (run a.words.now a.to (a.to + a.n)) l.yielded c.into_iter-inner-iterator.result l.inner-iterator c.next.new.self c.next.result (cc) (cc) l.yielded_by p c.in-Some.is c.next.ensures.steps in
    compare_more a.words.now a.from a.to a.n p.0.now p.1.now l.lacks l.yielded p l.invariant t.0 t.1 (t.2 0) (t.3 0)
