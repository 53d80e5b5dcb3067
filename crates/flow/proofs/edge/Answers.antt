-- `flow::edge`. The loop's invariant: the first k words are done, and the others of p are as they were read. Assumes nothing.
use mathlib.Core.Path.{◌≡◌}
use native.Mathlib.Omega.{arith}
use Rattle.flow.proofs.RunningLaws.{word_at, unchanged_yet, unchanged_more, lanes_none, lanes_more}
use Rattle.flow.proofs.edge.Goals as goal

pub loop-k-init : goal.loop-k-init
loop-k-init c = let a = c.args in (lanes_none a.pass.now a.sets.now a.p a.q c.requires.1, unchanged_yet a.sets.now a.p c.words-from.ensures)

pub loop-k-preserved : goal.loop-k-preserved
loop-k-preserved c = let a = c.args in
    let l = c.loop-k in
    let from = l.invariant.1.same l.k (omega arith) (omega arith) in
    let pass = word_at a.pass.now a.q c.words-passes.ensures l.k (omega arith) in (
      lanes_more a.pass.now a.sets.now a.p a.q c.requires.1 l.k (omega arith) l.invariant.0 (rw (← from, ← pass) c.mixed-new.ensures),
      unchanged_more a.p a.q l.k _ (omega arith) l.invariant.1,
    )

pub returns : goal.returns
returns c = let e : c.loop-k.k ≡ 4 = omega arith in rw e at c.loop-k.invariant.0
