-- `regionck::solve`. The loop's invariant: some rounds were run, fewer than `left` bits of the regions are 0, the constraints of `recent` are the job's, and the rows of `absent` are
-- right. Assumes nothing.
use mathlib.Core.Path.{sym, ◌∙◌}
use borrow.Author.Tests.{not-true, not-false}
use native.Mathlib.Omega.{arith}
use Rattle.regionck.proofs.RoundLaws.{sound_none}
use Rattle.regionck.proofs.SolvedLaws.{kept-none, kept_more, going_start, going_more, going_done}
use Rattle.regionck.proofs.solve.Goals as goal

pub loop-init : goal.loop-init
loop-init c = (sound_none c.requires, kept-none c.clear.ensures.1, going_start (omega arith))

pub returns-then-not-any_marked : goal.returns-then-not-any_marked
returns-then-not-any_marked c =
    let loop = c.loop in
    going_done loop.invariant.2 loop.invariant.1 c.round-last.ensures.0 (sym c.any_marked.ensures ∙ not-true _ c.if-not-any_marked.true-raw)

pub loop-preserved : goal.loop-preserved
loop-preserved c =
    let loop = c.loop in
    let r = c.round-last.ensures in
    (r.2, kept_more loop.invariant.1 r.1, going_more (omega arith) loop.invariant.2 loop.invariant.1 r.0 (sym c.any_marked.ensures ∙ not-false _ c.if-not-any_marked.false-raw) c.marked-grew.ensures)
