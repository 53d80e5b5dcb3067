-- `replay::tally::replay`. The loop's invariant: the first entries are counted. Assumes nothing.
use Rattle.replay.proofs.FileLaws.{count-start, count_in_lem, count-more, count_cut}
use Rattle.replay.proofs.tally.replay.Goals as goal

pub loop-init : goal.loop-init
loop-init c = count-start c.args.s.now c.two_at-entries.ensures.0 c.two_at-entries.ensures.1

pub returns-then-e-s : goal.returns-then-e-s
returns-then-e-s c = count_cut c.loop.invariant c.entry_at-e.ensures c.loop-test.true c.if-e-s.true

pub agree-requires : goal.agree-requires
agree-requires c = count_in_lem c.loop.invariant c.entry_at-e.ensures c.loop-test.true c.requires c.if-e-s.false

pub loop-preserved : goal.loop-preserved
loop-preserved c = count-more c.loop.invariant c.entry_at-e.ensures c.loop-test.true c.requires c.if-e-s.false c.agree.ensures c.from-good.ensures
