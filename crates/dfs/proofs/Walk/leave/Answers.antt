-- `dfs::Walk::leave`: a return for each case of `left`. The loop's invariant: the points so far are visited. Assumes nothing.
use Rattle.std.proofs.Common.{rules}
use Rattle.dfs.proofs.SearchLaws.{nexted_none, nexted_more, code-small}
use Rattle.dfs.proofs.Walk.leave.Goals as goal

pub loop-s-init : goal.loop-s-init
loop-s-init c = nexted_none (search rules) (search rules) c.requires.2

pub loop-s-preserved : goal.loop-s-preserved
loop-s-preserved c = let w = c.args.self.now in nexted_more c.loop-s.invariant (code-small w.words.now w.from w.code c.requires.0) c.loop-s-test.true c.visit.ensures
