-- `dfs::Walk::leave`. The loop's invariant: the points so far are visited. Assumes nothing.
use Rattle.graph.specs.Search.{state_of}
use Rattle.dfs.specs.Walk.{in_code}
use Rattle.dfs.proofs.SearchLaws.{Nexted}
use Rattle.dfs.proofs.Walk.leave.Given as goal

abbrev pub invariant-loop-s : goal.invariant-loop-s
invariant-loop-s l =
    Nexted (in_code l.self.words.now l.self.from l.self.code) l.fn.self.graph.now.first l.fn.self.graph.now.succ l.fn.q l.s-items l.s-index (state_of l.initial.search) (state_of l.search)
