-- `dfs::Walk::search`. The loop's invariant: `Going`. The measure is `work`. Assumes nothing.
use Rattle.graph.proofs.SearchLaws.{work}
use Rattle.graph.specs.Search.{state_of}
use Rattle.dfs.specs.Walk.{in_code}
use Rattle.dfs.proofs.SearchLaws.{Going}
use Rattle.dfs.proofs.Walk.search.Given as goal

abbrev pub invariant-loop-q : goal.invariant-loop-q
invariant-loop-q l = Going l.self.chain.now l.self.graph.now.first l.self.graph.now.succ (in_code l.self.words.now l.self.from l.self.code) l.p l.points l.exit (state_of l.search)

abbrev pub decreases-loop-q : goal.decreases-loop-q
decreases-loop-q l = work (state_of l.search)
