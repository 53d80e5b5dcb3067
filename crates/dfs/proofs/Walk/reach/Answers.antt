-- `dfs::Walk::reach`. Assumes nothing.
use Rattle.dfs.specs.Walk.{in_code}
use Rattle.dfs.proofs.SearchLaws.{straight, code-small, walk-starts, walk_none}
use Rattle.dfs.proofs.Walk.reach.Goals as goal

pub returns-then-self-p : goal.returns-then-self-p
returns-then-self-p c = let a = c.args in
    λ l ch. walk_none a.self.now.words.now a.self.now.from a.self.now.code a.p c.test.result c.test.ensures a.self.now.graph.now.first a.self.now.graph.now.succ c.if-self-p.true l

pub returns-then-is_linked : goal.returns-then-is_linked
returns-then-is_linked c = let a = c.args in
    let w = walk-starts a.self.now.words.now a.self.now.from a.self.now.code a.p c.test.result c.test.ensures c.if-self-p.false in
    λ l ch. straight a.self.now.chain.now a.self.now.graph.now.first a.self.now.graph.now.succ (in_code a.self.now.words.now a.self.now.from a.self.now.code) a.p (code-small a.self.now.words.now a.self.now.from a.self.now.code l) c.follow-end.new.points c.follow-end.result c.is_linked.result w.1 c.follow-end.ensures c.is_linked.ensures c.if-is_linked.true ch
