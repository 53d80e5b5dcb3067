-- `dfs::Walk::visit`: each return is a way that a visit goes. Assumes nothing.
use mathlib.Core.Path.{sym, ◌∙◌}
use native.Mathlib.Omega.{arith}
use Rattle.graph.specs.Search.{state_of}
use Rattle.dfs.specs.Walk.{in_code}
use Rattle.dfs.proofs.SearchLaws.{visited_within, code_held}
use Rattle.dfs.proofs.Walk.visit.Goals as goal

pub returns : goal.returns
returns c = let a = c.args in
    let w = a.self.now in
    c.push.ensures ∙ visited_within (in_code w.words.now w.from w.code) a.s (state_of a.search.now) c.requires.1 (omega arith) (rw c.from-at.ensures at c.if-search-at-ne0.false)
    (code_held w.words.now w.from w.code a.s (omega arith) (rw c.from-at.ensures at (sym c.test.ensures ∙ c.if-not-test.false)))
