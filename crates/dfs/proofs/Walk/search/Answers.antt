-- `dfs::Walk::search`. The loop's invariant: `Going`. The measure is `work`. Assumes nothing.
use mathlib.Core.Path.{◌∙◌}
use native.Mathlib.Omega.{arith}
use lib.ListN.{replicate}
use Rattle.graph.specs.Search.{state, state_of}
use Rattle.graph.proofs.SearchLaws.{within_pushed}
use Rattle.dfs.specs.Walk.{in_code}
use Rattle.dfs.proofs.SearchLaws.{going_start, popped_small, turn_popped, finish, code-small}
use Rattle.dfs.proofs.Walk.search.Goals as goal

pub loop-q-init : goal.loop-q-init
loop-q-init c = let w = c.args.self.now in
    let small = code-small w.words.now w.from w.code c.requires.0 in
    rw (c.push.ensures ∙ within_pushed 1024 c.args.p (state (replicate 1024 0) (replicate 1024 0) 0) (small c.args.p c.requires.1) (omega arith)) (going_start w.chain.now w.graph.now.first w.graph.now.succ (in_code w.words.now w.from w.code) c.args.p small c.requires.1)

pub follow-end-requires : goal.follow-end-requires
follow-end-requires c = let w = c.args.self.now in
    (c.requires.0, popped_small w.chain.now w.graph.now.first w.graph.now.succ (in_code w.words.now w.from w.code) c.args.p (code-small w.words.now w.from w.code c.requires.0) c.loop-q.invariant c.in-Some.ensures)

-- a turn of the loop is a turn of the search
pub loop-q-smaller : goal.loop-q-smaller
loop-q-smaller c = let w = c.args.self.now in
    (turn_popped w.chain.now w.graph.now.first w.graph.now.succ (in_code w.words.now w.from w.code) c.args.p (code-small w.words.now w.from w.code c.requires.0)
    c.loop-q.invariant c.in-Some.ensures c.follow-end.ensures c.is_leaf-exit.ensures c.leave.ensures).less

pub loop-q-preserved : goal.loop-q-preserved
loop-q-preserved c = let w = c.args.self.now in
    (turn_popped w.chain.now w.graph.now.first w.graph.now.succ (in_code w.words.now w.from w.code) c.args.p (code-small w.words.now w.from w.code c.requires.0)
    c.loop-q.invariant c.in-Some.ensures c.follow-end.ensures c.is_leaf-exit.ensures c.leave.ensures).going

pub returns : goal.returns
returns c = let w = c.args.self.now in
    finish w.chain.now w.graph.now.first w.graph.now.succ (in_code w.words.now w.from w.code) c.args.p (code-small w.words.now w.from w.code c.requires.0)
    c.loop-q.points c.loop-q.exit (state_of c.loop-q.search) c.loop-q.invariant c.in_default.ensures.0
