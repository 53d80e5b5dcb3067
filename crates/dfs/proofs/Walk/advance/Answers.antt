-- `dfs::Walk::advance`: each return is a law of ChainLaws or RunLaws. Assumes nothing.
use native.Mathlib.Omega.{arith}
use Rattle.std.proofs.Common.{rules}
use Rattle.dfs.proofs.RunLaws.{one_run}
use Rattle.dfs.proofs.Walk.advance.Goals as goal

pub returns : goal.returns
returns c = let a = c.args in
    let n = c.min-n in
    let run = c.run_length in
    one_run a.self.now.chain.now a.self.now.words.now a.self.now.from a.self.now.code a.points.now a.q (search rules) c.requires.0 c.if-self-next.false c.is_linked.result c.test.result c.is_linked.ensures c.if-not-is_linked.false c.test.ensures c.if-not-test.false run.result n.result c.mask.result run.ensures (omega arith) (omega arith) (omega arith) c.mask.ensures
