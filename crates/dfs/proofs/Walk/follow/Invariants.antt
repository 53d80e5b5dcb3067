-- `dfs::Walk::follow`. The loop's invariant: `Along`. Assumes nothing.
use Prim.Native.Nat.{◌-◌}
use Rattle.dfs.specs.Walk.{in_code, Along}
use Rattle.dfs.proofs.Walk.follow.Given as goal

abbrev pub invariant-loop-at : goal.invariant-loop-at
invariant-loop-at l = Along l.self.chain.now (in_code l.self.words.now l.self.from l.self.code) l.initial.points l.points l.q l.at

abbrev pub decreases-loop-at : goal.decreases-loop-at
decreases-loop-at l = 1024 - l.at
