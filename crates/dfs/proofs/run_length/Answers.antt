-- `dfs::run_length`. Assumes nothing.
use native.Mathlib.Omega.{arith}
use Rattle.dfs.proofs.RunLaws.{run_steps}
use Rattle.dfs.proofs.run_length.Goals as goal

pub returns : goal.returns
returns c = run_steps c.args.links c.args.inner c.args.b (omega arith)
