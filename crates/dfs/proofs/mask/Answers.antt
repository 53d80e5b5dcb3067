-- `dfs::mask`. Assumes nothing.
use Rattle.dfs.proofs.RunLaws.{mask_bits}
use Rattle.dfs.proofs.mask.Goals as goal

pub returns : goal.returns
returns c = mask_bits c.args.b c.args.n c.requires
