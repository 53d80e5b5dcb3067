-- `replay::file::entry_at`. Assumes nothing.
use Rattle.replay.proofs.FileLaws.{entry-is}
use Rattle.replay.proofs.file.entry_at.Goals as goal

pub returns : goal.returns
returns c = entry-is c.args.s.now c.args.at c.two_at.ensures.0 c.two_at-count.ensures.0 c.two_at-2.ensures.0
