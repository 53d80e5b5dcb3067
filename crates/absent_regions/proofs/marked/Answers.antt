-- `absent_regions::marked` meets its contract. Assumes nothing.
use Rattle.std.proofs.Common.{rules}
use Rattle.absent_regions.proofs.MarkLaws.{marks-both}
use Rattle.absent_regions.proofs.marked.Goals as goal

pub returns : goal.returns
returns c = rw c.union_from.ensures.0 (marks-both c.args.last.now c.args.grew.now (search rules) (search rules))
