-- `infer::any_marked` meets its contract. Assumes nothing.
use Rattle.std.proofs.Common.{rules}
use Rattle.infer.proofs.RanLaws.{any-marked}
use Rattle.infer.proofs.any_marked.Goals as goal

pub returns : goal.returns
returns c = any-marked c.args.grew.now (search rules) (λ k. c.fits-grew k) c.some_set.ensures
