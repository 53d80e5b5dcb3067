-- `regionck::regionck`: the rounds are run with the chain of the tables. Assumes nothing.
use Rattle.std.proofs.Common.{rules}
use Rattle.regionck.proofs.regionck.Goals as goal

pub returns-else-shape-le128 : goal.returns-else-shape-le128
returns-else-shape-le128 c = (search rules, λ j x. c.with_tables-else-shape-le128.ensures j x c.chains-chain.ensures)
