use Rattle.env.proofs.PathLaws as laws
use Rattle.env.proofs.paths.copied.Goals as goal

pub returns-in_err-copy : goal.returns-in_err-copy
returns-in_err-copy c = rw c.from_residual.ensures (laws.copy_large c.copy.ensures c.in_err-copy.was)
