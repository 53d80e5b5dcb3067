-- `repr::Cursor::paths` meets its contract. Assumes nothing.
use Rattle.repr.proofs.RowLaws.{along_ends}
use Rattle.std.proofs.Common.{rules}
use Rattle.repr.proofs.Cursor.paths.Goals as goal

pub returns : goal.returns
returns c = along_ends _ _ (λ d r p. search rules) c.each.ensures
