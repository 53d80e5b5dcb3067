-- `listing::reader::Hex::finish` meets its contract. Assumes nothing.
use mathlib.Core.Path.{◌∙◌}
use Rattle.listing.proofs.ReadLaws.{end_whole, end_none}
use Rattle.listing.proofs.reader.Hex.finish.Goals as goal

pub returns-in-Paired : goal.returns-in-Paired
returns-in-Paired c = λ text m. c.as_bytes.ensures.same ∙ end_whole m c.in-Paired.is

pub returns-in-Half : goal.returns-in-Half
returns-in-Half c = λ text m. end_none m c.in-Half.is
