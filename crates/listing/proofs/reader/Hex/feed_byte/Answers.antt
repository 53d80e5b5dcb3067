-- `listing::reader::Hex::feed_byte` meets its contract. Assumes nothing.
use mathlib.Core.Path.{refl, sym, ◌∙◌}
use Rattle.listing.proofs.ReadLaws.{read_skip, read_more, read_other, read_first, read_second}
use Rattle.listing.proofs.reader.Hex.feed_byte.Goals as goal

pub returns-then-is_skipped : goal.returns-then-is_skipped
returns-then-is_skipped c = λ text m. read_skip m c.args.c (sym c.is_skipped.ensures ∙ c.if-is_skipped.true)

pub returns-in_default : goal.returns-in_default
returns-in_default c = λ text m. read_other m c.args.c refl (sym c.is_skipped.ensures ∙ c.if-is_skipped.false) c.in_default.ensures.value refl

pub returns-in-Paired : goal.returns-in-Paired
returns-in-Paired c = λ text m. read_first m c.args.c refl (sym c.is_skipped.ensures ∙ c.if-is_skipped.false) c.in-Some.ensures.value c.in-Paired.is refl

pub returns-in-Half : goal.returns-in-Half
returns-in-Half c = λ text m. read_second m c.args.c (sym c.is_skipped.ensures ∙ c.if-is_skipped.false) c.in-Some.ensures.value c.in-Half.is c.keep.ensures refl refl

pub returns-in-Other : goal.returns-in-Other
returns-in-Other c = λ text m. read_more m c.args.c refl c.in-Other.is c.in-Other.is
