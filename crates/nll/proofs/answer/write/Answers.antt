-- `nll::answer::write`. Assumes nothing.
use lib.ListN.{length}
use Rattle.nll.proofs.RoomLaws.{marks-room}
use Rattle.nll.proofs.WriteLaws.{writes}
use Rattle.nll.proofs.answer.write.Goals as goal

pub marks-requires : goal.marks-requires
marks-requires c = (c.requires.0, marks-room c.args.input.now.head (length c.args.words.now) (length c.args.bytes.now) c.requires.1 c.verdicts.ensures.size)

pub returns : goal.returns
returns c = writes c.fill.ensures.0 c.fill.ensures.1 c.solve.ensures c.verdicts.ensures c.marks.ensures
