-- `nll::analyse`. Assumes nothing.
use Rattle.repr.proofs.ReadLaws.{passed_on}
use Rattle.nll.proofs.AnalyseLaws.{refuses_record, refuses-short, write-room, answers-job}
use borrow.Author.Rules.{rules}
use Rattle.nll.proofs.analyse.Goals as goal

pub returns-in_err-head : goal.returns-in_err-head
returns-in_err-head c = rw (passed_on c.from_residual.ensures) (refuses_record c.in_err-head.ensures c.args.words.now c.args.bytes.now)

pub returns-then-not-has_room : goal.returns-then-not-has_room
returns-then-not-has_room c = refuses-short c.in_ok-head.ensures c.args.words.now c.args.bytes.now c.has_room.ensures c.if-not-has_room.true

pub write-requires : goal.write-requires
write-requires c = write-room c.in_ok-head.ensures c.args.words.now c.args.bytes.now c.has_room.ensures c.if-not-has_room.false

pub returns : goal.returns
returns c = answers-job c.in_ok-head.ensures c.args.words.now c.args.bytes.now c.has_room.ensures c.if-not-has_room.false (search rules) (search rules) (search rules) c.write.ensures
