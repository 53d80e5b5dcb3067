-- `buffer::Buffer::push`: past the byte that is put the room is as it was. Assumes nothing.
use Rattle.std.proofs.Common.{rules, ◌∙◌, ◌+◌, arith, drop-set-lt}
use Rattle.buffer.proofs.RoomLaws.{room_after}
use Rattle.buffer.proofs.Buffer.push.Goals as goal

pub invariant_of-self : goal.invariant_of-self
invariant_of-self g c =
    let b = c.self.inside in
    (search rules, drop-set-lt (b.len + 1) b.bytes b.len c.args.byte (omega arith) ∙ room_after g.row.N b.len 1 b.bytes c.self.invariant.1)
