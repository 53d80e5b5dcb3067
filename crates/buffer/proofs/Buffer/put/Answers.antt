-- `buffer::Buffer::put`: past the bytes that are put the room is as it was. Assumes nothing.
use Rattle.std.proofs.Common.{rules, ◌∙◌, ◌+◌, ◌-◌, length}
use Rattle.std.proofs.lemmas.Slice.{drop-put_mid}
use Rattle.buffer.proofs.RoomLaws.{room_after}
use Rattle.buffer.proofs.Buffer.put.Goals as goal

pub invariant_of-self : goal.invariant_of-self
invariant_of-self g c =
    let b = c.self.inside in
    let n = length c.args.src.now in
    (search rules, drop-put_mid b.len (b.len + n - b.len) b.bytes c.copy_from_slice.new.self (b.len + n) (search rules) (search rules) (search rules) ∙ room_after g.row.N b.len n b.bytes c.self.invariant.1)
