-- `rerun::make_room` meets its contract. Assumes nothing.
use Rattle.constraint_list.proofs.ListLaws.{draws_cleared}
use Rattle.rerun.proofs.make_room.Goals as goal

pub returns-then-room-lt128 : goal.returns-then-room-lt128
returns-then-room-lt128 c = draws_cleared c.clear.ensures.1
