-- `constraint_list::add` meets its contract. Assumes nothing.
use native.Mathlib.Omega.{arith}
use Rattle.constraint_list.proofs.ListLaws.{adds_one, draws_one}
use Rattle.constraint_list.proofs.add.Goals as goal

pub returns-then-room-gt0 : goal.returns-then-room-gt0
returns-then-room-gt0 c =
    let added = adds_one c.args.list.now _ _ c.count-at.ensures (omega arith) c.from.ensures in
    (added, draws_one (omega arith) added)
