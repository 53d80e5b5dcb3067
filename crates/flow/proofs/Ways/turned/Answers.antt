-- `flow::Ways::turned`: the edge goes as the direction says. Assumes nothing.
use Rattle.flow.proofs.RunningLaws.{turned_out, turned_forward, turned_backward}
use Rattle.flow.proofs.Ways.turned.Goals as goal

pub returns-then-self-q : goal.returns-then-self-q
returns-then-self-q c = turned_out c.args.self.now.direction c.args.self.now.code c.args.p c.args.s _ c.from-q.ensures c.args.self.now.pass.now c.args.sets.now c.if-self-q.true

pub returns-in-Forward : goal.returns-in-Forward
returns-in-Forward c = rw c.in-Forward.is (turned_forward c.args.self.now.code c.args.p c.args.s _ c.from-q.ensures c.if-self-q.false c.edge.ensures)

pub returns-in-Backward : goal.returns-in-Backward
returns-in-Backward c = rw c.in-Backward.is (turned_backward c.args.self.now.code c.args.p c.args.s _ c.from-q.ensures c.if-self-q.false c.edge-in-Backward.ensures)
