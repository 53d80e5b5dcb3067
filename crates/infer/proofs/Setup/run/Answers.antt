-- `infer::Setup::run`. The loop's invariant: the first i constraints are run, and what is drawn is of them. Assumes nothing.
use Rattle.constraint_list.proofs.ListLaws.{draws_none}
use Rattle.infer.proofs.RunLaws.{first_runs, next_runs, next_drawn}
use Rattle.infer.proofs.Setup.run.Goals as goal

pub loop-i-init : goal.loop-i-init
loop-i-init c = (first_runs c.args.list.now, draws_none)

pub loop-i-preserved : goal.loop-i-preserved
loop-i-preserved c = let l = c.loop-i.invariant in
    (next_runs c.args.list.now c.loop-i.i l.0 c.get-c.ensures c.run_one.ensures.0, next_drawn c.args.list.now c.loop-i.i l.1 c.get-c.ensures c.run_one.ensures.1)
