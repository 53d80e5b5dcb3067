-- `liveness::by_tables`. Assumes nothing.
use native.Mathlib.Omega.{arith}
use mathlib.Core.Path.{◌∙◌}
use Rattle.nll_spec.specs.Graph.{graph_of}
use Rattle.liveness.proofs.LiveLaws.{live_rows}
use Rattle.liveness.proofs.by_tables.Goals as goal

pub returns : goal.returns
returns c = let a = c.args in
    let r = c.requires in
    live_rows a.graph.now.input a.graph.now.first a.graph.now.succ a.graph.now.walked r.1 c.fill.ensures (λ i e k. c.flow.ensures.1 (omega (arith, r.4, c.from-code.ensures)) (omega (arith, r.5, c.from-code.ensures)) (graph_of i) e (c.from-code.ensures ∙ k)) c.rows.ensures c.rows-2.ensures
