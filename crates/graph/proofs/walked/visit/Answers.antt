-- `graph::walked::visit` meets its contract. Assumes nothing.
use mathlib.Core.Path.{◌∙◌}
use Rattle.graph.proofs.SearchLaws.{within_pushed, visited-new, push_room}
use Rattle.graph.specs.Search.{state_of}
use native.Mathlib.Omega.{arith}
use Rattle.graph.proofs.walked.visit.Goals as goal

pub returns : goal.returns
returns c = let a = c.args in
    let e = rw c.from-at.ensures at c.if-search-at-ne0.false in
    (rw c.from.ensures at c.push.ensures) ∙ within_pushed 64 a.b (state_of a.search.now) (omega arith) (push_room c.requires (omega arith) e) ∙ visited-new a.b (state_of a.search.now) (omega arith) e
