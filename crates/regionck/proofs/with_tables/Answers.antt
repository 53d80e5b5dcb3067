-- `regionck::with_tables`: no row has an absent region yet. Assumes nothing.
use Rattle.regionck.proofs.with_tables.Goals as goal

pub returns : goal.returns
returns g c = λ j x chained. c.solve-grew.ensures j x chained _ c.tell.ensures
