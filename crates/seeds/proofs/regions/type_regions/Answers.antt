-- `seeds::regions::type_regions` meets its contract. Assumes nothing.
use Rattle.seeds.proofs.ChosenLaws.{type-added}
use Rattle.seeds.proofs.regions.type_regions.Goals as goal

pub returns : goal.returns
returns c = type-added c.add_type.ensures
