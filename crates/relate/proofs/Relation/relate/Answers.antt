use Rattle.relate.proofs.RelateLaws as laws
use Rattle.relate.proofs.Relation.relate.Goals as goal

pub returns : goal.returns
returns c = laws.whole_types c.relate_types.ensures
