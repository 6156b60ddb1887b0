use Rattle.omf_keys.proofs.ChosenLaws.{chosen}
use Rattle.omf_keys.proofs.laws.chosen_by_keys.Goals as goal

pub returns : goal.returns
returns c = chosen c.pieces_by_keys.ensures c.without_by_keys.ensures
