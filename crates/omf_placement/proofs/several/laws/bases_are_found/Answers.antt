use Rattle.omf_placement.proofs.BaseLaws.{bases-found}
use Rattle.omf_placement.proofs.several.laws.bases_are_found.Goals as goal

pub returns : goal.returns
returns c = λ limits m pl h own. bases-found limits m pl h own
