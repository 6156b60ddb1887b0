use Rattle.omf_library.proofs.NeededLawsShown.{nowhere}
use Rattle.omf_library.proofs.needed.laws.undefined_are_nowhere.Goals as goal

pub returns : goal.returns
returns c = nowhere
