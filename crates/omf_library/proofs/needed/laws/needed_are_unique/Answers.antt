use Rattle.omf_library.proofs.NeededLawsShown.{unique}
use Rattle.omf_library.proofs.needed.laws.needed_are_unique.Goals as goal

pub returns : goal.returns
returns c = unique
