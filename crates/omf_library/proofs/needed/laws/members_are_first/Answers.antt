use Rattle.omf_library.proofs.NeededLawsShown.{members-first}
use Rattle.omf_library.proofs.needed.laws.members_are_first.Goals as goal

pub returns : goal.returns
returns c = members-first
