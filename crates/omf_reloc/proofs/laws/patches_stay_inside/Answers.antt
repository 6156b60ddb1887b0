use Rattle.omf_reloc.proofs.PatchLaws.{stays_inside}
use Rattle.omf_reloc.proofs.laws.patches_stay_inside.Goals as goal

pub returns : goal.returns
returns c = stays_inside
