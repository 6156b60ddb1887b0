use Rattle.omf_image.proofs.ComputedLaws.{are_measured}
use Rattle.omf_image.proofs.laws.blocks_are_measured.Goals as goal

pub returns : goal.returns
returns c = are_measured
