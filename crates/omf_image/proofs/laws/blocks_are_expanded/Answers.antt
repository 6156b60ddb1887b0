use Rattle.omf_image.proofs.ComputedLaws.{are_expanded}
use Rattle.omf_image.proofs.laws.blocks_are_expanded.Goals as goal

pub returns : goal.returns
returns c = are_expanded
