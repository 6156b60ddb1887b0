use Rattle.omf_image.proofs.LengthLaws.{blocks_read}
use Rattle.omf_image.proofs.laws.blocks_are_read.Goals as goal

pub returns : goal.returns
returns c = blocks_read
