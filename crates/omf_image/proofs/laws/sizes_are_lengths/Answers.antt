use Rattle.omf_image.proofs.BlocksLaws.{length-blocks_bytes}
use Rattle.omf_image.proofs.laws.sizes_are_lengths.Goals as goal

pub returns : goal.returns
returns c = length-blocks_bytes
