use Rattle.omf_image.proofs.LengthLaws.{length_decided}
use Rattle.omf_image.proofs.laws.lengths_are_decided.Goals as goal

pub returns : goal.returns
returns c = length_decided
