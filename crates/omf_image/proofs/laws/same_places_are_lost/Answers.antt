use Rattle.omf_image.proofs.PaintLaws.{same_are_lost}
use Rattle.omf_image.proofs.laws.same_places_are_lost.Goals as goal

pub returns : goal.returns
returns c = same_are_lost
