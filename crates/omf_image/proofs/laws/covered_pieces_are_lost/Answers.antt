use Rattle.omf_image.proofs.PaintLaws.{covered_are_lost}
use Rattle.omf_image.proofs.laws.covered_pieces_are_lost.Goals as goal

pub returns : goal.returns
returns c = covered_are_lost
