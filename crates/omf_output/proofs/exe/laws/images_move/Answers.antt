use Rattle.omf_output.proofs.ImageMoves.{images}
use Rattle.omf_output.proofs.exe.laws.images_move.Goals as goal

pub returns : goal.returns
returns c = images
