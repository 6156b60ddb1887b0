use Rattle.omf_image.proofs.TurnLaws.{images_are}
use Rattle.omf_image.proofs.laws.images_are_overlays.Goals as goal

pub returns : goal.returns
returns c = images_are
