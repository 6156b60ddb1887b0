use Rattle.omf_image.proofs.TurnLaws.{none_cover}
use Rattle.omf_image.proofs.laws.no_bytes_cover_nothing.Goals as goal

pub returns : goal.returns
returns c = none_cover
