use Rattle.omf_image.proofs.RunLaws.{byte_at-append}
use Rattle.omf_image.proofs.laws.last_piece_wins.Goals as goal

pub returns : goal.returns
returns c = byte_at-append
