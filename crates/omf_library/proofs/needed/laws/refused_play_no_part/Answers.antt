use Rattle.omf_library.proofs.RefusedLaws.{no-part}
use Rattle.omf_library.proofs.needed.laws.refused_play_no_part.Goals as goal

pub returns : goal.returns
returns c = no-part
