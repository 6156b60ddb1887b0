use Rattle.omf_output.proofs.ApartLaws.{stand-apart}
use Rattle.omf_output.proofs.exe.laws.words_stand_apart.Goals as goal

pub returns : goal.returns
returns c = stand-apart
