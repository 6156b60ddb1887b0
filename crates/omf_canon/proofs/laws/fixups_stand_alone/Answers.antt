use Rattle.omf_canon.proofs.PartLaws.{stand-alone}
use Rattle.omf_canon.proofs.laws.fixups_stand_alone.Goals as goal

pub returns : goal.returns
returns c = stand-alone
